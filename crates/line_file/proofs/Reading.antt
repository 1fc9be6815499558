-- A reader of rows, record by record.
use Rattle.std.proofs.Common.{◌≡◌, ◌<◌, ◌+◌, ◌∷◌, ◌∙◌, inl, ℕ, List, [], length, Option, Some, None, true, false, refl, ap, arith, unwrap_or, Bor, IsSome}
use Rattle.csv.specs.Reading.{ReadRecord, default_config, is_flexible, reader_state, records_from, source_of, strip_bom}
use Rattle.csv.specs.declared.parser.State.TheVariants as st
use Rattle.csv.specs.declared.reader.Reader.{Reader}
use Rattle.csv.proofs.ReadFacts.{rows-end}
use Rattle.line_file.specs.Rows.{IsReading, bytes_left, filled, is_blank, records_left, rows_left, rows_of, without_mark}
use Rattle.line_file.proofs.Left.{any-turns, none-left, read-on}

abbrev pub rem : Bor (List ℕ) → Option (List ℕ)
rem s = Some s.now

-- a reader at the start of a text
pub at-start : (r : Reader (Bor (List ℕ))) (xs text : List ℕ) → source_of rem r ≡ Some (strip_bom xs) → reader_state r ≡ st.StartRecord → xs ≡ without_mark text
    → rows_left r ≡ rows_of text
unfolding rows_of
at-start r xs text source state same = rw (source, state, same) refl

pub some-source : (o : Option (List ℕ)) → IsSome o → o ≡ Some (unwrap_or o [])
some-source None h = cc h
some-source (Some xs) h = refl

-- what a read of a record leaves
pub record After (a b : Reader (Bor (List ℕ))) (f : List (List ℕ)) : Type 0 where
  pub reading : IsReading b
  pub records : records_left a ≡ f ∷ records_left b

pub after-record : (a b : Reader (Bor (List ℕ))) (f : List (List ℕ)) → IsReading a → ReadRecord rem a b true f → b.first ≡ true → is_flexible b ≡ is_flexible a
    → After a b f
after-record a b f m r first flexible =
    let xs = bytes_left a in
    let source : source_of rem a ≡ Some xs = some-source (source_of rem a) m.4 in
    let on = read-on rem a b f default_config (length xs + 1) xs m.3 source (inl (omega arith)) r in
    let left : bytes_left b ≡ on.rest = ap (λ (o : Option (List ℕ)). unwrap_or o []) on.source in
    let same : records_from default_config on.took.turns b.state on.rest ≡ records_from default_config (length (bytes_left b) + 1) (reader_state b) (bytes_left b) =
    rw left (any-turns default_config on.took.turns (length on.rest + 1) b.state on.rest on.took.enough (inl (omega arith))) in
    record {
      reading = (r.3 ∙ m.0, inl first, flexible ∙ m.2, r.2 ∙ m.3, rw on.source refl);
      records = on.took.left ∙ ap (λ rows. f ∷ rows) same;
    }

-- a blank record leaves the rows as they were
pub after-blank : (a b : Reader (Bor (List ℕ))) (f : List (List ℕ)) → After a b f → is_blank f ≡ true → rows_left a ≡ rows_left b
after-blank a b f h blank = ap filled h.records ∙ rw blank refl

pub after-row : (a b : Reader (Bor (List ℕ))) (f : List (List ℕ)) → After a b f → is_blank f ≡ false → rows_left a ≡ f ∷ rows_left b
after-row a b f h row = ap filled h.records ∙ rw row refl

-- a record takes one of those that are left
pub fewer-left : (a b : Reader (Bor (List ℕ))) (f : List (List ℕ)) → After a b f → length (records_left b) < length (records_left a)
fewer-left a b f h = omega (arith, ap length h.records)

-- at the end of the text
pub at-end : (a b : Reader (Bor (List ℕ))) (f : List (List ℕ)) → IsReading a → ReadRecord rem a b false f → rows_left a ≡ []
at-end a b f m r =
    let xs = bytes_left a in
    let source : source_of rem a ≡ Some xs = some-source (source_of rem a) m.4 in
    ap filled (none-left default_config (length xs + 1) a.state xs (rows-end rem a b f default_config xs m.3 source r))
