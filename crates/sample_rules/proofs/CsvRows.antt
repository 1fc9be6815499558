-- Rows of four plain fields, as `csv` reads them.
use Rattle.std.proofs.Common.{ℕ, zero, suc, ◌≡◌, ◌<◌, ◌++◌, ◌∷◌, List, [], false, length, length-append, map, refl, ap, arith, append_assoc}
use Rattle.std.specs.List.{flat_map, list_any}
use Rattle.std.proofs.lemmas.List.{append-nil}
use Rattle.csv.specs.Machine.{next_record}
use Rattle.csv.specs.Reading.{default_config, records_from}
use Rattle.csv.specs.Writing.{default_writer, fields_text, is_blank as is_blank_row, needs_byte, row_text}
use Rattle.csv.specs.declared.parser.State.TheVariants as st
use Rattle.csv.proofs.RoundTrip.{read-write-many}
use Rattle.rail_base.specs.Texts.{line}
use Rattle.line_file.specs.Rows.{Fields, filled}

-- the four fields of a row
pub record Four : Type 0 where
  pub kind : List ℕ
  pub from : List ℕ
  pub to : List ℕ
  pub value : List ℕ

abbrev pub fields : Four → Fields
fields r = r.kind ∷ r.from ∷ r.to ∷ r.value ∷ []

-- no field needs quotes
pub record IsPlain (r : Four) : Type 0 where
  pub kind : list_any (needs_byte default_writer) r.kind ≡ false
  pub from : list_any (needs_byte default_writer) r.from ≡ false
  pub to : list_any (needs_byte default_writer) r.to ≡ false
  pub value : list_any (needs_byte default_writer) r.value ≡ false

-- the row as `csv` writes it
abbrev pub written : Four → List ℕ
written r = row_text default_writer (fields r)

-- a plain row is written as its fields with commas
pub written-plain : (r : Four) → IsPlain r → written r ≡ line (r.kind ++ 44 ∷ r.from ++ 44 ∷ r.to ++ 44 ∷ r.value)
unfolding is_blank_row fields_text
written-plain r p = rw (p.kind, p.from, p.to, p.value) (simp (append_assoc, append-nil))

written-some : (r : Four) (rest : List ℕ) → length rest < length (written r ++ rest)
unfolding is_blank_row fields_text
written-some r rest = simp length-append (omega arith)

-- the text of rows
abbrev pub text_of : List Four → List ℕ
text_of rows = flat_map written rows

-- its records are the rows
pub records-rows : (rows : List Four) (n : ℕ) → length (text_of rows) < n → records_from default_config n st.StartRecord (text_of rows) ≡ map fields rows
unfolding records_from next_record
records-rows [] zero h = absurd (omega arith)
records-rows [] (suc n) h = refl
records-rows (r ∷ rows) zero h = absurd (omega arith)
records-rows (r ∷ rows) (suc n) h =
    let some = written-some r (text_of rows) in
    rw (read-write-many r.kind r.from (r.to ∷ r.value ∷ []) (text_of rows)) (ap (λ (t : List Fields). fields r ∷ t) (records-rows rows n (omega (arith, some))))

-- none of them is blank
pub filled-rows : (rows : List Four) → filled (map fields rows) ≡ map fields rows
filled-rows [] = refl
filled-rows (r ∷ rows) = ap (λ (t : List Fields). fields r ∷ t) (filled-rows rows)
