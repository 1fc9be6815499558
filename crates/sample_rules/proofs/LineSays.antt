-- What the line of a sample says: it is refused for no number.
use Rattle.std.proofs.Common.{ℕ, ℤ, zero, suc, pos, negsuc, ◌≡◌, ◌∙◌, ◌<◌, ◌+◌, ◌*◌, ◌%◌, ◌/◌, ◌-ℤ◌, ◌++◌, ◌∷◌, ◌&&◌, List, [], Option, Some, None, Bool, true, length, map, refl, sym, ap, arith, append_assoc}
use Rattle.std.specs.Prelude.{codes}
use Rattle.std.specs.Fmt.{decimal, signed_decimal}
use Rattle.std.specs.List.{flat_map, range_with_len}
use Rattle.std.specs.Int.RustNames.{int_le, int_lt}
use Rattle.std.proofs.lemmas.Int.{ints}
use Rattle.std.proofs.lemmas.Bool.Decides.{nat_tests}
use Rattle.std.proofs.lemmas.List.Concat.{flat_map-append}
use Rattle.csv.specs.Reading.{default_config, records_from, strip_bom}
use Rattle.csv.specs.declared.parser.State.TheVariants as st
use Rattle.rail_base.specs.Texts.{line}
use Rattle.line_file.specs.declared.line.Line.{Line}
use Rattle.line_file.specs.declared.sections.Section.{Section}
use Rattle.line_file.specs.LineText.{checked_row, fault_of, follows, kind_of, three_numbers, with_row}
use Rattle.line_file.specs.Rows.{filled, rows_of, without_mark}
use Rattle.sample_lines.specs.Draws.{draw, gradient, limit}
use Rattle.sample_lines.specs.Texts.{gradient_line, gradient_lines, limit_line, limit_lines, line_text, row_line}
use Rattle.sample_rules.proofs.CsvRows.{Four, IsPlain, fields, filled-rows, records-rows, text_of, written, written-plain}
use Rattle.sample_rules.proofs.Numbers.{IsRead, gradient_read, limit_read, place_read}

-- ---- the rows

-- a row of a kind on section b
abbrev pub row : List ℕ → ℕ → ℤ → Four
row kind b value = record { kind = kind; from = decimal (1000 * b); to = decimal (1000 * (b + 1)); value = signed_decimal value }

abbrev pub limit_row : ℕ → ℕ → Four
limit_row n b = row (codes "limit") b (pos (limit n b))

abbrev pub gradient_row : ℕ → ℕ → Four
gradient_row n b = row (codes "gradient") b (gradient n b)

abbrev pub header : Four
header = record { kind = codes "kind"; from = codes "from"; to = codes "to"; value = codes "value" }

abbrev pub rows : ℕ → List Four
rows n = map (limit_row n) (range_with_len 0 40) ++ map (gradient_row n) (range_with_len 0 40)

pub limit_is_read : (n b : ℕ) → IsRead (pos (limit n b))
limit_is_read n b = limit_read (draw n (2 * b + 2) % 9) (omega arith)

pub gradient_is_read : (n b : ℕ) → IsRead (gradient n b)
gradient_is_read n b = gradient_read (draw n (2 * b + 1) % 101) (omega arith)

limit-IsPlain : (n b : ℕ) → b < 40 → IsPlain (limit_row n b)
limit-IsPlain n b h = record {
  kind = refl;
  from = (place_read b (omega arith)).plain;
  to = (place_read (b + 1) (omega arith)).plain;
  value = (limit_is_read n b).plain;
}

gradient-IsPlain : (n b : ℕ) → b < 40 → IsPlain (gradient_row n b)
gradient-IsPlain n b h = record {
  kind = refl;
  from = (place_read b (omega arith)).plain;
  to = (place_read (b + 1) (omega arith)).plain;
  value = (gradient_is_read n b).plain;
}

-- ---- their text

limit-written : (n b : ℕ) → b < 40 → limit_line n b ≡ written (limit_row n b)
unfolding row_line
limit-written n b h = sym (written-plain (limit_row n b) (limit-IsPlain n b h))

gradient-written : (n b : ℕ) → b < 40 → gradient_line n b ≡ written (gradient_row n b)
unfolding row_line
gradient-written n b h = sym (written-plain (gradient_row n b) (gradient-IsPlain n b h))

header-written : written header ≡ line (codes "kind,from,to,value")
header-written = written-plain header (record { kind = refl; from = refl; to = refl; value = refl })

pieces : (f : ℕ → List ℕ) (g : ℕ → Four) (a m : ℕ) → ((b : ℕ) → b < a + m → f b ≡ written (g b)) → flat_map f (range_with_len a m) ≡ text_of (map g (range_with_len a m))
pieces f g a zero h = refl
pieces f g a (suc m) h =
    let first : f a ≡ written (g a) = h a (omega arith) in
    let rest = pieces f g (a + 1) m (λ b l. h b (omega arith)) in
    rw (first, rest) refl

limits-text : (n : ℕ) → limit_lines n 40 ≡ text_of (map (limit_row n) (range_with_len 0 40))
unfolding limit_lines
limits-text n = pieces (limit_line n) (limit_row n) 0 40 (limit-written n)

gradients-text : (n : ℕ) → gradient_lines n 40 ≡ text_of (map (gradient_row n) (range_with_len 0 40))
unfolding gradient_lines
gradients-text n = pieces (gradient_line n) (gradient_row n) 0 40 (gradient-written n)

three_parts : (h a b x y z : List ℕ) → x ≡ h → a ≡ y → b ≡ z → h ++ a ++ b ≡ x ++ (y ++ z)
three_parts h a b x y z e f g = rw (e, f, g) (append_assoc h y z)

line-text : (n : ℕ) → line_text n ≡ text_of (header ∷ rows n)
line-text n =
    let limits = map (limit_row n) (range_with_len 0 40) in
    let gradients = map (gradient_row n) (range_with_len 0 40) in
    three_parts (line (codes "kind,from,to,value")) (limit_lines n 40) (gradient_lines n 40) (written header) (text_of limits) (text_of gradients)
    header-written (limits-text n) (gradients-text n) ∙ ap (λ (t : List ℕ). written header ++ t) (sym (flat_map-append written limits gradients))

rows-text : (text : List ℕ) (all : List Four) → text ≡ text_of all → without_mark text ≡ text → strip_bom text ≡ text → rows_of text ≡ map fields all
unfolding rows_of
rows-text text all e m s =
    let n : ℕ = length text + 1 in
    let here : length (text_of all) < n = omega (arith, ap length e) in
    let read : records_from default_config n st.StartRecord text ≡ map fields all = ap (records_from default_config n st.StartRecord) e ∙ records-rows all n here in
    rw (m, s) (ap filled read ∙ filled-rows all)

pub line-rows : (n : ℕ) → rows_of (line_text n) ≡ map fields (header ∷ rows n)
unfolding strip_bom
line-rows n = rows-text (line_text n) (header ∷ rows n) (line-text n) refl refl

-- ---- what each row says

abbrev pub section : ℕ → ℤ → Section
section b value = record { from = 1000 * b; to = 1000 * (b + 1); value = value }

-- cm/s
abbrev pub kept : ℕ → ℤ
kept k = pos (k * 100000 / 3600)

-- places and a value in their ranges
abbrev pub in_range : ℤ → ℤ → ℤ → ℤ → ℤ → Bool
in_range from to low value high = int_le (pos 0) from && int_lt from to && int_le to (pos 1000000) && (int_le low value && int_le value high)

pub limit_in_range : (b k : ℕ) → b < 40 → k < 9 → in_range (pos (1000 * b)) (pos (1000 * (b + 1))) (pos 1) (pos (54 + 9 * k)) (pos 432) ≡ true
limit_in_range b k h l = grind (arith, ints, nat_tests)

pub gradient_in_range : (b k : ℕ) → b < 40 → k < 101 → in_range (pos (1000 * b)) (pos (1000 * (b + 1))) (negsuc 999) (pos k -ℤ pos 50) (pos 1000) ≡ true
gradient_in_range b k h l = grind (arith, ints, nat_tests)

module _ (b : ℕ) (o p q : Option ℤ) (d : o ≡ Some (pos (1000 * b))) (e : p ≡ Some (pos (1000 * (b + 1)))) where
  pub limit-passes : (v : ℕ) → q ≡ Some (pos v) → in_range (pos (1000 * b)) (pos (1000 * (b + 1))) (pos 1) (pos v) (pos 432) ≡ true
      → (k : ℕ) (line : Line) → follows line.limits (section b (kept v)) ≡ true
      → fault_of k line (checked_row (kind_of (codes "limit")) (three_numbers o p q)) ≡ None
  limit-passes v f r k line s = rw (d, e, f, r, s) refl

  pub limit-adds : (v : ℕ) → q ≡ Some (pos v) → in_range (pos (1000 * b)) (pos (1000 * (b + 1))) (pos 1) (pos v) (pos 432) ≡ true
      → (line : Line) → with_row line (checked_row (kind_of (codes "limit")) (three_numbers o p q))
      ≡ record { limits = line.limits ++ section b (kept v) ∷ []; gradients = line.gradients ++ [] }
  limit-adds v f r line = rw (d, e, f, r) refl

  pub gradient-passes : (v : ℤ) → q ≡ Some v → in_range (pos (1000 * b)) (pos (1000 * (b + 1))) (negsuc 999) v (pos 1000) ≡ true
      → (k : ℕ) (line : Line) → follows line.gradients (section b v) ≡ true
      → fault_of k line (checked_row (kind_of (codes "gradient")) (three_numbers o p q)) ≡ None
  gradient-passes v f r k line s = rw (d, e, f, r, s) refl

  pub gradient-adds : (v : ℤ) → q ≡ Some v → in_range (pos (1000 * b)) (pos (1000 * (b + 1))) (negsuc 999) v (pos 1000) ≡ true
      → (line : Line) → with_row line (checked_row (kind_of (codes "gradient")) (three_numbers o p q))
      ≡ record { limits = line.limits ++ []; gradients = line.gradients ++ section b v ∷ [] }
  gradient-adds v f r line = rw (d, e, f, r) refl
