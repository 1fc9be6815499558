-- No row of a sample's line is refused, nor is the whole.
use Rattle.std.proofs.Common.{ℕ, zero, suc, pos, ◌≡◌, ◌∙◌, ◌<◌, ◌+◌, ◌-◌, ◌*◌, ◌%◌, ◌++◌, ◌∷◌, ◌||◌, List, [], Option, None, Ok, Bool, true, false, length, length-append, map, get_or, refl, sym, ap, arith, append_assoc, nat_eq, nat_lt, not, eq-eqb}
use Rattle.std.specs.Fmt.{decimal, signed_decimal}
use Rattle.std.specs.List.{range_with_len}
use Rattle.std.specs.Option.{option_or}
use Rattle.std.proofs.lemmas.Bool.{le-ltb}
use Rattle.std.proofs.lemmas.List.{append-nil, map-append}
use Rattle.std.proofs.lemmas.List.FromFn.{get_or-map-range_with_len, length-map-range_with_len, map-range_with_len_more}
use Rattle.csv.specs.Records.{field_at}
use Rattle.rail_base.specs.Numbers.{number_of}
use Rattle.line_file.specs.declared.line.Line.{Line}
use Rattle.line_file.specs.declared.line.LineFault.TheVariants as fault
use Rattle.line_file.specs.declared.sections.Section.{Section}
use Rattle.line_file.specs.LineText.{are_some, fault_of, follows, is_line_header, last_to, line_from, line_of, no_section, row_fault, row_of, whole_fault, with_row}
use Rattle.line_file.specs.OneMoreRow.{line_from-push}
use Rattle.line_file.specs.RowFile.{below_header, rows_fault, rows_in, unless}
use Rattle.line_file.specs.Rows.{Fields}
use Rattle.sample_lines.specs.Draws.{draw, gradient, limit}
use Rattle.sample_lines.specs.Texts.{line_text}
use Rattle.sample_rules.proofs.CsvRows.{Four, fields}
use Rattle.sample_rules.proofs.LineSays.{gradient-adds, gradient-passes, gradient_in_range, gradient_is_read, gradient_row, kept, limit-adds, limit-passes, limit_in_range, limit_is_read, limit_row, line-rows, rows, section}
use Rattle.sample_rules.proofs.Numbers.{place_read}

-- ---- the sections

abbrev pub limit_section : ℕ → ℕ → Section
limit_section n b = section b (kept (limit n b))

abbrev pub gradient_section : ℕ → ℕ → Section
gradient_section n b = section b (gradient n b)

-- the first k of them
abbrev pub first : (ℕ → Section) → ℕ → List Section
first s k = map s (range_with_len 0 k)

-- the line of the first limits, and of all limits and the first gradients
abbrev limits_line : ℕ → ℕ → Line
limits_line n k = record { limits = first (limit_section n) k; gradients = [] }

abbrev gradients_line : ℕ → ℕ → Line
gradients_line n k = record { limits = first (limit_section n) 40; gradients = first (gradient_section n) k }

-- the line of a sample
abbrev pub sample_line : ℕ → Line
sample_line n = gradients_line n 40

first-more : (s : ℕ → Section) (k : ℕ) → first s k ++ s k ∷ [] ≡ first s (k + 1)
first-more s k = sym (map-range_with_len_more s 0 k k (omega arith))

or-true : (a b : Bool) → b ≡ true → (a || b) ≡ true
or-true true b h = refl
or-true false b h = h

-- each section begins where the one before it ends
follows-next : (s : ℕ → Section) → ((b : ℕ) → (s b).from ≡ 1000 * b) → ((b : ℕ) → (s b).to ≡ 1000 * (b + 1)) → (k : ℕ) → follows (first s k) (s k) ≡ true
follows-next s f t zero = refl
follows-next s f t (suc j) =
    let xs = first s (suc j) in
    let len : length xs - 1 ≡ j = omega (arith, length-map-range_with_len s 0 (suc j)) in
    let last : get_or xs (length xs - 1) no_section ≡ s j = ap (λ (i : ℕ). get_or xs i no_section) len ∙ get_or-map-range_with_len s 0 (suc j) j j no_section (omega arith) (omega arith) in
    let to : last_to xs ≡ 1000 * (j + 1) = ap (λ (x : Section). x.to) last ∙ t j in
    let same : last_to xs ≡ (s (suc j)).from = omega (arith, to, f (suc j)) in
    or-true (not (are_some xs)) (nat_eq (last_to xs) (s (suc j)).from) (eq-eqb (last_to xs) (s (suc j)).from same)

-- ---- row by row

-- the rows that are left have no fault, and all of them make this line
record Ends (before rest : List Fields) (l : Line) : Type 0 where
  none : rows_fault line_from row_fault before rest ≡ None
  all : line_from (before ++ rest) ≡ l

one-more : (before : List Fields) (r : Fields) (rest : List Fields) (l : Line) → row_fault (length before + 1) (line_from before) r ≡ None → Ends (before ++ r ∷ []) rest l → Ends before (r ∷ rest) l
unfolding rows_fault
one-more before r rest l e h = record { none = rw e h.none; all = ap line_from (sym (append_assoc before (r ∷ []) rest)) ∙ h.all }

-- a row of four fields that is not one too many has only the fault of its fields
fault-none : (k : ℕ) (r : Four) (l : Line) → k < 20000 → fault_of (k + 1) l (row_of (fields r)) ≡ None → row_fault (k + 1) l (fields r) ≡ None
fault-none k r l h e =
    let few : nat_lt 20000 (k + 1) ≡ false = le-ltb 20000 (k + 1) (omega arith) in
    rw (few, e) refl

limit-none : (n k : ℕ) (before : List Fields) → k < 40 → length before ≡ k → line_from before ≡ limits_line n k → row_fault (length before + 1) (line_from before) (fields (limit_row n k)) ≡ None
unfolding field_at
limit-none n k before h len is =
    let in_row = limit-passes k (number_of (decimal (1000 * k))) (number_of (decimal (1000 * (k + 1)))) (number_of (signed_decimal (pos (limit n k)))) (place_read k (omega arith)).read (place_read (k + 1) (omega arith)).read
    (limit n k) (limit_is_read n k).read (limit_in_range k (draw n (2 * k + 2) % 9) h (omega arith)) (k + 1) (limits_line n k)
    (follows-next (limit_section n) (λ b. refl) (λ b. refl) k) in
    rw (len, is) (fault-none k (limit_row n k) (limits_line n k) (omega arith) in_row)

limit-line : (n k : ℕ) (before : List Fields) → k < 40 → line_from before ≡ limits_line n k → line_from (before ++ fields (limit_row n k) ∷ []) ≡ limits_line n (k + 1)
unfolding field_at
limit-line n k before h is =
    let r = fields (limit_row n k) in
    let adds = limit-adds k (number_of (decimal (1000 * k))) (number_of (decimal (1000 * (k + 1)))) (number_of (signed_decimal (pos (limit n k)))) (place_read k (omega arith)).read (place_read (k + 1) (omega arith)).read
    (limit n k) (limit_is_read n k).read (limit_in_range k (draw n (2 * k + 2) % 9) h (omega arith)) (limits_line n k) in
    line_from-push before r ∙ ap (λ (l : Line). with_row l (row_of r)) is ∙ adds
    ∙ ap (λ (xs : List Section). record { limits = xs; gradients = [] }) (first-more (limit_section n) k)

gradient-none : (n k : ℕ) (before : List Fields) → k < 40 → length before ≡ 40 + k → line_from before ≡ gradients_line n k → row_fault (length before + 1) (line_from before) (fields (gradient_row n k)) ≡ None
unfolding field_at
gradient-none n k before h len is =
    let in_row = gradient-passes k (number_of (decimal (1000 * k))) (number_of (decimal (1000 * (k + 1)))) (number_of (signed_decimal (gradient n k))) (place_read k (omega arith)).read (place_read (k + 1) (omega arith)).read
    (gradient n k) (gradient_is_read n k).read (gradient_in_range k (draw n (2 * k + 1) % 101) h (omega arith)) (40 + k + 1) (gradients_line n k)
    (follows-next (gradient_section n) (λ b. refl) (λ b. refl) k) in
    rw (len, is) (fault-none (40 + k) (gradient_row n k) (gradients_line n k) (omega arith) in_row)

gradient-line : (n k : ℕ) (before : List Fields) → k < 40 → line_from before ≡ gradients_line n k → line_from (before ++ fields (gradient_row n k) ∷ []) ≡ gradients_line n (k + 1)
unfolding field_at
gradient-line n k before h is =
    let r = fields (gradient_row n k) in
    let limits = first (limit_section n) 40 in
    let adds = gradient-adds k (number_of (decimal (1000 * k))) (number_of (decimal (1000 * (k + 1)))) (number_of (signed_decimal (gradient n k))) (place_read k (omega arith)).read (place_read (k + 1) (omega arith)).read
    (gradient n k) (gradient_is_read n k).read (gradient_in_range k (draw n (2 * k + 1) % 101) h (omega arith)) (gradients_line n k) in
    line_from-push before r ∙ ap (λ (l : Line). with_row l (row_of r)) is ∙ adds
    ∙ ap (λ (xs : List Section). record { limits = xs; gradients = first (gradient_section n) k ++ gradient_section n k ∷ [] }) (append-nil limits)
    ∙ ap (λ (xs : List Section). record { limits = limits; gradients = xs }) (first-more (gradient_section n) k)

one_longer : (before : List Fields) (r : Fields) (k : ℕ) → length before ≡ k → length (before ++ r ∷ []) ≡ k + 1
one_longer before r k e = omega (arith, e, length-append before (r ∷ []))

gradients-end : (n m k : ℕ) (before : List Fields) → k + m ≡ 40 → length before ≡ 40 + k → line_from before ≡ gradients_line n k
    → Ends before (map fields (map (gradient_row n) (range_with_len k m))) (sample_line n)
unfolding rows_fault
gradients-end n zero k before e len is =
    let all : k ≡ 40 = omega arith in
    record { none = refl; all = ap line_from (append-nil before) ∙ is ∙ ap (gradients_line n) all }
gradients-end n (suc m) k before e len is =
    let r = fields (gradient_row n k) in
    let within : k < 40 = omega arith in
    let more : length (before ++ r ∷ []) ≡ 40 + (k + 1) = omega (arith, one_longer before r (40 + k) len) in
    one-more before r (map fields (map (gradient_row n) (range_with_len (k + 1) m))) (sample_line n) (gradient-none n k before within len is)
    (gradients-end n m (k + 1) (before ++ r ∷ []) (omega arith) more (gradient-line n k before within is))

limits-end : (n m k : ℕ) (before : List Fields) → k + m ≡ 40 → length before ≡ k → line_from before ≡ limits_line n k
    → Ends before (map fields (map (limit_row n) (range_with_len k m)) ++ map fields (map (gradient_row n) (range_with_len 0 40))) (sample_line n)
limits-end n zero k before e len is =
    let all : k ≡ 40 = omega arith in
    gradients-end n 40 0 before (omega arith) (omega arith) (is ∙ ap (limits_line n) all)
limits-end n (suc m) k before e len is =
    let r = fields (limit_row n k) in
    let within : k < 40 = omega arith in
    one-more before r (map fields (map (limit_row n) (range_with_len (k + 1) m)) ++ map fields (map (gradient_row n) (range_with_len 0 40))) (sample_line n) (limit-none n k before within len is)
    (limits-end n m (k + 1) (before ++ r ∷ []) (omega arith) (one_longer before r k len) (limit-line n k before within is))

rows-end : (n : ℕ) → Ends [] (map fields (rows n)) (sample_line n)
rows-end n =
    let xs = map (limit_row n) (range_with_len 0 40) in
    let ys = map (gradient_row n) (range_with_len 0 40) in
    let parts : map fields (xs ++ ys) ≡ map fields xs ++ map fields ys = map-append fields xs ys in
    rw parts (limits-end n 40 0 [] (omega arith) refl refl)

whole-none : (n : ℕ) → whole_fault (sample_line n) ≡ None
whole-none n = refl

accepted : {T F : Type 0} (o w : Option F) (made l : T) → o ≡ None → w ≡ None → made ≡ l → unless (option_or o w) made ≡ Ok l
accepted o w made l d e is = rw (d, e, is) refl

below : (xs : List Fields) (l : Line) → rows_fault line_from row_fault [] xs ≡ None → line_from xs ≡ l → whole_fault l ≡ None → below_header line_from row_fault whole_fault xs ≡ Ok l
below xs l e is w = accepted (rows_fault line_from row_fault [] xs) (whole_fault (line_from xs)) (line_from xs) l e (ap whole_fault is ∙ w) is

-- what the line of a sample says
pub line-says : (n : ℕ) → line_of (line_text n) ≡ Ok (sample_line n)
unfolding field_at
line-says n =
    let end = rows-end n in
    ap (rows_in is_line_header fault.BadHeader (below_header line_from row_fault whole_fault)) (line-rows n)
    ∙ below (map fields (rows n)) (sample_line n) end.none end.all (whole-none n)
