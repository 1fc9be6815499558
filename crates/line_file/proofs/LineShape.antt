-- Every line that is read has its shape.
use Rattle.std.proofs.Common.{◌≡◌, ◌<◌, ◌≤◌, ◌+◌, ◌++◌, ◌∷◌, ◌&&◌, ℕ, ℤ, pos, negsuc, Bool, true, false, List, [], Option, Some, None, Result, Ok, Err, length, length-append, cond, refl, sym, arith, not, nat_eq}
use Rattle.std.proofs.lemmas.Int.{ints}
use Rattle.std.proofs.lemmas.Bool.Decides.{nat_tests}
use Rattle.line_file.specs.LineText.{are_some, by_kind, checked_row, fault_of, first_from, follows, is_in_range, is_line_header, kind_of, last_to, line_from, line_of, numbers_of, no_section, row_fault, row_from, row_of, whole_fault, with_row}
use Rattle.line_file.specs.Shape.{AreSections, IsLine, IsSection}
use Rattle.std.proofs.lemmas.List.{append-nil}
use Rattle.line_file.proofs.OneMoreItem.{each-push, next-push}
use Rattle.line_file.proofs.RowFileLemmas.{counted, passes, read-is}
use Rattle.line_file.specs.OneMoreRow.{line_from-push}
use Rattle.line_file.specs.declared.line.Line.{Line}
use Rattle.line_file.specs.Rows.{Fields, field_of, rows_of}
use Rattle.line_file.specs.declared.sections.Section.{Section}
use Rattle.line_file.specs.declared.line.Kind.{Kind}
use Rattle.line_file.specs.declared.line.Kind.TheVariants.{Limit, Gradient}
use Rattle.line_file.specs.declared.line.RowNumbers.{RowNumbers}
use Rattle.line_file.specs.declared.line.LineRow.{LineRow}
use Rattle.line_file.specs.declared.line.RowFault.{RowFault}
use Rattle.line_file.specs.declared.line.RowFault.TheVariants as amiss
use Rattle.line_file.specs.declared.line.LineFault.TheVariants as fault

limit-IsSection : (n : RowNumbers) → is_in_range Limit n ≡ true → IsSection (pos 1) (pos 12000) (row_from Limit n).section
limit-IsSection n h = record { long = grind (arith, ints, nat_tests); near = grind (arith, ints, nat_tests); value = grind (arith, ints, nat_tests) }

gradient-IsSection : (n : RowNumbers) → is_in_range Gradient n ≡ true → IsSection (negsuc 999) (pos 1000) (row_from Gradient n).section
gradient-IsSection n h = record { long = grind (arith, ints, nat_tests); near = grind (arith, ints, nat_tests); value = grind (arith, ints, nat_tests) }

follows-some : (xs : List Section) (s : Section) → follows xs s ≡ true → 0 < length xs → last_to xs ≡ s.from
follows-some xs s h some = grind (arith, nat_tests)

-- one more section
push-AreSections : (low high : ℤ) (xs : List Section) (s : Section) → AreSections low high xs → IsSection low high s → follows xs s ≡ true → AreSections low high (xs ++ s ∷ [])
push-AreSections low high xs s a i f = record {
  each = each-push no_section (IsSection low high) xs s a.each i;
  follow = next-push no_section (λ before next. next.from ≡ before.to) xs s a.follow (λ some. sym (follows-some xs s f some));
}

-- what holds of a line after n rows
record IsLineSoFar (line : Line) (n : ℕ) : Type 0 where
  pub limits : AreSections (pos 1) (pos 12000) line.limits
  pub gradients : AreSections (negsuc 999) (pos 1000) line.gradients
  pub few : length line.limits + length line.gradients ≤ n
  pub within : n ≤ 20000

no_row-IsLineSoFar : IsLineSoFar (line_from []) 0
no_row-IsLineSoFar = record {
  limits = record { each = λ k h. absurd (omega arith); follow = λ k h. absurd (omega arith) };
  gradients = record { each = λ k h. absurd (omega arith); follow = λ k h. absurd (omega arith) };
  few = omega arith;
  within = omega arith;
}

-- a row that is right by itself has a kind and numbers that are in their ranges
record IsRead (row : LineRow) : Type 0 where
  kind : Kind
  numbers : RowNumbers
  is : row ≡ row_from kind numbers
  in_range : is_in_range kind numbers ≡ true

read_row : (kind : Option Kind) (numbers : Option RowNumbers) (row : LineRow) → checked_row kind numbers ≡ Ok row → IsRead row
read_row None numbers row e = cc e
read_row (Some kind) None row e = cc e
read_row (Some kind) (Some n) row e = by (is_in_range kind n) refl
  where
    by : (b : Bool) → is_in_range kind n ≡ b → IsRead row
    by true t =
        let same : Ok (row_from kind n) ≡ Ok row = rw t at e in
        record { kind = kind; numbers = n; is = cc same; in_range = t }
    by false t =
        let other : Err amiss.Range ≡ Ok row = rw t at e in
        cc other

module _ (line : Line) (n : ℕ) (h : IsLineSoFar line n) (within : n + 1 ≤ 20000) where
  -- a line with one more section
  section-IsLineSoFar : (kind : Kind) (m : RowNumbers) → is_in_range kind m ≡ true → follows (by_kind kind line.limits line.gradients) (row_from kind m).section ≡ true
      → IsLineSoFar (with_row line (Ok (row_from kind m))) (n + 1)
  section-IsLineSoFar Limit m t f = record {
    limits = push-AreSections (pos 1) (pos 12000) line.limits _ h.limits (limit-IsSection m t) f;
    gradients = rw (append-nil line.gradients) h.gradients;
    few = rw (append-nil line.gradients) (omega (arith, h.few, length-append line.limits ((row_from Limit m).section ∷ [])));
    within = within;
  }
  section-IsLineSoFar Gradient m t f = record {
    limits = rw (append-nil line.limits) h.limits;
    gradients = push-AreSections (negsuc 999) (pos 1000) line.gradients _ h.gradients (gradient-IsSection m t) f;
    few = rw (append-nil line.limits) (omega (arith, h.few, length-append line.gradients ((row_from Gradient m).section ∷ [])));
    within = within;
  }

row-IsLineSoFar : (before : List Fields) (r : Fields) → IsLineSoFar (line_from before) (length before) → row_fault (length before + 1) (line_from before) r ≡ None
    → IsLineSoFar (line_from (before ++ r ∷ [])) (length before + 1)
row-IsLineSoFar before r h e = rw (line_from-push before r) (by (row_of r) refl right.1)
  where
    line : Line
    line = line_from before

    n : ℕ
    n = length before + 1

    right : (n ≤ 20000) × (fault_of n line (row_of r) ≡ None)
    right = counted 20000 n r (fault.BadRow n) fault.TooManyRows (fault_of n line (row_of r)) e

    by : (o : Result LineRow RowFault) → row_of r ≡ o → fault_of n line o ≡ None → IsLineSoFar (with_row line o) n
    by (Err amiss.Kind) is f = cc f
    by (Err amiss.Number) is f = cc f
    by (Err amiss.Range) is f = cc f
    by (Ok row) is f =
        let q = read_row (kind_of (field_of r 0)) (numbers_of r) row is in
        let after = passes (follows (by_kind row.kind line.limits line.gradients) row.section) (fault.Gap n) f in
        rw q.is (section-IsLineSoFar line (length before) h right.0 q.kind q.numbers q.in_range (rw q.is at after))

both : (a b : Bool) → cond (not a) (Some fault.NoSections) (cond b None (Some fault.EndsDiffer)) ≡ None → (a ≡ true) × (b ≡ true)
both true true e = (refl, refl)
both true false e = cc e
both false b e = cc e

-- a line without a fault
whole-IsLine : (line : Line) (n : ℕ) → IsLineSoFar line n → whole_fault line ≡ None → IsLine line
whole-IsLine line n h e =
    let t = both (are_some line.limits && are_some line.gradients) ((nat_eq (first_from line.limits) (first_from line.gradients)) && (nat_eq (last_to line.limits) (last_to line.gradients))) e in
    let some = t.0 in
    let same = t.1 in
    record {
      limits = h.limits;
      gradients = h.gradients;
      some = (grind (arith, nat_tests), grind (arith, nat_tests));
      few = omega (arith, h.few, h.within);
      starts = grind (arith, nat_tests);
      ends = grind (arith, nat_tests);
    }

-- whatever a text says
pub line-IsLine : (text : List ℕ) (line : Line) → line_of text ≡ Ok line → IsLine line
line-IsLine text = read-is line_from row_fault whole_fault IsLineSoFar IsLine no_row-IsLineSoFar row-IsLineSoFar whole-IsLine is_line_header fault.BadHeader (rows_of text)
