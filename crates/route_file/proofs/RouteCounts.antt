-- How many rows of steps are made while lines are read.
use Rattle.std.proofs.Common.{ℕ, ◌≡◌, ◌≤◌, ◌+◌, ◌*◌, ◌&&◌, Bool, true, false, List, [], ◌∷◌, Option, Some, None, Result, Ok, Err, refl, arith, count_by, ltb, cond, inl, inr, ap, if◌then◌else◌}
use Rattle.std.specs.Prelude.{ℤ, codes, is_none, nat_lt}
use Rattle.std.specs.Int.RustNames.{unsigned_abs}
use Rattle.std.proofs.lemmas.Bool.{cases_Bool, cases_lt, lt-ltb, le-ltb}
use Rattle.std.proofs.lemmas.List.Sums.{sum_by-cons}
use Rattle.std.specs.Str.{bytes_eq}
use Rattle.rail_base.specs.First.{first_in}
use Rattle.rail_base.specs.Lines.{number, numbers_after}
use Rattle.route_file.specs.declared.fault.RouteFault.{RouteFault}
use Rattle.route_file.specs.declared.fault.RouteFault.TheVariants.{Form, Range, TooManySteps, NoMemory}
use Rattle.route_file.specs.Route.{CountsRows, behind_faults, end_fault, entry_faults, form_then_range, is_light_step, is_step, is_step_line, is_step_of, row_count, row_counts, step_fault}
use Rattle.route_file.specs.RouteParts.{entry_fault, entry_rows}

-- where both of two tests hold, the first does
in_range : (a b : Bool) (e : RouteFault) → (if a && b then None else Some e) ≡ None → a ≡ true
in_range true b e h = refl
in_range false b e h = absurd (cc h)

-- the numbers of a line without a fault are a step's
step_there : (inertia c n : ℕ) (o : Option (List ℤ)) → form_then_range n o (is_light_step inertia c) ≡ None → is_step_of o ≡ true
step_there inertia c n None h = absurd (cc h)
step_there inertia c n (Some ns) h = in_range (is_step ns) (nat_lt (c * unsigned_abs (number ns 0)) (10000 * inertia)) (Range n) h

one_row : (many : Bool) (inertia c n : ℕ) (o : Option (List ℤ)) → (if many then Some TooManySteps else form_then_range n o (is_light_step inertia c)) ≡ None →
    ◌≡◌ {A = ℕ} (if many then 0 else (if is_step_of o then 1 else 0)) 1
one_row true inertia c n o h = absurd (cc h)
one_row false inertia c n o h = rw (step_there inertia c n o h) refl

-- a row is made of a step line without a fault
pub row_count-good : (inertia c n : ℕ) (line : List ℕ) → step_fault inertia c n line ≡ None → row_count n line ≡ 1
row_count-good inertia c n line h = one_row (ltb 4006 n) inertia c n (numbers_after (codes "step ") 3 line) h

-- a line of which a row is made, with more to come
counted_on : (begins good : Bool) (made more : ℕ) → begins ≡ true → good ≡ true → made ≡ 1 → (if begins then made + (if good then more else 0) else 0) ≡ 1 + more
counted_on begins good made more b g m = rw (b, g, m) refl

-- a step line without a fault, and the lines behind it
pub row_counts-step : (inertia c n : ℕ) (line : List ℕ) (ls : List (List ℕ)) → is_step_line line ≡ true → step_fault inertia c n line ≡ None →
    row_counts inertia c n (line ∷ ls) ≡ 1 + row_counts inertia c (n + 1) ls
row_counts-step inertia c n line ls s h =
    counted_on (is_step_line line) (is_none (step_fault inertia c n line)) (row_count n line) (row_counts inertia c (n + 1) ls) s (ap is_none h) (row_count-good inertia c n line h)

-- a line behind which no row is made
counted_last : (begins good : Bool) (made more : ℕ) → (begins ≡ true → good ≡ false) → (if begins then made + (if good then more else 0) else 0) ≡ (if begins then made else 0)
counted_last true good made more h = rw (h refl) (omega arith)
counted_last false good made more h = refl

-- the first of two, where it is taken
taken_first : (begins : Bool) (f g : Option RouteFault) (e : RouteFault) → (if begins then f else g) ≡ Some e → begins ≡ true → f ≡ Some e
taken_first true f g e h b = h
taken_first false f g e h b = absurd (cc b)

-- a line with a fault is the last of which a row is made
pub row_counts-refused : (inertia c n : ℕ) (line : List ℕ) (ls : List (List ℕ)) (e : RouteFault) → entry_fault inertia c n line ≡ Some e →
    row_counts inertia c n (line ∷ ls) ≡ entry_rows n line
row_counts-refused inertia c n line ls e h =
    counted_last (is_step_line line) (is_none (step_fault inertia c n line)) (row_count n line) (row_counts inertia c (n + 1) ls)
    (λ b. ap is_none (taken_first (is_step_line line) (step_fault inertia c n line) _ e h b))

-- no row is made of the end, nor of what stands behind it
pub row_counts-end : (inertia c n : ℕ) (line : List ℕ) (ls : List (List ℕ)) → is_step_line line ≡ false → row_counts inertia c n (line ∷ ls) ≡ 0
row_counts-end inertia c n line ls h = rw h refl

-- the fault of one of three is the first of those from it on
first_of : (begins ends : Bool) (f g h : Option RouteFault) (more behind : List (Option RouteFault)) (e : RouteFault) →
    (if begins then f else if ends then g else h) ≡ Some e → first_in (if begins then f ∷ more else if ends then g ∷ behind else h ∷ []) ≡ Some e
first_of true ends f g h more behind e k = rw k refl
first_of false true f g h more behind e k = rw k refl
first_of false false f g h more behind e k = rw k refl

-- a fault of a line is the first of the lines from it on
pub entry_refused : (inertia c n : ℕ) (line : List ℕ) (ls : List (List ℕ)) (e : RouteFault) → entry_fault inertia c n line ≡ Some e →
    first_in (entry_faults inertia c n (line ∷ ls)) ≡ Some e
entry_refused inertia c n line ls e h =
    first_of (is_step_line line) (bytes_eq line (codes "end")) (step_fault inertia c n line) (end_fault n) (Some (Form n)) (entry_faults inertia c (n + 1) ls)
    (behind_faults (n + 1) ls) e h

-- an exact count is right for every refusal
pub counts_refused : (A : Type 0) (e : RouteFault) (rows old new : ℕ) → new ≡ old + rows → CountsRows {A = A} (Err e) rows old new
counts_refused A (Form n) rows old new h = h
counts_refused A (Range n) rows old new h = h
counts_refused A TooManySteps rows old new h = h
counts_refused A NoMemory rows old new h = (omega (arith, h), omega (arith, h))

-- a choice between one and none, and between none and that, is at most one
one_at_most : (many there : Bool) → (if many then 0 else (if there then 1 else 0)) ≤ 1
one_at_most true there = omega arith
one_at_most false true = omega arith
one_at_most false false = omega arith

row_count-most : (n : ℕ) (line : List ℕ) → row_count n line ≤ 1
row_count-most n line = one_at_most (ltb 4006 n) (is_step_of (numbers_after (codes "step ") 3 line))

counted_most : (begins good : Bool) (made more lines : ℕ) → made ≤ 1 → more ≤ lines → (if begins then made + (if good then more else 0) else 0) ≤ cond begins 1 0 + lines
counted_most true true made more lines m l = omega (arith, m, l)
counted_most true false made more lines m l = omega (arith, m, l)
counted_most false good made more lines m l = omega arith

-- rows are made of step lines only, at most one of each
pub row_counts-most : (inertia c n : ℕ) (ls : List (List ℕ)) → row_counts inertia c n ls ≤ count_by is_step_line ls
row_counts-most inertia c n [] = omega arith
row_counts-most inertia c n (line ∷ ls) =
    rw (sum_by-cons (λ x. cond (is_step_line x) 1 0) line ls) (counted_most (is_step_line line) (is_none (step_fault inertia c n line)) (row_count n line) (row_counts inertia c (n + 1) ls) (count_by is_step_line ls)
    (row_count-most n line) (row_counts-most inertia c (n + 1) ls))

-- no row is made of a line that is one too many or isn't of its form, one of a line of its form with its numbers in range
pub row_count-made : (n : ℕ) (line : List ℕ) (ns : List ℤ) → n ≤ 4006 → numbers_after (codes "step ") 3 line ≡ Some ns → is_step ns ≡ true → row_count n line ≡ 1
row_count-made n line ns h e s = rw (le-ltb 4006 n h, e, s) refl

pub row_count-range : (n : ℕ) (line : List ℕ) (ns : List ℤ) → n ≤ 4006 → numbers_after (codes "step ") 3 line ≡ Some ns → is_step ns ≡ false → row_count n line ≡ 0
row_count-range n line ns h e s = rw (le-ltb 4006 n h, e, s) refl

-- a count is between none and all
pub counted_within : {A : Type 0} (r : Result A RouteFault) (rows old new : ℕ) → CountsRows r rows old new → (old ≤ new) × (new ≤ old + rows)
counted_within (Ok x) rows old new h = (omega (arith, h), omega (arith, h))
counted_within (Err (Form n)) rows old new h = (omega (arith, h), omega (arith, h))
counted_within (Err (Range n)) rows old new h = (omega (arith, h), omega (arith, h))
counted_within (Err TooManySteps) rows old new h = (omega (arith, h), omega (arith, h))
counted_within (Err NoMemory) rows old new h = h

-- the same refusal of a larger part, with as many rows
pub counts_passed_on : (A B : Type 0) (e : RouteFault) (rows all old new : ℕ) → all ≡ rows → CountsRows {A = A} (Err e) rows old new → CountsRows {A = B} (Err e) all old new
counts_passed_on A B (Form n) rows all old new same h = omega (arith, same, h)
counts_passed_on A B (Range n) rows all old new same h = omega (arith, same, h)
counts_passed_on A B TooManySteps rows all old new same h = omega (arith, same, h)
counts_passed_on A B NoMemory rows all old new same h = (h.0, omega (arith, same, h.1))

pub ruleset counts = (row_counts-step, row_counts-refused, row_counts-end, entry_refused, counts_refused)
