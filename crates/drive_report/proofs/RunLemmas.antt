-- How the runs of one phase go on from step to step.
use Rattle.std.proofs.Common.{ℕ, ◌≡◌, ◌<◌, ◌≤◌, ◌+◌, ◌++◌, ◌∙◌, List, [], Bool, true, false, length, refl, ap, arith, add-one, append_assoc}
use Rattle.std.specs.Prelude.{if◌then◌else◌, ◌||◌, not, ◌==◌}
use Rattle.std.proofs.lemmas.Bool.{ne_eqb}
use Rattle.rail_specs.specs.Rules.{Rules}
use Rattle.drive_report.specs.Phase.{phase_at, is_same}
use Rattle.drive_report.specs.Report.{run_start, ends_run, phase_line, phase_lines}

-- the first step of a run that goes on, or of the next one
goes_on : (same last : Bool) (start from next i : ℕ) → last ≡ false → next ≡ (if last || not same then i else from)
    → start ≡ from → (if same then start else i) ≡ next
goes_on true false start from next i l n s = cc
goes_on false false start from next i l n s = cc
goes_on same true start from next i l n s = cc

-- it is among the steps so far
pub begun_goes_on : (last : Bool) (next from i : ℕ) → from ≤ i → next ≡ (if last then i + 1 else from) → next ≤ i + 1
begun_goes_on true next from i b n = omega arith
begun_goes_on false next from i b n = omega arith

-- the first step of the next step's run
pub run_goes_on : (r : Rules) (speeds : List ℕ) (i from next : ℕ) → run_start r speeds i ≡ from
    → next ≡ (if ends_run r speeds i then i + 1 else from)
    → i + 1 < length r.steps → run_start r speeds (i + 1) ≡ next
unfolding ends_run
run_goes_on r speeds i from next s n l =
    let last : (i + 1 == length r.steps) ≡ false = ne_eqb (i + 1) (length r.steps) (λ e. omega arith) in
    rw (add-one i) (goes_on (is_same (phase_at r speeds i) (phase_at r speeds (i + 1))) (i + 1 == length r.steps)
    (run_start r speeds i) from next (i + 1) last n s)

-- the lines of one step more
pub phase_lines_more : (r : Rules) (speeds out more : List ℕ) (i from : ℕ) (before : List ℕ)
    → run_start r speeds i ≡ from → out ≡ before ++ phase_lines r speeds i
    → more ≡ out ++ (if ends_run r speeds i then phase_line r speeds from i else []) → more ≡ before ++ phase_lines r speeds (i + 1)
phase_lines_more r speeds out more i from before s o m =
    m ∙ ap (λ (xs : List ℕ). xs ++ (if ends_run r speeds i then phase_line r speeds from i else [])) o
    ∙ append_assoc before (phase_lines r speeds i) (if ends_run r speeds i then phase_line r speeds from i else [])
    ∙ rw (add-one i, s) refl
