-- No rule is broken exactly where the speeds are a drive on time.
use Rattle.std.proofs.Common.{ℕ, zero, suc, ◌≡◌, ◌<◌, ◌≤◌, ◌+◌, ◌^◌, ◌↔◌, Option, None, Some, List, length, get_or, refl, sym, subst, inl, inr, arith}
use Rattle.std.specs.Prelude.{ℤ, pos, ◌<ℤ◌, ◌≤ℤ◌, slice_index, Result, Ok, Err, IfOk, IfErr, IsTrue, is_ok}
use Rattle.std.specs.Int.RustNames.{unsigned_abs}
use Rattle.std.specs.Option.{option_map}
use Rattle.std.proofs.lemmas.Int.{ints}
use Rattle.std.proofs.lemmas.Bool.{cases_eq}
use Rattle.std.proofs.lemmas.Bool.Decides.{nat_tests}
use Rattle.std.proofs.lemmas.List.{get_or_default}
use Rattle.rail_specs.specs.Rules.{Rules, IsDrive, IsStepKept, IsPassed, no_timing, step_at, timing_at, traction_work}
use Rattle.rail_specs.specs.Step.{work}
use Rattle.rail_specs.specs.Times.{IsFirstLate, IsOnTimeUp, arrival_up}
use Rattle.rule_parts.specs.Shaped.{IsShaped}
use Rattle.rail_base.specs.First.{first_below}
use Rattle.drive_rules.specs.Verdict.{point_fault, force_rule, step_rule, step_fault, timing_fault, verdict, Moves, IsKept, Judges}
use Rattle.drive_rules.proofs.VerdictLemmas.{first_below-found, option_or-none}
use Rattle.drive_rules.specs.declared.judge.Rule.{Rule}
use Rattle.drive_rules.specs.declared.judge.Rule.TheVariants.{Late}
use Rattle.drive_rules.specs.declared.judge.Judged.{Judged}
use Rattle.drive_rules.specs.declared.judge.Judged.TheVariants.{Kept, Broken}

pub first_below-none : {X : Type 0} (f : ℕ → Option X) (n : ℕ) → first_below f n ≡ None → (i : ℕ) → i < n → f i ≡ None
first_below-none f zero h i l = absurd (omega arith)
first_below-none f (suc n) h i l =
    let p = option_or-none (first_below f n) (f n) h in
    elim (cases_eq i n) [
      | inl same ↦ subst (λ (j : ℕ). f j ≡ None) (sym same) p.1
      | inr apart ↦ first_below-none f n p.0 i (omega arith)
    ]

pub none-first_below : {X : Type 0} (f : ℕ → Option X) (n : ℕ) → ((i : ℕ) → i < n → f i ≡ None) → first_below f n ≡ None
none-first_below f zero h = refl
none-first_below f (suc n) h = rw (none-first_below f n (λ i l. h i (omega arith))) (h n (omega arith))

-- speed v keeps the rule of point k
pub record PointKept (r : Rules) (k v : ℕ) : Type 0 where
  pub start : k ≡ 0 → v ≡ r.start
  pub later : 1 ≤ k → IsPassed r k v

-- the rules of points and steps, from no fault and to none
pub point_kept : (r : Rules) (speeds : List ℕ) (k : ℕ) → point_fault r speeds k ≡ None → PointKept r k (slice_index speeds k)
point_kept r speeds k h = grind (arith, nat_tests)

pub kept_point : (r : Rules) (speeds : List ℕ) (k : ℕ) → PointKept r k (slice_index speeds k) → point_fault r speeds k ≡ None
kept_point r speeds k h = grind (arith, nat_tests)

-- a step is kept exactly where none of its tests finds a rule broken
pub kept_tests : (r : Rules) (i v0 v1 : ℕ) → IsStepKept r i v0 v1 ↔ (step_rule r i v0 v1 ≡ None)
kept_tests r i v0 v1 = (λ k. grind (arith, nat_tests, ints), λ h. grind (arith, nat_tests, ints))

-- positive work within that of the traction breaks no rule on forces
pub pulled : (r : Rules) (i v0 v1 : ℕ) (w : ℤ) → w ≡ work (step_at r i) v0 v1 → pos 1 ≤ℤ w → w ≤ℤ pos (traction_work r i v1) → force_rule r i v0 v1 ≡ None
pulled r i v0 v1 w e some h = grind (arith, ints)

-- a step has a cost exactly where it is kept
pub kept_with_cost : (r : Rules) (i v0 v1 : ℕ) (cost : ℤ) (result : Result ℤ Rule) →
    IfOk result (λ c. (step_rule r i v0 v1 ≡ None) × (c ≡ cost) × (unsigned_abs c ≤ 2 ^ 62)) → IfErr result (λ rule. step_rule r i v0 v1 ≡ Some rule) →
    IsTrue (is_ok result) ↔ IsStepKept r i v0 v1
kept_with_cost r i v0 v1 cost (Ok w) h e = (λ _. (kept_tests r i v0 v1).1 h.0, λ _. refl)
kept_with_cost r i v0 v1 cost (Err rule) h e = (λ b. cc, λ k. let n = (kept_tests r i v0 v1).0 k in cc)

-- where nothing comes of a map, there was nothing
option_map-none : {X Y : Type 0} (f : X → Y) (o : Option X) → option_map f o ≡ None → o ≡ None
option_map-none f None h = refl
option_map-none f (Some x) h = absurd (cc h)

-- and so is a step of a list of speeds
pub step_kept : (r : Rules) (speeds : List ℕ) (i : ℕ) → step_fault r speeds i ≡ None → IsStepKept r i (slice_index speeds i) (slice_index speeds (i + 1))
step_kept r speeds i h = (kept_tests r i (slice_index speeds i) (slice_index speeds (i + 1))).1 (option_map-none _ _ h)

pub kept_step : (r : Rules) (speeds : List ℕ) (i : ℕ) → IsStepKept r i (slice_index speeds i) (slice_index speeds (i + 1)) → step_fault r speeds i ≡ None
kept_step r speeds i k = rw ((kept_tests r i (slice_index speeds i) (slice_index speeds (i + 1))).0 k) refl

-- a timing point without a fault is reached in time
timing_kept : (r : Rules) (speeds : List ℕ) (j : ℕ) → timing_fault r speeds j ≡ None → pos (arrival_up r speeds (get_or r.timings j no_timing).point) ≤ℤ (get_or r.timings j no_timing).latest
timing_kept r speeds j h = grind (arith, ints)

pub timely : (r : Rules) (speeds : List ℕ) → first_below (timing_fault r speeds) (length r.timings) ≡ None → IsOnTimeUp r speeds
timely r speeds h j d l =
    let e = first_below-none (timing_fault r speeds) (length r.timings) h j l in
    rw (get_or_default r.timings j d no_timing l) (timing_kept r speeds j e)

timing_met : (r : Rules) (speeds : List ℕ) (j : ℕ) → pos (arrival_up r speeds (timing_at r j).point) ≤ℤ (timing_at r j).latest → timing_fault r speeds j ≡ None
timing_met r speeds j h = grind (arith, ints)

pub kept_timing : (r : Rules) (speeds : List ℕ) (j : ℕ) → j < length r.timings → IsOnTimeUp r speeds → timing_fault r speeds j ≡ None
kept_timing r speeds j l t = timing_met r speeds j (t j no_timing l)

-- no timing point of speeds on time is reached too late
pub none_late : (r : Rules) (speeds : List ℕ) → IsOnTimeUp r speeds → first_below (timing_fault r speeds) (length r.timings) ≡ None
none_late r speeds t = none-first_below (timing_fault r speeds) (length r.timings) (λ j l. kept_timing r speeds j l t)

timing_missed : (r : Rules) (speeds : List ℕ) (j : ℕ) → (timing_at r j).latest <ℤ pos (arrival_up r speeds (timing_at r j).point) → timing_fault r speeds j ≡ Some (Late, (timing_at r j).point)
timing_missed r speeds j h = grind (arith, ints)

-- the fault of the first timing point that is reached too late is the first of all
pub some_late : (r : Rules) (speeds : List ℕ) (j : ℕ) → IsFirstLate r speeds j → first_below (timing_fault r speeds) (length r.timings) ≡ Some (Late, (timing_at r j).point)
some_late r speeds j late =
    first_below-found (timing_fault r speeds) j (length r.timings) (Late, (timing_at r j).point)
    (none-first_below (timing_fault r speeds) j (λ h l. timing_met r speeds h (late.before h l))) (timing_missed r speeds j late.late) late.there

-- nothing is broken, part by part
pub record NoneBroken (r : Rules) (speeds : List ℕ) : Type 0 where
  pub count : length speeds ≡ length r.steps + 1
  pub points : first_below (point_fault r speeds) (length speeds) ≡ None
  pub steps : first_below (step_fault r speeds) (length r.steps) ≡ None
  pub timings : first_below (timing_fault r speeds) (length r.timings) ≡ None

pub none_broken : (r : Rules) (speeds : List ℕ) → verdict r speeds ≡ None → NoneBroken r speeds
none_broken r speeds h = grind (arith, nat_tests)

pub verdict-none : (r : Rules) (speeds : List ℕ) → NoneBroken r speeds → verdict r speeds ≡ None
verdict-none r speeds h = grind (arith, nat_tests)

pub drive_from_none : (r : Rules) (speeds : List ℕ) → verdict r speeds ≡ None → IsDrive r speeds × IsOnTimeUp r speeds
drive_from_none r speeds v =
    let h = none_broken r speeds v in
    let points = first_below-none (point_fault r speeds) (length speeds) h.points in
    let steps = first_below-none (step_fault r speeds) (length r.steps) h.steps in (
      record {
        count = h.count;
        start = (point_kept r speeds 0 (points 0 (omega (arith, h.count)))).start refl;
        points = λ k l m. (point_kept r speeds k (points k m)).later l;
        steps = λ i l. step_kept r speeds i (steps i l);
      },
      timely r speeds h.timings,
    )

pub none_from_drive : (r : Rules) (speeds : List ℕ) → IsDrive r speeds → IsOnTimeUp r speeds → verdict r speeds ≡ None
none_from_drive r speeds d t = verdict-none r speeds record {
  count = d.count;
  points = none-first_below (point_fault r speeds) (length speeds) (λ k l. kept_point r speeds k record {
    start = λ e. rw e d.start;
    later = λ p. d.points k p l;
  });
  steps = none-first_below (step_fault r speeds) (length r.steps) (λ i l. kept_step r speeds i (d.steps i l));
  timings = none_late r speeds t;
}

pub kept_exactly : (r : Rules) (speeds : List ℕ) (cost : ℤ) (j : Judged) → Judges j (verdict r speeds) cost → IsKept j ↔ (IsDrive r speeds × IsOnTimeUp r speeds)
kept_exactly r speeds cost (Kept total) h = (λ _. drive_from_none r speeds h.0, λ _. tt)
kept_exactly r speeds cost (Broken rule place) h = (λ b. absurd b, λ d. let e = none_from_drive r speeds d.0 d.1 in cc)

-- where the rules of all points are kept, no step begins and ends at a standstill
pub moves_from_points : (r : Rules) (speeds : List ℕ) → IsShaped r → length speeds ≡ length r.steps + 1 → first_below (point_fault r speeds) (length speeds) ≡ None → Moves r speeds
moves_from_points r speeds s c h i l =
    let points = first_below-none (point_fault r speeds) (length speeds) h in
    let a = point_kept r speeds i (points i (omega (arith, c))) in
    let b = point_kept r speeds (i + 1) (points (i + 1) (omega (arith, c))) in
    s.moving i (slice_index speeds i) (slice_index speeds (i + 1)) l a.start a.later (b.later (omega arith))
