-- The rules of a route have the shape of the rules of every run.
use Rattle.std.proofs.Common.{ℕ, zero, suc, ◌≡◌, ◌<◌, ◌≤◌, ◌+◌, ◌*◌, ◌∙◌, true, false, List, [], ◌∷◌, ◌++◌, length, map, get_or, replicate, refl, ap, sym, arith, inl, inr, pos, length-append, add-one, All}
use Rattle.std.proofs.Math.Seq.{get_or-append_seam}
use Rattle.std.proofs.Math.ListN.{get_or-append}
use Rattle.std.specs.Int.RustNames.{unsigned_abs}
use Rattle.std.specs.List.{AllByRecursion}
use Rattle.std.proofs.lemmas.Bool.{cases_lt}
use Rattle.std.proofs.lemmas.List.{get_or_past, get_or-map, get_or-replicate, length-map, length-replicate}
use Rattle.std.proofs.lemmas.List.Elements.{All-from_recursion, All-get_or, All-cons, All-nil}
use Rattle.rail_specs.specs.declared.Timing.{Timing}
use Rattle.route_file.specs.Route.{Route, RouteStep, ends_from, rules_of_route, step_numbers}
use Rattle.rail_specs.specs.Rules.{no_step, step_at, IsPassed}
use Rattle.rail_specs.specs.Step.{HasSmallDrag, IsInRange, IsTrainInRange}
use Rattle.rail_specs.specs.Table.{IsForceTable}
use Rattle.rule_parts.specs.Shaped.{IsShaped}
use Rattle.route_file.proofs.RouteFaultless.{IsGoodStep}

-- what a route says is in range
pub record IsRoute (r : Route) : Type 0 where
  pub train : IsTrainInRange r.train
  pub top : (1 ≤ r.top) × (r.top ≤ 12000)
  pub traction : r.traction ≤ 2000000
  pub brake : r.brake ≤ 2000000
  pub latest : r.latest ≤ 172800
  pub good : AllByRecursion (IsGoodStep r.train.inertia r.train.c) r.steps
  pub some : 2 ≤ length r.steps
  pub few : length r.steps ≤ 4000

-- what stands past the last step
abbrev a_step : RouteStep
a_step = record { metres = 0; gradient = pos 0; limit = 0 }

get_or-constant : (n f v : ℕ) → get_or (replicate n f) v 0 ≤ f
get_or-constant n f v = elim (cases_lt v n) [
  | inl l ↦ rw (get_or-replicate n v f 0 l) (omega arith)
  | inr l ↦ rw (get_or_past (replicate n f) v 0 (omega (arith, length-replicate n f))) (omega arith)
]

constant_falls : (n f v w : ℕ) → v ≤ w → get_or (replicate n f) w 0 ≤ get_or (replicate n f) v 0
constant_falls n f v w h = elim (cases_lt v n) [
  | inl l ↦ rw (get_or-replicate n v f 0 l) (get_or-constant n f w)
  | inr l ↦ rw (get_or_past (replicate n f) w 0 (omega (arith, length-replicate n f))) (omega arith)
]

constant_table : (top f : ℕ) → top ≤ 12000 → f ≤ 2000000 → IsForceTable (replicate (top + 1) f)
constant_table top f t h = record {
  some = omega (arith, length-replicate (top + 1) f);
  speeds = omega (arith, length-replicate (top + 1) f);
  in_range = λ v. omega (arith, get_or-constant (top + 1) f v);
  never_rises = constant_falls (top + 1) f;
}

length-ends_from : (p : ℕ) (xs : List ℕ) → length (ends_from p xs) ≡ length xs
length-ends_from p [] = refl
length-ends_from p (x ∷ xs) = ap suc (length-ends_from (p + x) xs)

-- each point lies the length of a step behind the one before it
ends_from-next : (p : ℕ) (xs : List ℕ) (i : ℕ) → i < length xs → get_or (ends_from p xs) i 0 ≡ get_or (p ∷ ends_from p xs) i 0 + get_or xs i 0
ends_from-next p [] i h = absurd (omega arith)
ends_from-next p (x ∷ xs) zero h = refl
ends_from-next p (x ∷ xs) (suc i) h = ends_from-next (p + x) xs i (omega arith)

ends_from-far : (p : ℕ) (xs : List ℕ) (k : ℕ) → AllByRecursion (λ x. x ≤ 1000) xs → get_or (ends_from p xs) k 0 ≤ p + 1000 * length xs
ends_from-far p [] k h = omega arith
ends_from-far p (x ∷ xs) zero h = omega (arith, h.0)
ends_from-far p (x ∷ xs) (suc k) h = omega (arith, h.0, ends_from-far (p + x) xs k h.1)

-- the steps of a route are good
good_step : (r : Route) (i : ℕ) → IsRoute r → i < length r.steps → IsGoodStep r.train.inertia r.train.c (get_or r.steps i a_step)
good_step r i h l = All-get_or (IsGoodStep r.train.inertia r.train.c) r.steps i a_step l (All-from_recursion (IsGoodStep r.train.inertia r.train.c) r.steps h.good)

step_at-route : (r : Route) (i : ℕ) → i < length r.steps → step_at (rules_of_route r) i ≡ step_numbers r.train (get_or r.steps i a_step)
step_at-route r i l = get_or-map (step_numbers r.train) r.steps i a_step no_step l

step_in_range : (r : Route) (i : ℕ) → IsRoute r → i < length r.steps → IsInRange (step_at (rules_of_route r) i)
step_in_range r i h l =
    let g = good_step r i h l in
    rw (step_at-route r i l) record { train = h.train; metres = g.metres; gradient = g.gradient }

step_light : (r : Route) (i : ℕ) → IsRoute r → i < length r.steps → HasSmallDrag (step_at (rules_of_route r) i)
step_light r i h l = rw (step_at-route r i l) (good_step r i h l).drag

short_steps : (inertia c : ℕ) (ss : List RouteStep) → AllByRecursion (IsGoodStep inertia c) ss → AllByRecursion (λ x. x ≤ 1000) (map (λ s. s.metres) ss)
short_steps inertia c [] h = tt
short_steps inertia c (s ∷ ss) h = (h.0.metres.1, short_steps inertia c ss h.1)

low_limit : (inertia c : ℕ) (ss : List RouteStep) (i : ℕ) → AllByRecursion (IsGoodStep inertia c) ss → get_or (map (λ s. s.limit) ss) i 0 ≤ 12000
low_limit inertia c [] i h = omega arith
low_limit inertia c (s ∷ ss) zero h = h.0.limit.1
low_limit inertia c (s ∷ ss) (suc i) h = low_limit inertia c ss i h.1

-- the lengths of a route's steps
abbrev metres_of : Route → List ℕ
metres_of r = map (λ s. s.metres) r.steps

place_far : (r : Route) (k : ℕ) → IsRoute r → get_or (0 ∷ ends_from 0 (metres_of r)) k 0 ≤ 4000000
place_far r zero h = omega arith
place_far r (suc k) h = omega (arith, ends_from-far 0 (metres_of r) k (short_steps r.train.inertia r.train.c r.steps h.good), length-map r.steps (λ s. s.metres), h.few)

place_next : (r : Route) (i : ℕ) → i < length r.steps → get_or (0 ∷ ends_from 0 (metres_of r)) (i + 1) 0 ≡ get_or (0 ∷ ends_from 0 (metres_of r)) i 0 + (step_at (rules_of_route r) i).metres
place_next r i l =
    let metres : get_or (metres_of r) i 0 ≡ (get_or r.steps i a_step).metres = get_or-map (λ s. s.metres) r.steps i a_step 0 l in
    rw (add-one i, step_at-route r i l, ← metres) (ends_from-next 0 (metres_of r) i (omega (arith, length-map r.steps (λ s. s.metres))))

-- only the last point is a stop
stop_last : (n : ℕ) → get_or (replicate n false ++ true ∷ []) n false ≡ true
stop_last n = ap (λ (k : ℕ). get_or (replicate n false ++ true ∷ []) k false) (sym (length-replicate n false)) ∙ get_or-append_seam (replicate n false) true [] false

stop_before : (n k : ℕ) → k < n → get_or (replicate n false ++ true ∷ []) k false ≡ false
stop_before n k l = get_or-append (replicate n false) (true ∷ []) false k (omega (arith, length-replicate n false)) ∙ get_or-replicate n k false false l

passed_before : (r : Route) (k v : ℕ) → k < length r.steps → IsPassed (rules_of_route r) k v → 1 ≤ v
passed_before r k v l p = rw (stop_before (length r.steps) k l) at p

route_moves : (r : Route) → IsRoute r → (i v0 v1 : ℕ) → i < length r.steps → (1 ≤ i → IsPassed (rules_of_route r) i v0) → IsPassed (rules_of_route r) (i + 1) v1 → 1 ≤ v0 + v1
route_moves r h i v0 v1 l entry exit = elim (cases_lt (i + 1) (length r.steps)) [
  | inl before ↦ omega (arith, passed_before r (i + 1) v1 before exit)
  | inr last ↦ omega (arith, passed_before r i v0 l (entry (omega (arith, h.some))))
]

-- a timing point is one of n points after the first, with a latest time in range
abbrev IsLater : ℕ → Timing → Type 0
IsLater n t = (1 ≤ t.point) × (t.point ≤ n) × (unsigned_abs t.latest ≤ 172800000)

route_timings : (r : Route) → IsRoute r → All (IsLater (length (map (step_numbers r.train) r.steps))) (record { point = length r.steps; latest = pos (1000 * r.latest) } ∷ [])
route_timings r h =
    let steps : length (map (step_numbers r.train) r.steps) ≡ length r.steps = length-map r.steps (step_numbers r.train) in
    let last : Timing = record { point = length r.steps; latest = pos (1000 * r.latest) } in
    All-cons (IsLater (length (map (step_numbers r.train) r.steps))) last [] (omega (arith, h.some), omega (arith, steps), omega (arith, h.latest)) (All-nil (IsLater (length (map (step_numbers r.train) r.steps))))

-- so each clause of `IsShaped` holds
pub shaped : (r : Route) → IsRoute r → IsShaped (rules_of_route r)
shaped r h =
    let n : ℕ = length r.steps in
    let steps : length (map (step_numbers r.train) r.steps) ≡ length r.steps = length-map r.steps (step_numbers r.train) in
    record {
      some = omega (arith, steps, h.some);
      few = omega (arith, steps, h.few);
      top = h.top.1;
      start = omega arith;
      traction_top = length-replicate (r.top + 1) r.traction;
      brake_top = length-replicate (r.top + 1) r.brake;
      traction = constant_table r.top r.traction h.top.1 h.traction;
      brake = constant_table r.top r.brake h.top.1 h.brake;
      short_train = omega arith;
      numbers = λ i l. step_in_range r i h (omega (arith, steps));
      small_drag = λ i l. step_light r i h (omega (arith, steps));
      limits = length-map r.steps (λ s. s.limit) ∙ sym steps;
      low_limits = λ i. low_limit r.train.inertia r.train.c r.steps i h.good;
      places = omega (arith, steps, length-ends_from 0 (metres_of r), length-map r.steps (λ s. s.metres));
      far = λ k. place_far r k h;
      metres = λ i l. place_next r i (omega (arith, steps));
      stops = omega (arith, steps, length-append (replicate n false) (true ∷ []), length-replicate n false);
      last_stop = rw steps (stop_last n);
      dwells = omega (arith, steps, length-replicate {A = ℕ} (n + 1) 0);
      first_dwell = get_or-replicate (n + 1) 0 0 0 (omega arith);
      short_dwells = λ k. omega (arith, get_or-constant (n + 1) 0 k);
      some_timings = omega arith;
      few_timings = omega arith;
      rising = λ j l. absurd (omega arith);
      timings = route_timings r h;
      last_timing = sym steps;
      moving = λ i v0 v1 l first entry exit. route_moves r h i v0 v1 (omega (arith, steps)) entry exit;
    }
