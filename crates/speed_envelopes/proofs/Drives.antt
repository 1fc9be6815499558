-- Drives under a narrowing are the levels that keep every step, within the caps.
use Rattle.std.proofs.Common.{ℕ, ◌≤◌, ◌<◌, ◌≡◌, ◌+◌, ◌∙◌, List, length, get_or, map, min, Bool, true, false, refl, sym, inl, inr, arith}
use Rattle.std.specs.Prelude.{pos, ◌≤ℤ◌, MatchBool, slice_index, if◌then◌else◌, ◌==◌, Option, Some, None, Result, Ok, Err, IfOk, IfSome, IfNone}
use Rattle.std.proofs.lemmas.Int.{ints}
use Rattle.std.proofs.lemmas.Bool.{cases_lt, cases_Bool, eqb-true, eqb-false, ne_eqb}
use Rattle.std.proofs.lemmas.Bool.Decides.{nat_tests}
use Rattle.std.proofs.lemmas.List.{get_or_past, get_or-map, length-map}
use Rattle.rail_specs.specs.declared.Narrow.{Narrow}
use Rattle.rail_specs.specs.Step.{work, work_down}
use Rattle.rail_specs.specs.Rules.{Rules, step_at, is_stop, traction_work, IsDrive, IsNarrowDrive, IsGreatestDrive, NoDrive}
use Rattle.rail_specs.specs.Ranges.{IsGreatestNarrowDrive, NoNarrowDrive, no_narrowing}
use Rattle.rail_specs.proofs.WorkLemmas.{work_parts}
use Rattle.rule_parts.specs.Shaped.{IsShaped}
use Rattle.drive_rules.proofs.DriveLemmas.{top_of_drive}
use Rattle.speed_envelopes.specs.Bounds.{Setting, is_idle, traction_asks, least_speed}
use Rattle.speed_envelopes.specs.Levels.{AreLevels, IsBelow, Covers, NoneBelow}
use Rattle.speed_envelopes.specs.Capped.{IsCapped, IsAbove, IsCeiling}
use Rattle.speed_envelopes.specs.Narrowing.{IsNarrowerThan}
use Rattle.speed_envelopes.specs.declared.bounds.Side.TheVariants.{Greatest}

abbrev pub greatest_of : Rules → Narrow → Setting
greatest_of r n = record { rules = r; narrow = n; side = Greatest }

-- ---- traction, with and without idle steps

idle_decided : (n : Narrow) (i : ℕ) → is_idle n i ≡ true → (n.idle_from ≤ i) × (i < n.idle_to)
idle_decided n i h = grind (arith, nat_tests)

idle_from : (n : Narrow) (i : ℕ) → n.idle_from ≤ i → i < n.idle_to → is_idle n i ≡ true
idle_from n i a b = grind (arith, nat_tests)

pub traction_from_work : (r : Rules) (n : Narrow) (i v0 v1 : ℕ) → IsShaped r → i < length r.steps → work (step_at r i) v0 v1 ≤ℤ pos (traction_work r i v1) →
    (n.idle_from ≤ i → i < n.idle_to → work (step_at r i) v0 v1 ≤ℤ pos 0) → traction_asks r n i v1 ≤ℤ pos (work_down (step_at r i) v0)
traction_from_work r n i v0 v1 s l t idle = elim (cases_Bool (is_idle n i)) [
  | inl on ↦ (let d = idle_decided n i on in rw on (omega (arith, ints, work_parts (step_at r i) v0 v1 (s.small_drag i l), idle d.0 d.1)))
  | inr off ↦ rw off (omega (arith, ints, work_parts (step_at r i) v0 v1 (s.small_drag i l), t))
]

pub work_from_traction : (r : Rules) (n : Narrow) (i v0 v1 : ℕ) → IsShaped r → i < length r.steps → traction_asks r n i v1 ≤ℤ pos (work_down (step_at r i) v0) → work (step_at r i) v0 v1 ≤ℤ pos (traction_work r i v1)
work_from_traction r n i v0 v1 s l p = elim (cases_Bool (is_idle n i)) [
  | inl on ↦ (let q = rw on at p in omega (arith, ints, work_parts (step_at r i) v0 v1 (s.small_drag i l), q))
  | inr off ↦ (let q = rw off at p in omega (arith, ints, work_parts (step_at r i) v0 v1 (s.small_drag i l), q))
]

pub idle_from_traction : (r : Rules) (n : Narrow) (i v0 v1 : ℕ) → IsShaped r → i < length r.steps → traction_asks r n i v1 ≤ℤ pos (work_down (step_at r i) v0) → n.idle_from ≤ i → i < n.idle_to → work (step_at r i) v0 v1 ≤ℤ pos 0
idle_from_traction r n i v0 v1 s l p a b =
    let q = rw (idle_from n i a b) at p in
    omega (arith, ints, work_parts (step_at r i) v0 v1 (s.small_drag i l), q)

-- ---- points

pub on_stop : (b : Bool) (v : ℕ) → MatchBool b (v ≡ 0) (1 ≤ v) → b ≡ true → v ≡ 0
on_stop true v h e = h
on_stop false v h e = cc

pub off_stop : (b : Bool) (v : ℕ) → MatchBool b (v ≡ 0) (1 ≤ v) → b ≡ false → 1 ≤ v
off_stop true v h e = cc
off_stop false v h e = h

pub by_stop : (b : Bool) (v : ℕ) → (b ≡ true → v ≡ 0) → (b ≡ false → 1 ≤ v) → MatchBool b (v ≡ 0) (1 ≤ v)
by_stop true v h g = h refl
by_stop false v h g = g refl

least_at : (first stop : Bool) (start v : ℕ) → (first ≡ true → start ≤ v) → (first ≡ false → stop ≡ false → 1 ≤ v) → (if first then start else if stop then 0 else 1) ≤ v
least_at true stop start v a b = a refl
least_at false true start v a b = omega arith
least_at false false start v a b = b refl refl

at_least : (first stop : Bool) (start v : ℕ) → (if first then start else if stop then 0 else 1) ≤ v → (first ≡ false → stop ≡ false → 1 ≤ v)
at_least true stop start v h e f = cc
at_least false true start v h e f = cc
at_least false false start v h e f = h

-- every drive is at or above the least speeds
pub least_of_drive : (r : Rules) (d : List ℕ) (k : ℕ) → IsDrive r d → k ≤ length r.steps → least_speed r k ≤ slice_index d k
least_of_drive r d k e l =
    least_at (k == 0) (is_stop r k) r.start (slice_index d k)
    (λ h. let z = eqb-true k 0 h in rw z (omega (arith, e.start)))
    (λ h g. off_stop (is_stop r k) (slice_index d k) (e.points k (let z = eqb-false k 0 h in omega arith) (omega (arith, e.count))) g)

-- speeds at or above the least ones start right and stand still at stops alone
pub moves_from_least : (r : Rules) (v k : ℕ) → 1 ≤ k → least_speed r k ≤ v → is_stop r k ≡ false → 1 ≤ v
moves_from_least r v k l h e = at_least (k == 0) (is_stop r k) r.start v h (ne_eqb k 0 (λ z. absurd (omega arith))) e

pub capped_drive : (r : Rules) (n : Narrow) (d : List ℕ) → IsShaped r → IsNarrowDrive r n d → IsCapped r n d
capped_drive r n d s e = record {
  count = e.drive.count;
  start = omega (arith, e.drive.start);
  stops = λ k p q. elim (cases_lt k (length d)) [
    | inl l ↦ on_stop (is_stop r k) (slice_index d k) (e.drive.points k p l) q
    | inr l ↦ get_or_past d k 0 l
  ];
  limits = λ i l. (e.drive.steps i l).limit;
  top = top_of_drive r d s e.drive;
  cap = e.cap;
}

-- speeds below capped ones
pub capped_below : (r : Rules) (n : Narrow) (a b : List ℕ) → IsCapped r n b → length a ≡ length b → IsBelow a b → IsCapped r n a
capped_below r n a b c e l = record {
  count = e ∙ c.count;
  start = omega (arith, l 0, c.start);
  stops = λ k p q. omega (arith, l k, c.stops k p q);
  limits = λ i h. (omega (arith, l i, (c.limits i h).0), omega (arith, l (i + 1), (c.limits i h).1));
  top = λ k. omega (arith, l k, c.top k);
  cap = λ k. omega (arith, l k, c.cap k);
}

-- ---- the greatest drive

-- a drive under the narrowing keeps every step as levels
pub levels_of_drive : (r : Rules) (n : Narrow) (d : List ℕ) → IsShaped r → IsNarrowDrive r n d → AreLevels (greatest_of r n) d
levels_of_drive r n d s e = record {
  floored = record {
    count = e.drive.count;
    floors = λ k l. least_of_drive r d k e.drive l;
    top = top_of_drive r d s e.drive;
  };
  steps = λ i l. record {
    exit = traction_from_work r n i (slice_index d i) (slice_index d (i + 1)) s l (e.drive.steps i l).traction (λ a b. e.idle i a b l);
    entry = omega (arith, ints, work_parts (step_at r i) (slice_index d i) (slice_index d (i + 1)) (s.small_drag i l), (e.drive.steps i l).brake);
  };
}

-- and capped levels that keep every step are a drive under it
pub drive_of_levels : (r : Rules) (n : Narrow) (v : List ℕ) → IsShaped r → IsCapped r n v → AreLevels (greatest_of r n) v → IsNarrowDrive r n v
drive_of_levels r n v s c a = record {
  drive = record {
    count = c.count;
    start = omega (arith, c.start, a.floored.floors 0 (omega arith));
    points = λ k l m. by_stop (is_stop r k) (slice_index v k) (c.stops k l) (moves_from_least r (slice_index v k) k l (a.floored.floors k (omega (arith, c.count))));
    steps = λ i l. record {
      limit = c.limits i l;
      top = (c.top i, c.top (i + 1));
      traction = work_from_traction r n i (slice_index v i) (slice_index v (i + 1)) s l (a.steps i l).exit;
      brake = omega (arith, ints, work_parts (step_at r i) (slice_index v i) (slice_index v (i + 1)) (s.small_drag i l), (a.steps i l).entry);
    };
  };
  cap = c.cap;
  idle = λ i p q l. idle_from_traction r n i (slice_index v i) (slice_index v (i + 1)) s l (a.steps i l).exit p q;
}

pub greatest_by : (r : Rules) (n : Narrow) (from v : List ℕ) → IsShaped r → IsCapped r n from → IsAbove r n from → AreLevels (greatest_of r n) v → IsBelow v from → Covers (greatest_of r n) from v → IsGreatestNarrowDrive r n v
greatest_by r n from v s c a k b h = record {
  drive = drive_of_levels r n v s (capped_below r n v from c (k.floored.count ∙ sym c.count) b) k;
  above = λ d e. h d (levels_of_drive r n d s e) (a d e);
}

pub none_by : (r : Rules) (n : Narrow) (from : List ℕ) → IsShaped r → IsAbove r n from → NoneBelow (greatest_of r n) from → NoNarrowDrive r n
none_by r n from s a h = λ d e. h d (levels_of_drive r n d s e) (a d e)

-- speeds that are ceilings
pub capped_by : (r : Rules) (n : Narrow) (v : List ℕ) → length v ≡ length r.steps + 1 → ((k : ℕ) → k < length v → IsCeiling r n k (get_or v k 0)) → IsCapped r n v
capped_by r n v c h = record {
  count = c;
  start = (h 0 (omega arith)).start refl;
  stops = λ k p q. elim (cases_lt k (length v)) [
    | inl l ↦ (h k l).stop p q
    | inr l ↦ get_or_past v k 0 l
  ];
  limits = λ i l. ((h i (omega arith)).entry l, (h (i + 1) (omega arith)).exit i refl);
  top = λ k. elim (cases_lt k (length v)) [
    | inl l ↦ (h k l).top
    | inr l ↦ rw (get_or_past v k 0 l) (omega arith)
  ];
  cap = λ k. elim (cases_lt k (length v)) [
    | inl l ↦ (h k l).cap
    | inr l ↦ rw (get_or_past v k 0 l) (omega arith)
  ];
}

pub above_by : (r : Rules) (n : Narrow) (v : List ℕ) → length v ≡ length r.steps + 1 → ((k : ℕ) → k < length v → IsCeiling r n k (get_or v k 0)) → IsAbove r n v
above_by r n v c h d e k = elim (cases_lt k (length v)) [
  | inl l ↦ (h k l).above d e
  | inr l ↦ rw (get_or_past d k 0 (omega (arith, e.drive.count))) (omega arith)
]

-- ---- no narrowing

pub narrow_drive : (r : Rules) (d : List ℕ) → IsShaped r → IsDrive r d → IsNarrowDrive r no_narrowing d
narrow_drive r d s e = record {
  drive = e;
  cap = λ k. omega (arith, top_of_drive r d s e k, s.top);
  idle = λ i a b l. absurd (omega arith);
}

pub greatest_plain : (r : Rules) (v : List ℕ) → IsShaped r → IsGreatestNarrowDrive r no_narrowing v → IsGreatestDrive r v
greatest_plain r v s g = record { drive = g.drive.drive; above = λ d e. g.above d (narrow_drive r d s e) }

pub none_plain : (r : Rules) → IsShaped r → NoNarrowDrive r no_narrowing → NoDrive r
none_plain r s h d e = h d (narrow_drive r d s e)

pub plain_greatest : (r : Rules) (v : List ℕ) → IsShaped r → IsGreatestDrive r v → IsGreatestNarrowDrive r no_narrowing v
plain_greatest r v s g = record { drive = narrow_drive r v s g.drive; above = λ d e. g.above d e.drive }

pub plain_none : (r : Rules) → NoDrive r → NoNarrowDrive r no_narrowing
plain_none r h d e = h d e.drive

-- ---- a wider narrowing

pub wider_drive : (r : Rules) (narrow wider : Narrow) (d : List ℕ) → IsNarrowerThan narrow wider → IsNarrowDrive r narrow d → IsNarrowDrive r wider d
wider_drive r narrow wider d n e = record {
  drive = e.drive;
  cap = λ k. omega (arith, e.cap k, n.cap);
  idle = λ i a b l. e.idle i (n.idle i a b).0 (n.idle i a b).1 l;
}

at_most-le : (xs : List ℕ) (cap k : ℕ) → (get_or (map (λ x. min x cap) xs) k 0 ≤ get_or xs k 0) × (get_or (map (λ x. min x cap) xs) k 0 ≤ cap)
at_most-le xs cap k = elim (cases_lt k (length xs)) [
  | inl l ↦ rw (get_or-map (λ (x : ℕ). min x cap) xs k 0 0 l) (omega arith, omega arith)
  | inr past ↦ rw (get_or_past (map (λ (x : ℕ). min x cap) xs) k 0 (omega (arith, length-map xs (λ (x : ℕ). min x cap)))) (omega arith, omega arith)
]

at_most-ge : (xs : List ℕ) (cap k v : ℕ) → v ≤ get_or xs k 0 → v ≤ cap → v ≤ get_or (map (λ x. min x cap) xs) k 0
at_most-ge xs cap k v a b = elim (cases_lt k (length xs)) [
  | inl l ↦ rw (get_or-map (λ (x : ℕ). min x cap) xs k 0 0 l) (omega arith)
  | inr past ↦ (let z = get_or_past xs k 0 past in omega arith)
]

pub capped_at_most : (r : Rules) (narrow wider : Narrow) (known : List ℕ) → IsShaped r → IsNarrowDrive r wider known → IsCapped r narrow (map (λ x. min x narrow.cap) known)
capped_at_most r narrow wider known s e =
    let c = capped_drive r wider known s e in
    let v : List ℕ = map (λ x. min x narrow.cap) known in
    let below : IsBelow v known = λ k. (at_most-le known narrow.cap k).0 in
    record {
      count = length-map known (λ (x : ℕ). min x narrow.cap) ∙ c.count;
      start = omega (arith, below 0, c.start);
      stops = λ k p q. omega (arith, below k, c.stops k p q);
      limits = λ i h. (omega (arith, below i, (c.limits i h).0), omega (arith, below (i + 1), (c.limits i h).1));
      top = λ k. omega (arith, below k, c.top k);
      cap = λ k. (at_most-le known narrow.cap k).1;
    }

pub above_at_most : (r : Rules) (narrow wider : Narrow) (known : List ℕ) → IsNarrowerThan narrow wider → IsGreatestNarrowDrive r wider known → IsAbove r narrow (map (λ x. min x narrow.cap) known)
above_at_most r narrow wider known n g = λ d e k. at_most-ge known narrow.cap k (slice_index d k) (g.above d (wider_drive r narrow wider d n e) k) (e.cap k)

-- ---- answers

pub if_found : {V E : Type 0} (result : Result (Option V) E) (P Q : V → Type 0) → ((v : V) → P v → Q v) → IfOk result (λ found. IfSome found P) → IfOk result (λ found. IfSome found Q)
if_found (Ok (Some v)) P Q f h = f v h
if_found (Ok None) P Q f h = h
if_found (Err e) P Q f h = h

pub if_none : {V E : Type 0} (result : Result (Option V) E) (P Q : Type 0) → (P → Q) → IfOk result (λ found. IfNone found P) → IfOk result (λ found. IfNone found Q)
if_none (Ok (Some v)) P Q f h = h
if_none (Ok None) P Q f h = f h
if_none (Err e) P Q f h = h
