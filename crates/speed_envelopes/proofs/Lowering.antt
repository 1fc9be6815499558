-- One level lowered: what stays and what is gained.
use Rattle.std.proofs.Common.{ℕ, ◌≤◌, ◌<◌, ◌≡◌, ◌≢◌, ◌+◌, ◌-◌, ◌∙◌, List, length, get_or, Some, Bool, true, false, refl, ap, subst, inl, inr, arith}
use Rattle.std.specs.Prelude.{ℤ, ◌≤ℤ◌, sum}
use Rattle.std.proofs.Math.ListN.{set, length-set}
use Rattle.std.proofs.lemmas.Int.{ints}
use Rattle.std.proofs.lemmas.Bool.{cases_eq}
use Rattle.std.proofs.lemmas.List.Sums.{sum_by-set}
use Rattle.std.proofs.lemmas.List.{get_or-set_same, get_or-set_other}
use Rattle.rule_parts.specs.Shaped.{IsShaped}
use Rattle.speed_envelopes.specs.Bounds.{Setting, asks, gives, floor}
use Rattle.speed_envelopes.specs.Levels.{IsGreatest, point_at, point_opposite, IsLevelStep, AreFloored, AreLevels, IsBelow, Covers, NoneBelow, Lowers, NoLevel, Tightens}
use Rattle.speed_envelopes.specs.declared.bounds.End.{End}
use Rattle.speed_envelopes.specs.declared.bounds.End.TheVariants.{Exit, Entry}
use Rattle.speed_envelopes.proofs.Parts.{gives-rises}

point_within : (end : End) (i n : ℕ) → i < n → point_at end i ≤ n
point_within Exit i n l = omega arith
point_within Entry i n l = omega arith

pub apart : (end : End) (i : ℕ) → point_opposite end i ≢ point_at end i
apart Exit i = λ e. absurd (omega arith)
apart Entry i = λ e. absurd (omega arith)

-- what a level step says of one end
step_at_end : (s : Setting) (d : List ℕ) (end : End) (i : ℕ) → IsLevelStep s d i → asks s end i (get_or d (point_at end i) 0) ≤ℤ gives s end i (get_or d (point_opposite end i) 0)
step_at_end s d Exit i h = h.exit
step_at_end s d Entry i h = h.entry

pub floor_at : (s : Setting) (end : End) (i : ℕ) (levels : List ℕ) (p : ℕ) → i < length s.rules.steps → AreFloored s levels → p ≡ point_at end i → floor s p ≤ get_or levels p 0
floor_at s end i levels p l f at = f.floors p (omega (arith, point_within end i (length s.rules.steps) l))

-- a search below the present level has found the greatest
pub lowered : (s : Setting) (end : End) (i : ℕ) (old : List ℕ) (p o level least : ℕ) (g : ℤ) → i < length s.rules.steps → AreFloored s old → p ≡ point_at end i → o ≡ point_opposite end i → o ≢ p →
    least ≡ floor s p → g ≡ gives s end i (get_or old o 0) → (asks s end i (get_or old p 0) ≤ℤ g → ⊥) → 1 ≤ get_or old p 0 →
    IsGreatest (Some level) (λ v. least ≤ v × v ≤ get_or old p 0 - 1 × asks s end i v ≤ℤ g) → Lowers s end i old (set old p level) true
lowered s end i old p o level least g inside f at opposite ne low from above some found =
    let l : p < length old = omega (arith, point_within end i (length s.rules.steps) inside, f.count) in
    let e : get_or (set old p level) p 0 ≡ level = get_or-set_same old p level 0 l in
    let eo : get_or (set old p level) o 0 ≡ get_or old o 0 = get_or-set_other old p o level 0 ne in
    record {
      others = rw (← at, e) refl;
      kept = rw (← at, ← opposite, e, eo) (omega (arith, ints, found.0.2));
      floored = rw (← at, e) (omega (arith, found.0.0));
      greatest = rw (← at, ← opposite, e) (λ w a b k. elim (cases_eq w (get_or old p 0)) [
        | inl same ↦ absurd (above (subst (λ (v : ℕ). asks s end i v ≤ℤ g) same (omega (arith, ints))))
        | inr off ↦ found.1 w (omega arith, omega arith, omega (arith, ints))
      ]);
      fewer = rw (← at, e) (λ _. omega (arith, found.0.1, some));
      same = λ q. cc;
    }

-- the points besides are as before
others : (s : Setting) (end : End) (i : ℕ) (old new : List ℕ) (moved : Bool) → Lowers s end i old new moved → (k : ℕ) → k ≢ point_at end i → get_or new k 0 ≡ get_or old k 0
others s end i old new moved h k ne =
    ap (λ (l : List ℕ). get_or l k 0) h.others ∙ get_or-set_other old (point_at end i) k (get_or new (point_at end i) 0) 0 ne

at_most : (s : Setting) (end : End) (i : ℕ) (old new : List ℕ) (moved : Bool) → Lowers s end i old new moved → get_or new (point_at end i) 0 ≤ get_or old (point_at end i) 0
at_most s end i old new true h = omega (arith, h.fewer refl)
at_most s end i old new false h = omega (arith, ap (λ (l : List ℕ). get_or l (point_at end i) 0) (h.same refl))

pub below : (s : Setting) (end : End) (i : ℕ) (old new : List ℕ) (moved : Bool) → Lowers s end i old new moved → IsBelow new old
below s end i old new moved h k = elim (cases_eq k (point_at end i)) [
  | inl at ↦ rw at (at_most s end i old new moved h)
  | inr off ↦ omega (arith, others s end i old new moved h k off)
]

pub count : (s : Setting) (end : End) (i : ℕ) (old new : List ℕ) (moved : Bool) → Lowers s end i old new moved → length new ≡ length old
count s end i old new moved h = ap (λ (l : List ℕ). length l) h.others ∙ length-set old (point_at end i) (get_or new (point_at end i) 0)

pub floored : (s : Setting) (end : End) (i : ℕ) (old new : List ℕ) (moved : Bool) → Lowers s end i old new moved → AreFloored s old → AreFloored s new
floored s end i old new moved h f = record {
  count = count s end i old new moved h ∙ f.count;
  floors = λ k l. elim (cases_eq k (point_at end i)) [
    | inl at ↦ rw at h.floored
    | inr off ↦ rw (others s end i old new moved h k off) (f.floors k l)
  ];
  top = λ k. omega (arith, below s end i old new moved h k, f.top k);
}

-- what levels below ask at one end of a step is no more than the present ones give
enough : (s : Setting) (end : End) (i : ℕ) (d levels : List ℕ) → IsShaped s.rules → i < length s.rules.steps → AreLevels s d → IsBelow d levels →
    asks s end i (get_or d (point_at end i) 0) ≤ℤ gives s end i (get_or levels (point_opposite end i) 0)
enough s end i d levels k l a b =
    omega (arith, ints, step_at_end s d end i (a.steps i l), gives-rises s end i (get_or d (point_opposite end i) 0) (get_or levels (point_opposite end i) 0) k (b (point_opposite end i)))

pub covers : (s : Setting) (end : End) (i : ℕ) (from old new : List ℕ) (moved : Bool) → IsShaped s.rules → i < length s.rules.steps → Lowers s end i old new moved → Covers s from old → Covers s from new
covers s end i from old new moved k l h c = λ d a b j. elim (cases_eq j (point_at end i)) [
  | inl at ↦ rw at (h.greatest (get_or d (point_at end i) 0) (a.floored.floors (point_at end i) (point_within end i (length s.rules.steps) l)) (c d a b (point_at end i)) (enough s end i d old k l a (c d a b)))
  | inr off ↦ rw (others s end i old new moved h j off) (c d a b j)
]

-- where no level will do, no levels keep every step
pub none_below : (s : Setting) (end : End) (i : ℕ) (from levels : List ℕ) → IsShaped s.rules → i < length s.rules.steps → NoLevel s end i levels → Covers s from levels → NoneBelow s from
none_below s end i from levels k l h c = λ d a b.
    h (get_or d (point_at end i) 0) (a.floored.floors (point_at end i) (point_within end i (length s.rules.steps) l)) (c d a b (point_at end i)) (enough s end i d levels k l a (c d a b))

sum_of-set : (xs : List ℕ) (i y : ℕ) → i < length xs → sum (set xs i y) + get_or xs i 0 ≡ sum xs + y
sum_of-set xs i y h = sum_by-set (λ x. x) xs i y 0 h

sum_is : (s : Setting) (end : End) (i : ℕ) (old new : List ℕ) (moved : Bool) → Lowers s end i old new moved → i < length s.rules.steps → AreFloored s old →
    sum new + get_or old (point_at end i) 0 ≡ sum old + get_or new (point_at end i) 0
sum_is s end i old new moved h l f =
    let e = sum_of-set old (point_at end i) (get_or new (point_at end i) 0) (omega (arith, point_within end i (length s.rules.steps) l, f.count)) in
    omega (arith, e, ap (λ (x : List ℕ). sum x) h.others)

pub no_more : (s : Setting) (end : End) (i : ℕ) (old new : List ℕ) (moved : Bool) → Lowers s end i old new moved → i < length s.rules.steps → AreFloored s old → sum new ≤ sum old
no_more s end i old new moved h l f = omega (arith, sum_is s end i old new moved h l f, at_most s end i old new moved h)

pub fewer : (s : Setting) (end : End) (i : ℕ) (old new : List ℕ) (moved : Bool) → Lowers s end i old new moved → moved ≡ true → i < length s.rules.steps → AreFloored s old → sum new < sum old
fewer s end i old new moved h e l f = omega (arith, sum_is s end i old new moved h l f, h.fewer e)

-- both ends of a step lowered in turn
pub tightened : (s : Setting) (i : ℕ) (old mid new : List ℕ) (first moved : Bool) → IsShaped s.rules → i < length s.rules.steps → AreFloored s old → Lowers s Exit i old mid first → Lowers s Entry i mid new moved → Tightens s i old new moved
tightened s i old mid new first moved h l f a b =
    let g = floored s Exit i old mid first a f in
    record {
      floored = floored s Entry i mid new moved b g;
      below = λ k. omega (arith, below s Exit i old mid first a k, below s Entry i mid new moved b k);
      covers = λ from c. covers s Entry i from mid new moved h l b (covers s Exit i from old mid first h l a c);
      others = λ k m. others s Entry i mid new moved b k (λ e. absurd (omega arith)) ∙ others s Exit i old mid first a k (λ e. absurd (omega arith));
      entry = λ e. ap (λ (x : List ℕ). get_or x i 0) (b.same e) ∙ others s Exit i old mid first a i (λ e. absurd (omega arith));
      kept = λ e. record { exit = rw (b.same e) a.kept; entry = b.kept };
      no_more = omega (arith, no_more s Exit i old mid first a l f, no_more s Entry i mid new moved b l g);
      fewer = λ e. omega (arith, fewer s Entry i mid new moved b e l g, no_more s Exit i old mid first a l f);
    }

-- a step whose levels are as before
same_step : (s : Setting) (old new : List ℕ) (j : ℕ) → get_or new j 0 ≡ get_or old j 0 → get_or new (j + 1) 0 ≡ get_or old (j + 1) 0 → IsLevelStep s old j → IsLevelStep s new j
same_step s old new j e f h = rw (e, f) h

-- the steps before the one before a lowered entry are as before
pub kept_before : (s : Setting) (i : ℕ) (old new : List ℕ) (moved : Bool) → Tightens s i old new moved → ((j : ℕ) → j < i → IsLevelStep s old j) → (j : ℕ) → j < i - 1 → IsLevelStep s new j
kept_before s i old new moved h kept j l = same_step s old new j (h.others j (omega arith)) (h.others (j + 1) (omega arith)) (kept j (omega arith))

-- where the entry stays, the step and those before it are kept
pub kept_through : (s : Setting) (i : ℕ) (old new : List ℕ) (moved : Bool) → Tightens s i old new moved → moved ≡ false → ((j : ℕ) → j < i → IsLevelStep s old j) → (j : ℕ) → j < i + 1 → IsLevelStep s new j
kept_through s i old new moved h e kept j l = elim (cases_eq j i) [
  | inl at ↦ rw at (h.kept e)
  | inr off ↦ elim (cases_eq (j + 1) i) [
    | inl next ↦ same_step s old new j (h.others j (omega arith)) (rw next (h.entry e)) (kept j (omega arith))
    | inr far ↦ same_step s old new j (h.others j (omega arith)) (h.others (j + 1) (omega arith)) (kept j (omega arith))
  ]
]
