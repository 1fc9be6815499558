-- The least drive under a narrowing, by what its speeds lack of the top.
use Rattle.std.proofs.Common.{ℕ, ◌≤◌, ◌<◌, ◌≡◌, ◌+◌, ◌-◌, ◌∙◌, List, length, get_or, map, sym, inl, inr, arith}
use Rattle.std.specs.Prelude.{ℤ, neg_ℤ, ◌≤ℤ◌}
use Rattle.std.proofs.lemmas.Int.{ints}
use Rattle.std.proofs.lemmas.Bool.{cases_lt}
use Rattle.std.proofs.lemmas.List.{get_or_past, get_or-map, length-map}
use Rattle.rail_specs.specs.declared.Narrow.{Narrow}
use Rattle.rail_specs.specs.Rules.{Rules, IsNarrowDrive}
use Rattle.rail_specs.specs.Ranges.{IsLeastNarrowDrive}
use Rattle.rule_parts.specs.Shaped.{IsShaped}
use Rattle.drive_rules.proofs.DriveLemmas.{top_of_drive}
use Rattle.speed_envelopes.specs.Bounds.{Setting}
use Rattle.speed_envelopes.specs.Levels.{IsLevelStep, AreFloored, AreLevels, IsBelow, Covers, NoneBelow, AreComplements}
use Rattle.speed_envelopes.specs.Capped.{LackOfTop, SomeNarrowDrive}
use Rattle.speed_envelopes.specs.declared.bounds.Side.TheVariants.{Least}
use Rattle.speed_envelopes.proofs.Drives.{greatest_of, capped_drive, capped_below, least_of_drive, levels_of_drive, drive_of_levels}

abbrev pub least_of : Rules → Narrow → Setting
least_of r n = record { rules = r; narrow = n; side = Least }

-- what the speeds lack of the top
lack_of : Rules → List ℕ → List ℕ
lack_of r d = map (λ v. r.top - v) d

lack_at : (r : Rules) (d : List ℕ) (k : ℕ) → k < length d → get_or d k 0 ≤ r.top → get_or (lack_of r d) k 0 + get_or d k 0 ≡ r.top
unfolding lack_of
lack_at r d k l h = rw (get_or-map (λ (v : ℕ). r.top - v) d k 0 0 l) (omega arith)

lack_length : (r : Rules) (d : List ℕ) → length (lack_of r d) ≡ length d
unfolding lack_of
lack_length r d = length-map d (λ (v : ℕ). r.top - v)

neg-falls : (a b : ℤ) → a ≤ℤ b → neg_ℤ b ≤ℤ neg_ℤ a
neg-falls a b h = omega (arith, ints)

neg-rises : (a b : ℤ) → neg_ℤ b ≤ℤ neg_ℤ a → a ≤ℤ b
neg-rises a b h = omega (arith, ints)

-- a step of speeds is a step of what they lack, and the other way round
least_step : (r : Rules) (n : Narrow) (i : ℕ) (v levels : List ℕ) → r.top - get_or levels i 0 ≡ get_or v i 0 → r.top - get_or levels (i + 1) 0 ≡ get_or v (i + 1) 0 →
    IsLevelStep (greatest_of r n) v i → IsLevelStep (least_of r n) levels i
least_step r n i v levels e f h = record {
  exit = rw (e, f) (neg-falls _ _ h.entry);
  entry = rw (e, f) (neg-falls _ _ h.exit);
}

greatest_step : (r : Rules) (n : Narrow) (i : ℕ) (v levels : List ℕ) → r.top - get_or levels i 0 ≡ get_or v i 0 → r.top - get_or levels (i + 1) 0 ≡ get_or v (i + 1) 0 →
    IsLevelStep (least_of r n) levels i → IsLevelStep (greatest_of r n) v i
greatest_step r n i v levels e f h = record {
  exit = rw (← e, ← f) (neg-rises _ _ h.entry);
  entry = rw (← e, ← f) (neg-rises _ _ h.exit);
}

lack_back : (r : Rules) (d : List ℕ) (k : ℕ) → k < length d → get_or d k 0 ≤ r.top → r.top - get_or (lack_of r d) k 0 ≡ get_or d k 0
lack_back r d k l h = omega (arith, lack_at r d k l h)

-- what a drive lacks of the top keeps every step
levels_of_lack : (r : Rules) (n : Narrow) (d : List ℕ) → IsShaped r → IsNarrowDrive r n d → AreLevels (least_of r n) (lack_of r d)
levels_of_lack r n d s e =
    let t = top_of_drive r d s e.drive in
    let c : length d ≡ length r.steps + 1 = e.drive.count in
    record {
      floored = record {
        count = lack_length r d ∙ c;
        floors = λ k l. omega arith;
        top = λ k. elim (cases_lt k (length d)) [
          | inl l ↦ omega (arith, lack_at r d k l (t k))
          | inr past ↦ rw (get_or_past (lack_of r d) k 0 (omega (arith, lack_length r d))) (omega arith)
        ];
      };
      steps = λ i l. least_step r n i d (lack_of r d) (lack_back r d i (omega arith) (t i)) (lack_back r d (i + 1) (omega arith) (t (i + 1))) ((levels_of_drive r n d s e).steps i l);
    }

lack_below : (r : Rules) (n : Narrow) (d from : List ℕ) → IsShaped r → IsNarrowDrive r n d → LackOfTop r from → IsBelow (lack_of r d) from
lack_below r n d from s e h k = elim (cases_lt k (length d)) [
  | inl l ↦ omega (arith, lack_at r d k l (top_of_drive r d s e.drive k), h.each k (omega (arith, e.drive.count)), least_of_drive r d k e.drive (omega (arith, e.drive.count)))
  | inr past ↦ rw (get_or_past (lack_of r d) k 0 (omega (arith, lack_length r d))) (omega arith)
]

-- the levels that are begun with are floored
pub floored_lack : (r : Rules) (n : Narrow) (from : List ℕ) → LackOfTop r from → AreFloored (least_of r n) from
floored_lack r n from h = record {
  count = h.count;
  floors = λ k l. omega arith;
  top = λ k. elim (cases_lt k (length from)) [
    | inl l ↦ omega (arith, h.each k (omega (arith, h.count)))
    | inr past ↦ rw (get_or_past from k 0 past) (omega arith)
  ];
}

-- since there is a drive, there are levels
pub settles : (r : Rules) (n : Narrow) (from : List ℕ) → IsShaped r → SomeNarrowDrive r n → LackOfTop r from → NoneBelow (least_of r n) from → ⊥
settles r n from s some h none = none (lack_of r some.0) (levels_of_lack r n some.0 s some.1) (lack_below r n some.0 from s some.1 h)

-- no drive is slower than what the greatest levels leave of the top
no_slower : (r : Rules) (n : Narrow) (from levels v d : List ℕ) → IsShaped r → LackOfTop r from → AreLevels (least_of r n) levels → Covers (least_of r n) from levels → AreComplements r.top levels v →
    IsNarrowDrive r n d → IsBelow v d
no_slower r n from levels v d s h a c m e k =
    let l = c (lack_of r d) (levels_of_lack r n d s e) (lack_below r n d from s e h) k in
    elim (cases_lt k (length d)) [
      | inl i ↦ omega (arith, l, lack_at r d k i (top_of_drive r d s e.drive k), m.each k (omega (arith, a.floored.count, e.drive.count)))
      | inr past ↦ rw (get_or_past v k 0 (omega (arith, m.count, a.floored.count, e.drive.count))) (omega arith)
    ]

pub least_by : (r : Rules) (n : Narrow) (from levels v : List ℕ) → IsShaped r → SomeNarrowDrive r n → LackOfTop r from → AreLevels (least_of r n) levels → IsBelow levels from → Covers (least_of r n) from levels →
    AreComplements r.top levels v → IsLeastNarrowDrive r n v
least_by r n from levels v s some h a b c m =
    let below : (d : List ℕ) → IsNarrowDrive r n d → IsBelow v d = λ d e. no_slower r n from levels v d s h a c m e in
    let count : length v ≡ length r.steps + 1 = m.count ∙ a.floored.count in
    let capped = capped_below r n v some.0 (capped_drive r n some.0 s some.1) (count ∙ sym some.1.drive.count) (below some.0 some.1) in
    let back : (k : ℕ) → k ≤ length r.steps → r.top - get_or levels k 0 ≡ get_or v k 0 = λ k l. omega (arith, m.each k (omega (arith, a.floored.count))) in
    record {
      drive = drive_of_levels r n v s capped record {
        floored = record {
          count = count;
          floors = λ k l. omega (arith, m.each k (omega (arith, a.floored.count)), b k, h.each k l);
          top = capped.top;
        };
        steps = λ i l. greatest_step r n i v levels (back i (omega arith)) (back (i + 1) (omega arith)) (a.steps i l);
      };
      below = below;
    }
