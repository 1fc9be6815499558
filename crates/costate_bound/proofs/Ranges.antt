-- Ranges of speeds: their order and their ends.
use Rattle.std.proofs.Common.{ℕ, ◌≡◌, ◌+◌, ◌≤◌, ◌^◌, arith, inl, inr}
use Rattle.std.proofs.lemmas.Bool.{cases_lt}
use Rattle.std.proofs.lemmas.List.{get_or_past}
use Rattle.std.specs.Int.RustNames.{unsigned_abs}
use Rattle.std.specs.Prelude.{ℤ, pos, List, All, length, slice_index, slice_index_or}
use Rattle.rail_specs.specs.Rules.{Rules}
use Rattle.rail_specs.specs.Ranges.{AreRanges, no_narrowing}
use Rattle.rule_parts.specs.Shaped.{IsShaped}
use Rattle.drive_rules.proofs.DriveLemmas.{top_of_drive}

pub range_count : (r : Rules) (low high : List ℕ) → AreRanges r no_narrowing low high → (length low ≡ length r.steps + 1) × (length high ≡ length r.steps + 1)
range_count r low high a = (a.least.drive.drive.count, a.greatest.drive.drive.count)

pub range_order : (r : Rules) (low high : List ℕ) (k : ℕ) → AreRanges r no_narrowing low high → slice_index low k ≤ slice_index high k
range_order r low high k a = a.least.below high a.greatest.drive k

pub range_top : (r : Rules) (low high : List ℕ) (k : ℕ) → IsShaped r → AreRanges r no_narrowing low high → slice_index high k ≤ r.top
range_top r low high k s a = top_of_drive r high s a.greatest.drive.drive k

pub ruleset range_laws = (range_count, range_order, range_top)

-- no costate past the last is large either
pub small_costates : (costates : List ℤ) (i : ℕ) → All (λ s. unsigned_abs s ≤ 2 ^ 22) costates → unsigned_abs (slice_index_or costates i (pos 0)) ≤ 2 ^ 22
small_costates costates i h = elim (cases_lt i (length costates)) [
  | inl l ↦ h i (pos 0) l
  | inr l ↦ rw (get_or_past costates i (pos 0) l) (omega arith)
]
