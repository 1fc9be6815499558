-- The times and the costs at the points of a drive.
use Rattle.std.proofs.Common.{arith, ℕ, ℤ, ◌≡◌, ◌≤◌, ◌+◌, ◌*◌, ◌^◌, ◌+ℤ◌, ◌∙◌, List, length, get_or, refl, to_z, of_z}
use Rattle.std.specs.Int.RustNames.{unsigned_abs}
use Rattle.std.proofs.lemmas.Int.{ints}
use Rattle.std.proofs.lemmas.List.{get_or_read_under}
use mir.Syntax.{w128}
use Rattle.rail_specs.specs.Rules.{Rules}
use Rattle.rail_specs.specs.Times.{arrival_up}
use Rattle.sheet_parts.specs.Arrivals.{AreArrivals}
use Rattle.run_sheet.specs.Points.{cost_before, point_line, line_of_point}

-- a time that is read from those at all points
pub time_read : (r : Rules) (speeds times : List ℕ) (i x : ℕ) → AreArrivals r speeds times → i ≤ length r.steps → x ≡ get_or times i x → x ≡ arrival_up r speeds i
time_read r speeds times i x a l e = get_or_read_under times i (length times) x 0 e (omega (arith, a.count)) refl ∙ a.each i l

-- the line of a point with its time and its cost
pub line_with : (cost : ℤ → ℤ) (r : Rules) (speeds : List ℕ) (k n t : ℕ) (e : ℤ) → k ≡ n → t ≡ arrival_up r speeds n → e ≡ cost_before cost r speeds n
    → point_line r speeds k t e ≡ line_of_point cost r speeds n
line_with cost r speeds k n t e p q s = rw (p, q, s) refl

-- a sum with one more number
pub sum_more : (s x a b : ℤ) (i : ℕ) → i ≤ 4000 → unsigned_abs s ≤ 2 ^ 62 * i → unsigned_abs x ≤ 2 ^ 62 → s ≡ a → x ≡ b
    → (to_z w128 (of_z w128 (s +ℤ to_z w128 (of_z w128 x))) ≡ a +ℤ b) × (unsigned_abs (to_z w128 (of_z w128 (s +ℤ to_z w128 (of_z w128 x)))) ≤ 2 ^ 62 * (i + 1))
sum_more s x a b i few small less p q = (omega (arith, ints, few, small, less, p, q), omega (arith, ints, few, small, less))
