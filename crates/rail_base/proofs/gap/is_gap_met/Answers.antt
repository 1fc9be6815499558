use Rattle.std.proofs.Common.{arith, ℤ, pos, to_z, of_z, ◌≡◌, ◌*◌, ◌≤◌, ◌^◌, ◌*ℤ◌, ◌-ℤ◌, ◌≤ℤ◌, IsTrue, ap, ◌∙◌}
use mir.Syntax.{w128}
use lib.Signed.{le_z}
use Rattle.std.specs.Int.RustNames.{unsigned_abs}
use Rattle.std.proofs.lemmas.Int.{ints}
use Rattle.rail_base.proofs.gap.is_gap_met.Goals as goal

difference : (e b : ℤ) → unsigned_abs e ≤ 2 ^ 100 → unsigned_abs b ≤ 2 ^ 100 →
    to_z w128 (of_z w128 (pos 1000 *ℤ to_z w128 (of_z w128 (to_z w128 (of_z w128 e) -ℤ to_z w128 (of_z w128 b))))) ≡ pos 1000 *ℤ (e -ℤ b)
difference e b h g = omega (arith, ints)

test : (x y r : ℤ) → unsigned_abs r ≤ 2 ^ 110 → r ≡ y → (IsTrue (le_z x (to_z w128 (of_z w128 r))) → x ≤ℤ y) × (x ≤ℤ y → IsTrue (le_z x (to_z w128 (of_z w128 r))))
test x y r h e = (λ t. omega (arith, ints), λ t. grind (arith, ints))

pub returns : goal.returns
returns c =
    let same : to_z w128 (of_z w128 c.args.energy) ≡ c.args.energy = omega (arith, ints, c.requires.energy) in
    rw (difference c.args.energy c.args.bound c.requires.energy c.requires.bound)
    (test (pos 1000 *ℤ (c.args.energy -ℤ c.args.bound)) (pos (c.args.tolerance * unsigned_abs c.args.energy)) c.share_of-share.result c.share_of-share.ensures.small
    (c.share_of-share.ensures.value ∙ ap (λ (z : ℤ). pos (c.args.tolerance * unsigned_abs z)) same))
