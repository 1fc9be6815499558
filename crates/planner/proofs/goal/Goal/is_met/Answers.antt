use Rattle.std.proofs.Common.{◌≡◌, arith, refl, to_z, of_z}
use Rattle.std.proofs.lemmas.Int.{ints}
use mir.Syntax.{w128}
use Rattle.planner.proofs.goal.Goal.is_met.Goals as goal

pub returns-in-Some : goal.returns-in-Some
returns-in-Some c =
    let energy : to_z w128 (of_z w128 c.args.self.now.energy) ≡ c.args.self.now.energy = omega (arith, ints, c.args.self.now.small) in
    let small = rw c.in-Some.is at c.requires in
    let bound : to_z w128 (of_z w128 c.in-Some.bound) ≡ c.in-Some.bound = omega (arith, ints, small) in
    rw c.in-Some.is (rw (energy, bound) at c.is_gap_met.ensures)

pub returns-in-None : goal.returns-in-None
returns-in-None c = rw c.in-None.is (λ h. tt, λ h. refl)
