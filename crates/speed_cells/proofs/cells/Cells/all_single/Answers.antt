use Rattle.std.proofs.Common.{arith, List, [], All, refl, ◌≡◌}
use Rattle.std.proofs.lemmas.List.Elements.{All-from_get_or}
use Rattle.bound_specs.specs.declared.Cell.{Cell}
use Rattle.speed_cells.proofs.cells.Cells.all_single.Goals as goal

pub returns : goal.returns
returns c =
    let one = λ (cs : List Cell). All (λ (a : Cell). a.first ≡ a.last) cs in
    (λ t. All-from_get_or one c.args.self.now [] (λ k lt. c.loop-point.invariant k (omega arith)), λ h. refl)
