use Rattle.std.proofs.Common.{◌≡◌, ◌≤◌, ◌*◌, ◌^◌, ◌++◌}
use Rattle.std.specs.Int.RustNames.{unsigned_abs}
use Rattle.sheet_parts.specs.Fill.{joined_below}
use Rattle.run_sheet.specs.Points.{field_names, cost_before, line_of_point}
use Rattle.run_sheet.proofs.point_table.points.Given as goal

abbrev pub invariant-loop-k : goal.invariant-loop-k
invariant-loop-k g l = record {
  text : l.out.items ≡ field_names ++ joined_below (line_of_point (g.C.StepCost.cost l.cost) l.rules l.speeds) l.k;
  value : l.energy ≡ cost_before (g.C.StepCost.cost l.cost) l.rules l.speeds l.k;
  small : unsigned_abs l.energy ≤ 2 ^ 62 * l.k;
}
