use Rattle.std.proofs.Common.{◌≡◌, ◌++◌, take}
use Rattle.std.specs.List.{flat_map}
use Rattle.costate_text.specs.Text.{number_field}
use Rattle.costate_text.proofs.writing.put_each_costate.Given as goal

abbrev pub invariant-loop-costate : goal.invariant-loop-costate
invariant-loop-costate l = l.out.items ≡ l.fn.out.items ++ flat_map number_field (take l.costate-index l.costates)
