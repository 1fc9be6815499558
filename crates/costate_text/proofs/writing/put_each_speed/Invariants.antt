use Rattle.std.proofs.Common.{◌≡◌, ◌++◌, take}
use Rattle.std.specs.List.{flat_map}
use Rattle.costate_text.specs.Text.{speed_field}
use Rattle.costate_text.proofs.writing.put_each_speed.Given as goal

abbrev pub invariant-loop-speed : goal.invariant-loop-speed
invariant-loop-speed l = l.out.items ≡ l.fn.out.items ++ flat_map speed_field (take l.speed-index l.speeds)
