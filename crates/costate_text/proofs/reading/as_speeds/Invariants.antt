use Rattle.std.proofs.Common.{◌≡◌, map, take}
use Rattle.std.specs.Int.RustNames.{unsigned_abs}
use Rattle.costate_text.proofs.reading.as_speeds.Given as goal

abbrev pub invariant-loop-number : goal.invariant-loop-number
invariant-loop-number l = l.speeds ≡ map unsigned_abs (take l.number-index l.numbers)
