use Rattle.std.proofs.Common.{◌≡◌, ◌++◌, replicate}
use Rattle.sheet_parts.proofs.fill.put_filled.Given as goal

abbrev pub invariant-loop : goal.invariant-loop
invariant-loop l = l.out.items ≡ l.initial.out.items ++ replicate l.counter l.fill
