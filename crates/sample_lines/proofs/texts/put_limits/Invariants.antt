use Rattle.std.proofs.Common.{◌≡◌, ◌*◌, ◌++◌}
use Rattle.sample_lines.specs.Draws.{state}
use Rattle.sample_lines.specs.Texts.{limit_lines}
use Rattle.sample_lines.proofs.texts.put_limits.Given as goal

abbrev pub invariant-loop-b : goal.invariant-loop-b
invariant-loop-b l = record {
  state : l.generator.state ≡ state l.n (2 * l.b);
  text : l.out.items ≡ l.initial.out.items ++ limit_lines l.n l.b;
}
