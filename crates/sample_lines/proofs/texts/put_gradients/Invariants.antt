use Rattle.std.proofs.Common.{◌≡◌, ◌*◌, ◌++◌}
use Rattle.sample_lines.specs.Draws.{state}
use Rattle.sample_lines.specs.Texts.{gradient_lines}
use Rattle.sample_lines.proofs.texts.put_gradients.Given as goal

abbrev pub invariant-loop-b : goal.invariant-loop-b
invariant-loop-b l = record {
  state : l.generator.state ≡ state l.n (2 * l.b);
  text : l.out.items ≡ l.initial.out.items ++ gradient_lines l.n l.b;
}
