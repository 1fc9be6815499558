use Rattle.std.proofs.Common.{◌≡◌, ◌∙◌, sym, ap, List, ℕ, ℤ, ◌++◌, arith, to_z, of_z}
use Rattle.std.specs.Int.{w128}
use Rattle.std.specs.Prelude.{codes}
use Rattle.std.proofs.lemmas.Int.{ints}
use Rattle.std.proofs.lemmas.List.{append-nil}
use Rattle.sample_lines.specs.Texts.{row_line}
use Rattle.sample_lines.proofs.Rows.{gradient_row_more, no_gradients, state_after}
use Rattle.sample_lines.proofs.texts.put_gradients.Goals as goal

pub loop-b-init : goal.loop-b-init
loop-b-init c = record {
  state = c.new-generator.ensures;
  text = sym (append-nil c.args.out.now.items) ∙ ap (λ (t : List ℕ). c.args.out.now.items ++ t) (sym (no_gradients c.args.n));
}

pub loop-b-preserved : goal.loop-b-preserved
loop-b-preserved c =
    let b = c.loop-b.b in
    let before = c.loop-b.out.items in
    let value : to_z w128 (of_z w128 c.gradient_of.result) ≡ c.gradient_of.result = omega (arith, ints, c.gradient_of.ensures) in
    record {
      state = state_after c.args.n b c.loop-b.generator.state c.section-draws.new.self.state c.loop-b.invariant.state c.section-draws.ensures.state;
      text = gradient_row_more c.args.n b c.loop-b.generator.state c.section-draws.result.gradient c.gradient_of.result c.args.out.now.items before
          c.put_row.new.out.items c.loop-b.invariant.state c.loop-b.invariant.text c.section-draws.ensures.gradient c.gradient_of.ensures
          (c.in_ok-put_row.ensures ∙ ap (λ (z : ℤ). before ++ row_line (codes "gradient") b z) value);
    }
