use Rattle.std.proofs.Common.{◌≡◌, ◌<◌, ◌∙◌, refl, arith, length, inr, ap}
use Rattle.std.proofs.lemmas.List.Elements.{All-from_get_or}
use Rattle.bound_specs.specs.declared.Cell.{Cell}
use Rattle.bound_specs.specs.Cells.{no_cell, cells_of}
use Rattle.cell_splitting.specs.Splits.{unsplit}
use Rattle.cell_splitting.proofs.SplitLemmas.{split_comes, split_points, split_others, split_length, split_before}
use Rattle.cell_splitting.proofs.rest.split_point.Goals as goal

pub loop-left-init : goal.loop-left-init
loop-left-init c = record {
  come = unsplit c.args.cells.now refl;
  points = refl;
  count = refl;
  others = λ k h. refl;
  cell = omega arith;
  single = λ d lt. absurd (omega arith);
}

pub loop-left-preserved-then-branch : goal.loop-left-preserved-then-branch
loop-left-preserved-then-branch c =
    let h = rw c.if-branch.true at (c.in_ok-split_if_two.ensures) in
    let i = c.loop-left.invariant in
    let lt : c.args.point < length c.loop-left.cells = omega (arith, c.requires, i.points) in
    record {
      come = split_comes c.loop-left.cells c.split_if_two.new.cells c.args.point c.loop-left.cell lt h c.args.cells.now i.come;
      points = split_points c.loop-left.cells c.split_if_two.new.cells c.args.point c.loop-left.cell lt h ∙ i.points;
      count = omega (arith, h.count, i.count, c.loop-left-test.true);
      others = λ k apart. split_others c.loop-left.cells c.split_if_two.new.cells c.args.point c.loop-left.cell lt h k apart ∙ i.others k apart;
      cell = omega (arith, i.cell, split_length c.loop-left.cells c.split_if_two.new.cells c.args.point c.loop-left.cell lt h);
      single = λ d low. (let same = split_before c.loop-left.cells c.split_if_two.new.cells c.args.point c.loop-left.cell lt h d low in
          omega (arith, ap (λ (a : Cell). a.first) same, ap (λ (a : Cell). a.last) same, i.single d low));
    }

pub returns-else-cell-of-clause-spent : goal.returns-else-cell-of-clause-spent
returns-else-cell-of-clause-spent c = inr (All-from_get_or (λ (a : Cell). a.first ≡ a.last) (cells_of c.loop-left.cells c.args.point) no_cell
    (λ d lt. c.loop-left.invariant.single d (omega (arith, lt, c.if-cell-of.false, c.of.ensures.value))))
