use Rattle.std.proofs.Common.{codes, decimal}
use Rattle.drive_report.proofs.AppendLemmas.{appended_two}
use Rattle.run_picture.specs.Stairs.{limit_start, first_limit_y}
use Rattle.run_picture.proofs.stairs.put_limit_start.Goals as goal

pub returns : goal.returns
unfolding limit_start
returns c =
    appended_two c.args.out.now.items c.extend_from_slice.new.self.items c.put_natural.new.out.items (codes "<path class='l' d='M900 ")
    (decimal (first_limit_y c.args.axes.now c.args.rules.now)) c.in_ok-extend_from_slice.ensures.items (rw c.first_limit_y-y.ensures at c.in_ok-put_natural.ensures)
