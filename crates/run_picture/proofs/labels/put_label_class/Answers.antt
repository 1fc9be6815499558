use Rattle.std.proofs.Common.{codes}
use Rattle.drive_report.proofs.AppendLemmas.{appended_three}
use Rattle.run_picture.specs.Calls.{label_class, weight}
use Rattle.run_picture.proofs.labels.put_label_class.Goals as goal

pub returns : goal.returns
unfolding label_class
returns c =
    appended_three c.args.out.now.items c.extend_from_slice.new.self.items c.extend_from_slice-2.new.self.items c.extend_from_slice-3.new.self.items (codes "<text class='k")
    (weight c.args.rules.now c.args.point) (codes "' transform='translate(") c.in_ok-extend_from_slice.ensures.items
    (rw c.weight-weight.ensures at c.in_ok-extend_from_slice-2.ensures.items) c.in_ok-extend_from_slice-3.ensures.items
