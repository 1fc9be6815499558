use Rattle.costate_text.proofs.LineTexts.{costates_append}
use Rattle.costate_text.proofs.writing.put_costates.Goals as goal

pub returns : goal.returns
returns c =
    costates_append c.args.out.now.items c.extend_from_slice.new.self.items c.put_each_costate.new.out.items c.push.new.self.items c.args.costates.now c.requires
    c.in_ok-extend_from_slice.ensures.items c.in_ok-put_each_costate.ensures c.in_ok-push.ensures.items
