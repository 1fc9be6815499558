use Rattle.costate_text.proofs.LineTexts.{speeds_append}
use Rattle.costate_text.proofs.writing.put_speeds.Goals as goal

pub returns : goal.returns
returns c =
    speeds_append c.args.out.now.items c.extend_from_slice.new.self.items c.put_each_speed.new.out.items c.push.new.self.items c.args.speeds.now c.requires
    c.in_ok-extend_from_slice.ensures.items c.in_ok-put_each_speed.ensures c.in_ok-push.ensures.items
