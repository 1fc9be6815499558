use Rattle.std.proofs.Common.{◌≡◌, ◌+◌, true, false, rules}
use Rattle.rail_specs.specs.Rules.{is_stop}
use Rattle.proposers.proofs.Lists.{points-more, points-same}
use Rattle.proposers.proofs.early_braking.stops_of.Goals as goal
use Rattle.proposers.proofs.early_braking.stops_of.Goals.{then-stop+in_ok-push, else-stop}

pub loop-i-preserved : goal.loop-i-preserved
loop-i-preserved c = elim c.if-stop.branch [
  | then-stop+in_ok-push w ↦ (
      let here : is_stop c.args.rules.now (c.loop-i.i + 1) ≡ true = search rules in
      rw (w.stops-is, w.in_ok-push.ensures.items)
      (points-more (is_stop c.args.rules.now) c.loop-i.stops.items c.loop-i.i c.loop-i.invariant here))
  | else-stop w ↦ (
      let passed : is_stop c.args.rules.now (c.loop-i.i + 1) ≡ false = search rules in
      rw w.stops-is (points-same (is_stop c.args.rules.now) c.loop-i.stops.items c.loop-i.i c.loop-i.invariant passed))
]
