use Rattle.std.proofs.Common.{ℕ, ◌≡◌, ◌+◌, true, false, nat_le, get_or, arith, rules}
use Rattle.std.proofs.lemmas.List.{length-append}
use Rattle.proposers.proofs.Lists.{below-push, points-more, points-same}
use Rattle.proposers.proofs.dips.points_to_lower.Goals as goal
use Rattle.proposers.proofs.dips.points_to_lower.Goals.{then-speeds-i-ge2+in_ok-push, else-speeds-i-ge2}

pub loop-i-preserved : goal.loop-i-preserved
loop-i-preserved c = elim c.if-speeds-i-ge2.branch [
  | then-speeds-i-ge2+in_ok-push w ↦ (
      let xs = c.loop-i.points.items in
      let fast : nat_le 2 (get_or c.args.speeds.now (c.loop-i.i + 1) 0) ≡ true = search rules in
      rw (w.points-is, w.in_ok-push.ensures.items) record {
        points = points-more (λ k. nat_le 2 (get_or c.args.speeds.now k 0)) xs c.loop-i.i c.loop-i.invariant.points fast;
        few = omega (arith, c.loop-i.invariant.few, length-append {A = ℕ});
        within = below-push _ xs (c.loop-i.i + 1) c.loop-i.invariant.within (omega arith);
      })
  | else-speeds-i-ge2 w ↦ (
      let slow : nat_le 2 (get_or c.args.speeds.now (c.loop-i.i + 1) 0) ≡ false = search rules in
      rw w.points-is record {
        points = points-same (λ k. nat_le 2 (get_or c.args.speeds.now k 0)) c.loop-i.points.items c.loop-i.i c.loop-i.invariant.points slow;
        few = omega (arith, c.loop-i.invariant.few);
        within = c.loop-i.invariant.within;
      })
]
