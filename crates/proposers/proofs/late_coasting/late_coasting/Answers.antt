use Rattle.std.proofs.Common.{ℕ, List, arith}
use Rattle.std.proofs.lemmas.List.{length-append}
use Rattle.proposers.specs.Offers.{none, there, missing}
use Rattle.proposers.proofs.late_coasting.late_coasting.Goals as goal
use Rattle.proposers.proofs.late_coasting.late_coasting.Goals.{in-Some+in_ok-lesser+in_ok-push, in_default}

pub loop-k-init : goal.loop-k-init
loop-k-init c = rw c.new-made.ensures.items record { made = none; few = omega arith }

pub loop-k-preserved : goal.loop-k-preserved
loop-k-preserved c = elim c.match-branch-2.branch [
  | in-Some+in_ok-lesser+in_ok-push w ↦ (
      let found = rw w.in-Some.is at c.in_ok-greatest.ensures.some in
      rw (w.made-is, w.in_ok-push.ensures.items, w.in_ok-lesser.ensures, w.speeds.ensures) record {
        made = there c.loop-k.k c.loop-k.made.items _ _ c.loop-k.invariant.made c.coasting-narrow.ensures found;
        few = omega (arith, c.loop-k.invariant.few, length-append {A = List ℕ});
      })
  | in_default w ↦ (
      let lacks = rw w.in_default.is at c.in_ok-greatest.ensures.none in
      rw w.made-is record {
        made = missing c.loop-k.k c.loop-k.made.items _ c.loop-k.invariant.made c.coasting-narrow.ensures lacks;
        few = omega (arith, c.loop-k.invariant.few);
      })
]
