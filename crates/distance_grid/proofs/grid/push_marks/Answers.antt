use Rattle.std.proofs.Common.{arith, ◌+◌, ◌<◌, ◌≡◌, length, get_or, Contains}
use Rattle.distance_grid.proofs.Places.{push_member, retold, next_mark, passed_mark, marks_between, IsMark}
use Rattle.distance_grid.proofs.grid.push_marks.Goals as goal
use Rattle.distance_grid.proofs.grid.push_marks.Goals.{then-from-mark+then-mark-to+in_ok-push, else-from-mark, else-from-mark-via-then-from-mark+else-mark-to, else-from-mark-via-else-from-mark}

pub returns : goal.returns
returns c =
    let e : c.loop-mark.mark-index ≡ length c.args.marks.now = omega arith in
    retold c.loop-mark.places.items c.args.places.now.items (IsMark c.args.marks.now c.args.from c.args.to c.loop-mark.mark-index) (λ p. (c.args.from < p) × (p < c.args.to) × Contains c.args.marks.now p) c.loop-mark.invariant
    (λ p. rw e (marks_between c.args.marks.now c.args.from c.args.to p))

pub loop-mark-preserved : goal.loop-mark-preserved
loop-mark-preserved c =
    let marks = c.args.marks.now in
    let i = c.loop-mark.mark-index in
    let old = c.args.places.now.items in
    let now = c.loop-mark.places.items in
    elim c.if-from-mark.branch [
      | then-from-mark+then-mark-to+in_ok-push w ↦ rw (w.places-is, w.in_ok-push.ensures.items) (push_member now old (get_or marks i 0) (IsMark marks c.args.from c.args.to i) (IsMark marks c.args.from c.args.to (i + 1)) c.loop-mark.invariant (next_mark marks c.args.from c.args.to i w.if-from-mark.true w.if-mark-to.true))
      | else-from-mark w ↦ rw w.places-is (retold now old (IsMark marks c.args.from c.args.to i) (IsMark marks c.args.from c.args.to (i + 1)) c.loop-mark.invariant (passed_mark marks c.args.from c.args.to i (λ a b. elim w.else-from-mark.branch [
        | else-from-mark-via-then-from-mark+else-mark-to w' ↦ omega arith
        | else-from-mark-via-else-from-mark w' ↦ omega arith
      ])))
    ]
