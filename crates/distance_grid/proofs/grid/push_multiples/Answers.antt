use Rattle.std.proofs.Common.{arith, ◌+◌, ◌/◌, ◌*◌, ◌%◌, ◌<◌, ◌≡◌}
use Rattle.std.specs.Int.{div_ceil}
use Rattle.distance_grid.proofs.Places.{push_member, retold, next_multiple, multiples_between, multiples_in_order, IsMultiple}
use Rattle.distance_grid.proofs.grid.push_multiples.Goals as goal

pub loop-k-preserved : goal.loop-k-preserved
loop-k-preserved c =
    let a = c.args.from / c.args.step + 1 in
    rw c.in_ok-push.ensures.items (push_member c.loop-k.places.items c.args.places.now.items (c.loop-k.k * c.args.step) (IsMultiple c.args.step a c.loop-k.k) (IsMultiple c.args.step a (c.loop-k.k + 1)) c.loop-k.invariant (next_multiple c.args.step a c.loop-k.k (omega arith)))

pub returns : goal.returns
returns c =
    let a = c.args.from / c.args.step + 1 in
    let e : c.loop-k.k ≡ div_ceil c.args.to c.args.step = omega (arith, c.div_ceil-k-end.ensures, multiples_in_order c.args.step c.args.from c.args.to c.requires.some c.requires.span) in
    retold c.loop-k.places.items c.args.places.now.items (IsMultiple c.args.step a c.loop-k.k) (λ p. (c.args.from < p) × (p < c.args.to) × (p % c.args.step ≡ 0)) c.loop-k.invariant
    (λ p. rw e (multiples_between c.args.step c.args.from c.args.to c.requires.some p))
