use Rattle.std.proofs.Common.{arith}
use Rattle.speed_envelopes.proofs.Lowering.{kept_before, kept_through}
use Rattle.speed_envelopes.proofs.settle.settle.Goals as goal

pub returns-in_default-clause-none : goal.returns-in_default-clause-none
returns-in_default-clause-none c = c.in_default.ensures.none c.args.levels.now c.loop-i.invariant.covers

pub loop-i-smaller-then-moved : goal.loop-i-smaller-then-moved
loop-i-smaller-then-moved c = omega (arith, c.in-Some.ensures.some.fewer c.if-moved.true)

pub loop-i-preserved-then-moved : goal.loop-i-preserved-then-moved
loop-i-preserved-then-moved c =
    let t = c.in-Some.ensures.some in
    record {
      within = omega arith;
      floored = t.floored;
      below = λ k. omega (arith, c.loop-i.invariant.below k, t.below k);
      covers = t.covers c.args.levels.now c.loop-i.invariant.covers;
      kept = rw c.saturating_sub-i.ensures (kept_before c.args.bounds.now c.loop-i.i c.loop-i.levels c.tighten.new.levels _ t c.loop-i.invariant.kept);
    }

pub loop-i-smaller : goal.loop-i-smaller
loop-i-smaller c = omega (arith, c.in-Some.ensures.some.no_more)

pub loop-i-preserved : goal.loop-i-preserved
loop-i-preserved c =
    let t = c.in-Some.ensures.some in
    record {
      within = omega arith;
      floored = t.floored;
      below = λ k. omega (arith, c.loop-i.invariant.below k, t.below k);
      covers = t.covers c.args.levels.now c.loop-i.invariant.covers;
      kept = kept_through c.args.bounds.now c.loop-i.i c.loop-i.levels c.tighten.new.levels _ t c.if-moved.false c.loop-i.invariant.kept;
    }
