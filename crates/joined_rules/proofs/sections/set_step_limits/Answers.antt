use Rattle.std.proofs.Common.{ℕ, ◌≡◌, ◌<◌, ◌+◌, length, get_or, arith, subst}
use Rattle.joined_rules.proofs.JoinedSteps.{IsLeastOf, none_lowered, one_lowered, all_lowered}
use Rattle.joined_rules.proofs.sections.set_step_limits.Goals as goal

pub loop-stretch-init : goal.loop-stretch-init
loop-stretch-init c =
    let least = c.limit_by_sections.ensures in
    record { count = least.count; each = λ i l. none_lowered c.args.sections.now c.args.stretches.now c.args.metres _ _ _ (least.each i l) }

pub loop-stretch-preserved : goal.loop-stretch-preserved
loop-stretch-preserved c =
    let h = c.loop-stretch.invariant in
    let count = c.lower.ensures.count in
    record {
      count = omega (arith, h.count, count);
      each = λ i l.
          let before : i < length c.loop-stretch.limits.items = omega (arith, l, count) in
          one_lowered c.args.sections.now c.args.stretches.now c.loop-stretch.stretch-index c.args.metres _ _ _ _ (h.each i before) (c.lower.ensures.each i before);
    }

pub returns : goal.returns
returns c =
    let h = c.loop-stretch.invariant in
    let stretches = c.args.stretches.now in
    let all : c.loop-stretch.stretch-index ≡ length stretches = omega arith in
    record {
      count = h.count;
      each = λ i l. all_lowered c.args.sections.now stretches c.args.metres _ _ _
          (subst (λ (n : ℕ). IsLeastOf c.args.sections.now stretches n c.args.metres (get_or c.args.places.now i 0) (get_or c.args.places.now (i + 1) 0) (get_or c.loop-stretch.limits.items i 0)) all (h.each i l));
    }
