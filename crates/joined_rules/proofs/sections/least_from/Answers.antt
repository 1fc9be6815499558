use Rattle.std.proofs.Common.{ℕ, ℤ, ◌≡◌, ◌≤ℤ◌, ◌∙◌, arith, ap, subst, pos, inl, inr, to_z, of_z, w32}
use Rattle.std.proofs.lemmas.Int.{ints}
use Rattle.std.proofs.lemmas.Bool.{cases_lt}
use Rattle.line_file.specs.Shape.{section_at}
use Rattle.joined_rules.proofs.JoinedSteps.{starts_rise}
use Rattle.joined_rules.proofs.sections.least_from.Goals as goal

pub loop-k-preserved : goal.loop-k-preserved
loop-k-preserved c =
    let sections = c.args.sections.now in
    let k = c.loop-k.k in
    let i = c.loop-k.invariant in
    let value : ℤ = (section_at sections k).value in
    let is = c.requires.sections.each k c.loop-k-test.true in
    let same : to_z w32 (of_z w32 value) ≡ value = omega (arith, ints, is.value.0, is.value.1) in
    let low : pos c.lesser-least.result ≤ℤ value = subst (λ (z : ℤ). pos c.lesser-least.result ≤ℤ z) same c.lesser-least.ensures.below.1 in
    record {
      after = omega (arith, i.after);
      within = omega (arith, c.loop-k-test.true);
      below = λ j a b. elim (cases_lt j k) [
        | inl early ↦ omega (arith, ints, c.lesser-least.ensures.below.0, i.below j a early)
        | inr g ↦ (let e : k ≡ j = omega (arith, b, g) in subst (λ (n : ℕ). pos c.lesser-least.result ≤ℤ (section_at sections n).value) e low)
      ];
      reached = elim c.lesser-least.ensures.reached [
        | inl kept ↦ (i.reached.0, i.reached.1, i.reached.2, i.reached.3, ap (λ (n : ℕ). pos n) kept ∙ i.reached.4)
        | inr taken ↦ (k, omega (arith, i.after), c.loop-k-test.true, c.if-sections-k.true, taken ∙ same)
      ];
    }

pub returns-else-sections-k : goal.returns-else-sections-k
returns-else-sections-k c =
    let sections = c.args.sections.now in
    let k = c.loop-k.k in
    let i = c.loop-k.invariant in
    record {
      below = λ j a b begins. elim (cases_lt j k) [
        | inl early ↦ i.below j a early
        | inr g ↦ absurd (omega (arith, c.if-sections-k.false, begins, starts_rise (pos 1) (pos 12000) sections c.requires.sections k j g b))
      ];
      reached = i.reached;
    }
