use Rattle.std.proofs.Common.{ℕ, ◌≡◌, ◌<◌, ◌≤◌, ◌+◌, ◌-◌, length, get_or, arith, pos, refl, subst, [], ◌∷◌, ◌++◌, ℤ, to_z, of_z, w32}
use Rattle.std.proofs.lemmas.Int.{ints}
use Rattle.line_file.specs.Shape.{section_at}
use Rattle.joined_rules.specs.Joined.{LiesIn}
use Rattle.joined_rules.proofs.JoinedLists.{pushed}
use Rattle.joined_rules.proofs.sections.values_of_steps.Goals as goal

pub loop-i-preserved : goal.loop-i-preserved
loop-i-preserved c =
    let sections = c.args.sections.now in
    let places = c.args.places.now in
    let i = c.loop-i.i in
    let m : ℕ = length c.loop-i.values.items in
    let n : m + 1 ≡ i = c.loop-i.invariant.count in
    let k = c.section_from-k.result in
    let before : i - 1 ≡ m = omega (arith, n) in
    let begun : (section_at sections k).from ≤ get_or places m 0 = subst (λ (j : ℕ). (section_at sections k).from ≤ get_or places j 0) before c.section_from-k.ensures.begun in
    let ends : get_or places m 0 < (section_at sections k).to = subst (λ (j : ℕ). get_or places j 0 < (section_at sections k).to) before c.section_from-k.ensures.ends in
    let inside : m + 1 < length places = omega (arith, n, c.loop-i-test.true) in
    let rise : get_or places m 0 < get_or places (m + 1) 0 = c.requires.cut.rising m inside in
    let count : length c.push.new.self.items ≡ m + 1 = omega (arith, c.in_ok-push.ensures.len) in
    let value : ℤ = (section_at sections k).value in
    let same : to_z w32 (of_z w32 value) ≡ value = omega (arith, ints, c.requires.cut.small k c.section_from-k.ensures.there) in
    let items : c.push.new.self.items ≡ c.loop-i.values.items ++ value ∷ [] = subst (λ (z : ℤ). c.push.new.self.items ≡ c.loop-i.values.items ++ z ∷ []) same c.in_ok-push.ensures.items in
    record {
      count = omega (arith, n, count);
      there = c.section_from-k.ensures.there;
      begun = rw count (omega (arith, begun, rise));
      each = pushed (λ j v. LiesIn sections (get_or places j 0) (get_or places (j + 1) 0) v) c.loop-i.values.items c.push.new.self.items value (pos 0) items c.loop-i.invariant.each
          (k, c.section_from-k.ensures.there, begun, c.requires.cut.whole k m c.section_from-k.ensures.there inside ends, refl);
    }
