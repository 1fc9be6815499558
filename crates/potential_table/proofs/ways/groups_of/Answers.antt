use Rattle.std.proofs.Common.{ℕ, ◌≡◌, ◌<◌, ◌≤◌, ◌+◌, ◌*◌, ◌∙◌, List, [], ◌∷◌, ◌++◌, length, ap, subst, sym, inl, inr, arith, length-append}
use Rattle.std.proofs.Math.ListN.{get_or-append}
use Rattle.std.proofs.Math.Seq.{get_or-append_seam}
use Rattle.std.proofs.lemmas.Bool.{cases_lt}
use Rattle.potential_table.specs.declared.ways.Way.{Way}
use Rattle.potential_table.specs.Ways.{no_way, way_at, IsUsable, AreUsable, StandsFor}
use Rattle.potential_table.proofs.ways.groups_of.Goals as goal

-- one group more
module _ (groups ways : List Way) (b : ℕ) (count : length groups ≡ b) (group : Way) where
  abbrev now : List Way
  now = groups ++ group ∷ []

  long : length now ≡ b + 1
  long = length-append groups (group ∷ []) ∙ ap (λ n. n + 1) count

  before : (k : ℕ) → k < b → way_at now k ≡ way_at groups k
  before k l = get_or-append groups (group ∷ []) no_way k (omega (arith, l, count))

  last : way_at now b ≡ group
  last = subst (λ k. way_at now k ≡ group) count (get_or-append_seam groups group [] no_way)

  usable_more : AreUsable groups → IsUsable group → AreUsable now
  usable_more old new k l = elim (cases_lt k b) [
    | inl lt ↦ subst IsUsable (sym (before k lt)) (old k (omega (arith, lt, count)))
    | inr ge ↦ let is : b ≡ k = omega (arith, ge, l, long) in subst (λ m. IsUsable (way_at now m)) is (subst IsUsable (sym last) new)
  ]

  each_more : ((k j : ℕ) → k < b → 8 * k ≤ j → j < 8 * k + 8 → j < length ways → StandsFor (way_at groups k) (way_at ways j))
      → ((j : ℕ) → 8 * b ≤ j → j < 8 * b + 8 → j < length ways → StandsFor group (way_at ways j))
      → (k j : ℕ) → k < b + 1 → 8 * k ≤ j → j < 8 * k + 8 → j < length ways → StandsFor (way_at now k) (way_at ways j)
  each_more old new k j l from to lt = elim (cases_lt k b) [
    | inl less ↦ subst (λ (w : Way). StandsFor w (way_at ways j)) (sym (before k less)) (old k j less from to lt)
    | inr ge ↦
        let is : b ≡ k = omega (arith, ge, l) in
        subst (λ m. StandsFor (way_at now m) (way_at ways j)) is
        (subst (λ (w : Way). StandsFor w (way_at ways j)) (sym last) (new j (omega (arith, from, is)) (omega (arith, to, is)) lt))
  ]

pub loop-b-preserved : goal.loop-b-preserved
loop-b-preserved c =
    let groups : List Way = c.loop-b.groups.items in
    let ways : List Way = c.args.ways.now in
    let b : ℕ = c.loop-b.b in
    let count = c.loop-b.invariant.count in
    let group : Way = c.group_of.result in
    let is : c.push.new.self.items ≡ groups ++ group ∷ [] = c.in_ok-push.ensures.items in
    record {
      count = ap length is ∙ long groups ways b count group;
      usable = subst AreUsable (sym is) (usable_more groups ways b count group c.loop-b.invariant.usable c.group_of.ensures.usable);
      each = subst (λ (gs : List Way). (k j : ℕ) → k < b + 1 → 8 * k ≤ j → j < 8 * k + 8 → j < length ways → StandsFor (way_at gs k) (way_at ways j)) (sym is)
          (each_more groups ways b count group c.loop-b.invariant.each (λ j l m lt. c.group_of.ensures.each j (omega (arith, l)) (omega (arith, m)) lt));
    }

pub returns : goal.returns
returns c =
    let count = c.loop-b.invariant.count in
    record {
      usable = c.loop-b.invariant.usable;
      whole = omega (arith, count, c.loop-b-test.false, c.div_ceil-b-end.ensures);
      some = λ b l. omega (arith, l, count, c.loop-b.auto.b-end, c.div_ceil-b-end.ensures);
      each = λ b j l. c.loop-b.invariant.each b j (omega (arith, l, count));
    }
