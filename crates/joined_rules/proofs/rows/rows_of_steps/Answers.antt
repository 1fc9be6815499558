use Rattle.std.proofs.Common.{ℕ, ℤ, ◌≡◌, ◌<◌, ◌≤◌, ◌+◌, ◌-◌, ◌∙◌, length, get_or, arith, pos, to_z, of_z, w32, subst, ap, below_more, List, [], ◌∷◌, length-append}
use Rattle.std.proofs.lemmas.Int.{ints}
use Rattle.rail_specs.specs.declared.StepNumbers.{StepNumbers}
use Rattle.rail_specs.specs.Rules.{no_step}
use Rattle.rail_specs.specs.Step.{step_of_train, HasSmallDrag}
use Rattle.train_file.specs.Shape.{numbers_of}
use Rattle.joined_rules.proofs.JoinedLists.{pushed}
use Rattle.joined_rules.proofs.rows.rows_of_steps.Goals as goal

not_both : (x y : ℕ) → x < y → y ≤ x → ⊥
not_both x y a b = omega arith

pub loop-i-preserved : goal.loop-i-preserved
loop-i-preserved g c =
    let train = numbers_of c.args.train.now in
    let places = c.args.places.now in
    let gradients = c.args.gradients.now in
    let i = c.loop-i.i in
    let metres : ℕ = get_or places (i + 1) 0 - get_or places i 0 in
    let value : ℤ = get_or gradients i (pos 0) in
    let there : i < length gradients = omega (arith, c.loop-i-test.true) in
    let same : to_z w32 (of_z w32 value) ≡ value = omega (arith, ints, c.requires.down i there, c.requires.up i there) in
    let numbers : c.step_numbers-numbers.result ≡ step_of_train train metres value = c.step_numbers-numbers.ensures.value ∙ ap (λ (z : ℤ). step_of_train train metres z) same in
    let n : length c.loop-i.rows.items ≡ i = c.loop-i.invariant.count in
    let row : c.in-Ok.row ≡ step_of_train train metres value = c.in-Ok.ensures.made ∙ numbers in
    let light : HasSmallDrag (step_of_train train metres value) = subst (λ (s : StepNumbers). HasSmallDrag s) numbers c.in-Ok.ensures.small_drag in
    record {
      count = omega (arith, n, ap (λ (xs : List StepNumbers). length xs) c.in_ok-append-in-Ok.ensures, length-append c.loop-i.rows.items (c.in-Ok.row ∷ []));
      each = pushed (λ j r. r ≡ step_of_train train (get_or places (j + 1) 0 - get_or places j 0) (get_or gradients j (pos 0))) c.loop-i.rows.items c.append.new.rows.items c.in-Ok.row no_step c.in_ok-append-in-Ok.ensures c.loop-i.invariant.each (rw n row);
      light = below_more _ _ c.loop-i.invariant.light (λ great. not_both _ _ light great);
      counted = omega (arith, c.loop-i.invariant.counted, c.make.ensures.counted);
    }
