use Rattle.std.proofs.Common.{◌≡◌, true, arith, rules, refl, ◌∙◌, pos, get_or, w64}
use Rattle.std.proofs.lemmas.Int.{to_z-of_z}
use mir.Val.{SFits}
use Rattle.std.specs.Int.RustNames.{unsigned_abs}
use Rattle.rail_base.specs.Numbers.{is_within}
use Rattle.route_file.proofs.NumbersRead.{some_then, none_then}
use Rattle.route_file.proofs.RouteEntries.{step-made, limit-refused, drag-refused, last-false}
use Rattle.route_file.specs.Route.{is_step, row_count}
use Rattle.route_file.proofs.RouteCounts.{row_count-made, row_count-range}
use Rattle.route_file.proofs.entries.read_step.Goals as goal

pub returns-in_default-natural_within-clause-value :
    goal.returns-in_default-natural_within-clause-value
returns-in_default-natural_within-clause-value g c =
    let ns = c.read_after.new.numbers in
    let f2 : SFits w64 (get_or c.read_after.new.numbers 2 (pos 0)) = search rules in
    let limit = none_then _ _ (simp to_z-of_z at c.in_default-natural_within.ensures.value) in
    limit-refused c.args.train.now c.args.n c.args.line.now c.read_after.new.numbers c.if-n.false c.if-not-read_after.ensures limit

pub returns-in-Ok-clause-value : goal.returns-in-Ok-clause-value
returns-in-Ok-clause-value g c =
    let f0 : SFits w64 (get_or c.read_after.new.numbers 0 (pos 0)) = search rules in
    let f1 : SFits w64 (get_or c.read_after.new.numbers 1 (pos 0)) = search rules in
    let f2 : SFits w64 (get_or c.read_after.new.numbers 2 (pos 0)) = search rules in
    let limit : (is_within (pos 1) (pos 12000) (get_or c.read_after.new.numbers 2 (pos 0)) ≡ true) × (c.in-Some-natural_within.limit ≡ unsigned_abs (get_or c.read_after.new.numbers 2 (pos 0))) =
    some_then _ _ _ (simp to_z-of_z at c.in-Some-natural_within.ensures.value) in
    let step = some_then _ _ _ (simp to_z-of_z at c.in-Some.ensures.value) in
    let made : c.in-Ok.row ≡ c.in-Some.step = c.in-Ok.ensures.made in
    step-made c.args.train.now c.args.n c.args.line.now c.read_after.new.numbers c.in-Ok.row c.in-Some-natural_within.limit c.if-n.false c.if-not-read_after.ensures step.0 limit.0
    (λ h. c.in-Ok.ensures.refused.1 (rw step.1 h)) (made ∙ step.1) limit.1

pub returns-in-Err-clause-value : goal.returns-in-Err-clause-value
returns-in-Err-clause-value g c =
    let f0 : SFits w64 (get_or c.read_after.new.numbers 0 (pos 0)) = search rules in
    let f1 : SFits w64 (get_or c.read_after.new.numbers 1 (pos 0)) = search rules in
    let step = some_then _ _ _ (simp to_z-of_z at c.in-Some.ensures.value) in
    drag-refused c.args.train.now c.args.n c.args.line.now c.read_after.new.numbers c.if-n.false c.if-not-read_after.ensures (rw step.1 at c.in-Err.ensures.refused.0 refl)

pub returns-in_default-natural_within-clause-made :
    goal.returns-in_default-natural_within-clause-made
returns-in_default-natural_within-clause-made g c =
    let f2 : SFits w64 (get_or c.read_after.new.numbers 2 (pos 0)) = search rules in
    let limit = none_then _ _ (simp to_z-of_z at c.in_default-natural_within.ensures.value) in
    let none : row_count c.args.n c.args.line.now ≡ 0 = row_count-range c.args.n c.args.line.now c.read_after.new.numbers c.if-n.false c.if-not-read_after.ensures (last-false _ _ limit) in
    omega (arith, none)

pub returns-in-Ok-clause-made : goal.returns-in-Ok-clause-made
returns-in-Ok-clause-made g c =
    let f0 : SFits w64 (get_or c.read_after.new.numbers 0 (pos 0)) = search rules in
    let f1 : SFits w64 (get_or c.read_after.new.numbers 1 (pos 0)) = search rules in
    let f2 : SFits w64 (get_or c.read_after.new.numbers 2 (pos 0)) = search rules in
    let limit = some_then _ _ _ (simp to_z-of_z at c.in-Some-natural_within.ensures.value) in
    let step = some_then _ _ _ (simp to_z-of_z at c.in-Some.ensures.value) in
    let there : is_step c.read_after.new.numbers ≡ true = rw (step.0, limit.0) refl in
    let one : row_count c.args.n c.args.line.now ≡ 1 = row_count-made c.args.n c.args.line.now c.read_after.new.numbers c.if-n.false c.if-not-read_after.ensures there in
    omega (arith, one, c.in-Ok.ensures.counted)

pub returns-in-Err-clause-made : goal.returns-in-Err-clause-made
returns-in-Err-clause-made g c =
    let f0 : SFits w64 (get_or c.read_after.new.numbers 0 (pos 0)) = search rules in
    let f1 : SFits w64 (get_or c.read_after.new.numbers 1 (pos 0)) = search rules in
    let f2 : SFits w64 (get_or c.read_after.new.numbers 2 (pos 0)) = search rules in
    let limit = some_then _ _ _ (simp to_z-of_z at c.in-Some-natural_within.ensures.value) in
    let step = some_then _ _ _ (simp to_z-of_z at c.in-Some.ensures.value) in
    let there : is_step c.read_after.new.numbers ≡ true = rw (step.0, limit.0) refl in
    let one : row_count c.args.n c.args.line.now ≡ 1 = row_count-made c.args.n c.args.line.now c.read_after.new.numbers c.if-n.false c.if-not-read_after.ensures there in
    omega (arith, one, c.in-Err.ensures.counted)
