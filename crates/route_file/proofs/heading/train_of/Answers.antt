use Rattle.std.proofs.Common.{refl, rules, pos, get_or, w64}
use Rattle.std.proofs.lemmas.Int.{to_z-of_z}
use mir.Val.{SFits}
use Rattle.route_file.proofs.NumbersRead.{some_then}
use Rattle.route_file.proofs.heading.train_of.Goals as goal

pub returns-clause-value : goal.returns-clause-value
returns-clause-value c =
    let f0 : SFits w64 (get_or c.args.numbers 0 (pos 0)) = search rules in
    let f1 : SFits w64 (get_or c.args.numbers 1 (pos 0)) = search rules in
    let f2 : SFits w64 (get_or c.args.numbers 2 (pos 0)) = search rules in
    let f3 : SFits w64 (get_or c.args.numbers 3 (pos 0)) = search rules in
    let f4 : SFits w64 (get_or c.args.numbers 4 (pos 0)) = search rules in
    let mass = some_then _ _ _ (simp to_z-of_z at c.in_ok-mass.ensures.value) in
    let inertia = some_then _ _ _ (simp to_z-of_z at c.in_ok-inertia.ensures.value) in
    let a = some_then _ _ _ (simp to_z-of_z at c.in_ok-a.ensures.value) in
    let b = some_then _ _ _ (simp to_z-of_z at c.in_ok-b.ensures.value) in
    let k = some_then _ _ _ (simp to_z-of_z at c.in_ok-c.ensures.value) in
    rw (mass.0, inertia.0, a.0, b.0, k.0, mass.1, inertia.1, a.1, b.1, k.1) refl
