use Rattle.std.proofs.Common.{ℕ, ◌<◌, ◌%◌, ◌≡◌, ◌++◌, ◌∷◌, [], List, subst, ap, ◌∙◌}
use Rattle.std.proofs.lemmas.List.Filters.{dedup_is}
use lib.Dec.{eqb}
use Rattle.distance_grid.proofs.Places.{sorted_grid, HasMore}
use Rattle.distance_grid.proofs.grid.places_between.Goals as goal

pub returns : goal.returns
returns c =
    let from = c.args.from in
    let to = c.args.to in
    let some = c.push_multiples.new.places.items in
    let e : c.push.new.self.items ≡ from ∷ [] = c.in_ok-push.ensures.items ∙ ap (λ (l : List ℕ). l ++ from ∷ []) c.new-places.ensures.items in
    let m : HasMore some (from ∷ []) (λ p. (from < p) × (p < to) × (p % c.args.step ≡ 0)) =
    subst (λ (l : List ℕ). HasMore some l (λ p. (from < p) × (p < to) × (p % c.args.step ≡ 0))) e c.in_ok-push_multiples.ensures in
    rw (dedup_is eqb _ _ c.dedup.ensures.filtered)
    (sorted_grid c.args.marks.now c.args.step from to some c.push_marks.new.places.items c.push-2.new.self.items c.sort_unstable.new.self.items c.requires.span m c.in_ok-push_marks.ensures c.in_ok-push-2.ensures.items c.sort_unstable.ensures.permutation c.sort_unstable.ensures.sorted)
