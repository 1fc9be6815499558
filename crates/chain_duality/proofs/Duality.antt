-- Weak duality: feasible values bound what speeds through the cells cost; and what least chains cost is feasible.
use Rattle.std.proofs.Common.{ℕ, ◌≡◌, ◌<◌, ◌≤◌, ◌+◌, ◌∙◌, Option, Some, None, List, [], ◌∷◌, length, get_or, drop, refl, ap, sym, subst, arith, inl, inr, pos}
use Rattle.std.specs.Prelude.{ℤ, IfSome}
use Rattle.std.proofs.lemmas.Bool.{cases_lt}
use Rattle.std.proofs.lemmas.Int.{ints}
use Rattle.std.proofs.lemmas.List.Elements.{Contains-get_or}
use Rattle.bound_specs.specs.declared.Cell.{Cell}
use Rattle.bound_specs.specs.Cells.{cells_of, cell_at, no_cell, HasSpeed, RunInside}
use Rattle.bound_specs.specs.Chains.{plus, IsAtMost, cost_along, RunThrough, IsLeastChain, value_at, ArePotentials, AreCellCosts, WeakDuality}
use Rattle.bound_specs.specs.Feasible.{AreFeasible}
use Rattle.chain_duality.proofs.Orders.{at_most-trans, at_most-refl, plus_rises, if_some, below_if}
use Rattle.chain_duality.proofs.Lists.{AreCellsOfPoints, next_first, none_behind}

module _ (n : ℕ) (real : ℕ → ℕ → ℕ → Option ℤ) (low : ℕ → Cell → Cell → Option ℤ) (laws : AreCellCosts n real low)
    (cells : List (List Cell)) (points : length cells ≡ n + 1) (known : AreCellsOfPoints cells) (values : List (List (Option ℤ)))
    (feasible : AreFeasible low cells values) where
  -- the value of a cell of the last point
  at_end : (k c : ℕ) (v : ℕ) (speeds : List ℕ) → k < length cells → length cells ≤ k + 1 → c < length (cells_of cells k)
      → RunInside (drop (k + 1) cells) speeds → IsAtMost (value_at values k c) (cost_along real k (v ∷ speeds))
  at_end k c v [] lt ge in_point run =
      subst (λ (p : Option ℤ). IsAtMost p (Some (pos 0))) (sym (feasible.last k c (omega (arith, lt, ge)) in_point)) (at_most-refl (Some (pos 0)))
  at_end k c v (w ∷ speeds) lt ge in_point run =
      absurd (subst (λ (r : List (List Cell)). RunInside r (w ∷ speeds)) (none_behind cells k ge) run)

  -- a cell's value is at most what the steps of speeds through the cells behind it cost
  pub weak_duality : (k c v : ℕ) (speeds : List ℕ) → k < length cells → c < length (cells_of cells k) → HasSpeed (cell_at cells k c) v
      → RunInside (drop (k + 1) cells) speeds → IsAtMost (value_at values k c) (cost_along real k (v ∷ speeds))
  weak_duality k c v [] lt in_point has run = elim (cases_lt (k + 1) (length cells)) [
    | inl more ↦ absurd (subst (λ (r : List (List Cell)). RunInside r []) (sym (next_first cells k more)) run)
    | inr ge ↦ at_end k c v [] lt ge in_point run
  ]
  weak_duality k c v (w ∷ speeds) lt in_point has run = elim (cases_lt (k + 1) (length cells)) [
    | inl more ↦
        let inside = subst (λ (r : List (List Cell)). RunInside r (w ∷ speeds)) (sym (next_first cells k more)) run in
        let d : ℕ = inside.0.0 in
        let b : Cell = cell_at cells (k + 1) d in
        let on = weak_duality (k + 1) d w speeds more inside.0.1 inside.0.2 inside.1 in
        at_most-trans (value_at values k c) (plus (low k (cell_at cells k c) b) (value_at values (k + 1) d)) (cost_along real k (v ∷ w ∷ speeds))
        (feasible.links k c d more in_point inside.0.1)
        (plus_rises (low k (cell_at cells k c) b) (real k v w) (value_at values (k + 1) d) (cost_along real (k + 1) (w ∷ speeds))
        (laws.below k (cell_at cells k c) b v w (omega (arith, more, points)) (known k c lt in_point) (known (k + 1) d more inside.0.1) has inside.0.2)
        on)
    | inr ge ↦ at_end k c v (w ∷ speeds) lt ge in_point run
  ]

-- what the least chain costs where no step is left
least_at_end : (low : ℕ → Cell → Cell → Option ℤ) (k : ℕ) (a : Cell) (v : Option ℤ)
    → IfSome v (λ p. (chain : List Cell) × RunThrough [] chain × (cost_along low k (a ∷ chain) ≡ Some p)) → IsAtMost v (Some (pos 0))
    → v ≡ Some (pos 0)
least_at_end low k a None h g = absurd g
least_at_end low k a (Some p) ([], run, e) g = sym e
least_at_end low k a (Some p) (b ∷ chain, run, e) g = absurd run

-- a value is at most what a link costs and the least chain behind it
link_below : (low : ℕ → Cell → Cell → Option ℤ) (k : ℕ) (a : Cell) (right : List Cell) (rest : List (List Cell)) (d : ℕ) (v w : Option ℤ)
    → d < length right
    → ((chain : List Cell) → RunThrough (right ∷ rest) chain → IsAtMost v (cost_along low k (a ∷ chain)))
    → IfSome w (λ p. (chain : List Cell) × RunThrough rest chain × (cost_along low (k + 1) (get_or right d no_cell ∷ chain) ≡ Some p))
    → IsAtMost v (plus (low k a (get_or right d no_cell)) w)
link_below low k a right rest d v w lt below attained =
    let b : Cell = get_or right d no_cell in
    below_if v (low k a b) w
    (if_some w (λ p. (chain : List Cell) × RunThrough rest chain × (cost_along low (k + 1) (b ∷ chain) ≡ Some p)) (λ p. IsAtMost v (plus (low k a b) (Some p)))
    (λ p h. subst (λ (q : Option ℤ). IsAtMost v (plus (low k a b) q)) h.2 (below (b ∷ h.0) (Contains-get_or right d no_cell lt, h.1))) attained)

-- what least chains cost is feasible
pub potentials_feasible : (low : ℕ → Cell → Cell → Option ℤ) (cells : List (List Cell)) (values : List (List (Option ℤ)))
    → ArePotentials low cells values → AreFeasible low cells values
potentials_feasible low cells values h = record {
  points = h.points;
  counts = h.counts;
  last = λ k c is in_point.
      let least = h.least k c (omega (arith, is)) in_point in
      let none : drop (k + 1) cells ≡ [] = none_behind cells k (omega (arith, is)) in
      least_at_end low k (cell_at cells k c) (value_at values k c)
      (subst (λ (r : List (List Cell)). IfSome (value_at values k c) (λ p. (chain : List Cell) × RunThrough r chain × (cost_along low k (cell_at cells k c ∷ chain) ≡ Some p))) none least.attained)
      (least.below [] (subst (λ (r : List (List Cell)). RunThrough r []) (sym none) tt));
  links = λ k c d more in_point in_next.
      let e = next_first cells k more in
      let here = h.least k c (omega (arith, more)) in_point in
      link_below low k (cell_at cells k c) (cells_of cells (k + 1)) (drop (k + 1 + 1) cells) d (value_at values k c) (value_at values (k + 1) d) in_next
      (subst (λ (r : List (List Cell)). (chain : List Cell) → RunThrough r chain → IsAtMost (value_at values k c) (cost_along low k (cell_at cells k c ∷ chain))) (sym e) here.below)
      (h.least (k + 1) d more in_next).attained;
}

-- so weak duality holds of what least chains cost
pub potentials_dual : (n : ℕ) (real : ℕ → ℕ → ℕ → Option ℤ) (low : ℕ → Cell → Cell → Option ℤ) → AreCellCosts n real low
    → (cells : List (List Cell)) → length cells ≡ n + 1 → AreCellsOfPoints cells → (values : List (List (Option ℤ)))
    → ArePotentials low cells values → WeakDuality real cells values
potentials_dual n real low laws cells points known values h = weak_duality n real low laws cells points known values (potentials_feasible low cells values h)
