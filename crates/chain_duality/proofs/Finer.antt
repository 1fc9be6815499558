-- Under the same costs finer cells have no smaller least chains.
use Rattle.std.proofs.Common.{ℕ, suc, ◌≡◌, ◌<◌, ◌≤◌, ◌+◌, ◌∙◌, Option, Some, None, List, [], ◌∷◌, length, get_or, refl, ap, sym, subst, arith, pos}
use Rattle.std.specs.Prelude.{ℤ, IfSome}
use Rattle.std.proofs.lemmas.List.{get_or_default}
use Rattle.std.proofs.lemmas.List.Elements.{Contains-get_or}
use Rattle.bound_specs.specs.declared.Cell.{Cell}
use Rattle.bound_specs.specs.Cells.{cells_of, cell_at, no_cell, IsCell, IsInside}
use Rattle.bound_specs.specs.Chains.{plus, IsAtMost, cost_along, RunThrough, IsLeastChain, AreCellCosts}
use Rattle.chain_duality.proofs.Orders.{at_most-trans, at_most-refl, plus_rises}
use Rattle.chain_duality.proofs.Lists.{AreCellsOfPoints}

-- each cell of these points lies inside one of the cells of those
abbrev pub AreInside : List (List Cell) → List (List Cell) → Type 0
AreInside coarse fine = (k c : ℕ) → k < length fine → c < length (cells_of fine k)
    → (d : ℕ) × (d < length (cells_of coarse k)) × IsInside (cell_at fine k c) (cell_at coarse k d)

-- the same of the points behind the first
cells_behind : (cs : List Cell) (rest : List (List Cell)) → AreCellsOfPoints (cs ∷ rest) → AreCellsOfPoints rest
cells_behind cs rest h k c lt in_point = h (suc k) c (omega (arith, lt)) in_point

inside_behind : (cs ds : List Cell) (coarse fine : List (List Cell)) → AreInside (cs ∷ coarse) (ds ∷ fine) → AreInside coarse fine
inside_behind cs ds coarse fine h k c lt in_point = h (suc k) c (omega (arith, lt)) in_point

module _ (n : ℕ) (real : ℕ → ℕ → ℕ → Option ℤ) (low : ℕ → Cell → Cell → Option ℤ) (laws : AreCellCosts n real low) where
  -- a chain of finer cells lies inside a chain of the others, which costs no more
  coarse_chain : (coarse fine : List (List Cell)) (chain : List Cell) (k : ℕ) (a b : Cell) → IsCell a → IsCell b → IsInside b a
      → length coarse ≡ length fine → AreCellsOfPoints coarse → AreCellsOfPoints fine → AreInside coarse fine → k + length fine ≤ n → RunThrough fine chain
      → (around : List Cell) × RunThrough coarse around × IsAtMost (cost_along low k (a ∷ around)) (cost_along low k (b ∷ chain))
  coarse_chain [] [] [] k a b a_cell b_cell h long coarse_cells fine_cells inside few run = ([], tt, at_most-refl (Some (pos 0)))
  coarse_chain (cs ∷ coarse) [] chain k a b a_cell b_cell h long coarse_cells fine_cells inside few run = absurd (omega (arith, long))
  coarse_chain [] (ds ∷ fine) chain k a b a_cell b_cell h long coarse_cells fine_cells inside few run = absurd (omega (arith, long))
  coarse_chain [] [] (d ∷ chain) k a b a_cell b_cell h long coarse_cells fine_cells inside few run = absurd run
  coarse_chain (cs ∷ coarse) (ds ∷ fine) [] k a b a_cell b_cell h long coarse_cells fine_cells inside few run = absurd run
  coarse_chain (cs ∷ coarse) (ds ∷ fine) (y ∷ chain) k a b a_cell b_cell h long coarse_cells fine_cells inside few run =
      let c : ℕ = run.0.0 in
      let is : get_or ds c no_cell ≡ y = get_or_default ds c no_cell y run.0.1 ∙ run.0.2 in
      let y_cell : IsCell y = subst IsCell is (fine_cells 0 c (omega arith) run.0.1) in
      let at = inside 0 c (omega arith) run.0.1 in
      let x : Cell = get_or cs at.0 no_cell in
      let x_cell : IsCell x = coarse_cells 0 at.0 (omega arith) at.1 in
      let y_inside : IsInside y x = subst (λ (z : Cell). IsInside z x) is at.2 in
      let on = coarse_chain coarse fine chain (k + 1) x y x_cell y_cell y_inside (omega (arith, long)) (cells_behind cs coarse coarse_cells)
      (cells_behind ds fine fine_cells) (inside_behind cs ds coarse fine inside) (omega (arith, few)) run.1 in (
        x ∷ on.0,
        (Contains-get_or cs at.0 no_cell at.1, on.1),
        plus_rises (low k a x) (low k b y) (cost_along low (k + 1) (x ∷ on.0)) (cost_along low (k + 1) (y ∷ chain))
            (laws.nested k a x b y (omega (arith, few)) a_cell x_cell b_cell y_cell h y_inside) on.2,
      )

  -- so the least chain of finer cells costs no less
  finer_least : (coarse fine : List (List Cell)) (k : ℕ) (a b : Cell) (v w : Option ℤ) → IsCell a → IsCell b → IsInside b a
      → length coarse ≡ length fine → AreCellsOfPoints coarse → AreCellsOfPoints fine → AreInside coarse fine → k + length fine ≤ n
      → ((chain : List Cell) → RunThrough coarse chain → IsAtMost v (cost_along low k (a ∷ chain)))
      → ((p : ℤ) → w ≡ Some p → (chain : List Cell) × RunThrough fine chain × (cost_along low k (b ∷ chain) ≡ Some p))
      → IsAtMost v w
  finer_least coarse fine k a b v None a_cell b_cell h long coarse_cells fine_cells inside few below attained = tt
  finer_least coarse fine k a b v (Some p) a_cell b_cell h long coarse_cells fine_cells inside few below attained =
      let at = attained p refl in
      let around = coarse_chain coarse fine at.0 k a b a_cell b_cell h long coarse_cells fine_cells inside few at.1 in
      subst (IsAtMost v) at.2 (at_most-trans v (cost_along low k (a ∷ around.0)) (cost_along low k (b ∷ at.0)) (below around.0 around.1) around.2)

  -- the least chain from the only cell at the start costs no less where cells are finer
  pub finer_chains : (coarse fine : List (List Cell)) → length coarse ≡ n + 1 → length fine ≡ n + 1
      → length (cells_of coarse 0) ≡ 1 → length (cells_of fine 0) ≡ 1 → AreCellsOfPoints coarse → AreCellsOfPoints fine → AreInside coarse fine
      → (v w : Option ℤ) → IsLeastChain low 0 coarse (cell_at coarse 0 0) v → IsLeastChain low 0 fine (cell_at fine 0 0) w → IsAtMost v w
  finer_chains [] fine long same one other coarse_cells fine_cells inside v w is_v is_w = absurd (omega (arith, long))
  finer_chains (cs ∷ coarse) [] long same one other coarse_cells fine_cells inside v w is_v is_w = absurd (omega (arith, same))
  finer_chains (cs ∷ coarse) (ds ∷ fine) long same one other coarse_cells fine_cells inside v w is_v is_w =
      let at = inside 0 0 (omega arith) (omega (arith, other)) in
      let first : at.0 ≡ 0 = omega (arith, at.1, one) in
      let h : IsInside (get_or ds 0 no_cell) (get_or cs 0 no_cell) = subst (λ (d : ℕ). IsInside (get_or ds 0 no_cell) (get_or cs d no_cell)) first at.2 in
      finer_least coarse fine 0 (get_or cs 0 no_cell) (get_or ds 0 no_cell) v w (coarse_cells 0 0 (omega arith) (omega (arith, one)))
      (fine_cells 0 0 (omega arith) (omega (arith, other))) h (omega (arith, long, same)) (cells_behind cs coarse coarse_cells) (cells_behind ds fine fine_cells)
      (inside_behind cs ds coarse fine inside) (omega (arith, same)) is_v.below
      (λ p e. subst (λ (q : Option ℤ). IfSome q (λ r. (chain : List Cell) × RunThrough fine chain × (cost_along low 0 (get_or ds 0 no_cell ∷ chain) ≡ Some r))) e is_w.attained)
