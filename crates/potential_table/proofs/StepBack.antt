-- The least chain from a cell by the least chains from the next point's cells.
use Rattle.std.proofs.Common.{ℕ, ◌≡◌, ◌<◌, ◌≤◌, ◌+◌, ◌∙◌, Option, Some, None, List, [], ◌∷◌, length, get_or, drop, refl, ap, sym, subst, pos, add-one, drop-cons}
use Rattle.std.proofs.Math.ListN.{drop_of_length-le}
use Rattle.std.specs.Prelude.{ℤ, IfSome}
use Rattle.std.proofs.lemmas.List.{get_or_default}
use Rattle.std.proofs.lemmas.List.Elements.{Contains-get_or}
use Rattle.bound_specs.specs.declared.Cell.{Cell}
use Rattle.bound_specs.specs.Cells.{cells_of, cell_at, no_cell}
use Rattle.bound_specs.specs.Chains.{plus, IsAtMost, cost_along, RunThrough, IsLeastChain}
use Rattle.potential_table.specs.Filling.{IsLeastOf, through}
use Rattle.chain_duality.proofs.Orders.{at_most-trans, at_most-refl, plus_rises, second_part}

-- some chain through these points costs v, where v is there
abbrev IsReached : (ℕ → Cell → Cell → Option ℤ) → ℕ → List (List Cell) → Cell → Option ℤ → Type 0
IsReached low k rest a v = IfSome v (λ p. (chain : List Cell) × RunThrough rest chain × (cost_along low k (a ∷ chain) ≡ Some p))

-- each chain through these points costs at least v
abbrev IsBelow : (ℕ → Cell → Cell → Option ℤ) → ℕ → List (List Cell) → Cell → Option ℤ → Type 0
IsBelow low k rest a v = (chain : List Cell) → RunThrough rest chain → IsAtMost v (cost_along low k (a ∷ chain))

-- what goes to one cell of the next point, and on by a chain that costs its value, is a chain
reached_by : (low : ℕ → Cell → Cell → Option ℤ) (k : ℕ) (a : Cell) (right : List Cell) (rest : List (List Cell)) (c : ℕ)
    (y : Option ℤ) (p : ℤ) → c < length right
    → IsReached low (k + 1) rest (get_or right c no_cell) y → plus (low k a (get_or right c no_cell)) y ≡ Some p
    → IsReached low k (right ∷ rest) a (Some p)
reached_by low k a right rest c None p lt h e =
    absurd (let s = second_part (low k a (get_or right c no_cell)) None p e in let t : None ≡ Some s.0 = s.1 in cc)
reached_by low k a right rest c (Some q) p lt h e =
    (get_or right c no_cell ∷ h.0, (Contains-get_or right c no_cell lt, h.1), ap (plus (low k a (get_or right c no_cell))) h.2 ∙ e)

-- the least over all cells of the next point is what some chain costs
reached : (low : ℕ → Cell → Cell → Option ℤ) (k : ℕ) (a : Cell) (right : List Cell) (rest : List (List Cell))
    (beyond : ℕ → Option ℤ) (v : Option ℤ)
    → ((c : ℕ) → c < length right → IsReached low (k + 1) rest (get_or right c no_cell) (beyond c))
    → IfSome v (λ p. (c : ℕ) × (c < length right) × (through low k a right beyond c ≡ Some p)) → IsReached low k (right ∷ rest) a v
reached low k a right rest beyond None h g = tt
reached low k a right rest beyond (Some p) h g = reached_by low k a right rest g.0 (beyond g.0) p g.1 (h g.0 g.1) g.2

-- the least over all cells of the next point is at most what each chain costs
under : (low : ℕ → Cell → Cell → Option ℤ) (k : ℕ) (a : Cell) (right : List Cell) (rest : List (List Cell))
    (beyond : ℕ → Option ℤ) (v : Option ℤ)
    → ((c : ℕ) → c < length right → IsBelow low (k + 1) rest (get_or right c no_cell) (beyond c))
    → ((c : ℕ) → c < length right → IsAtMost v (through low k a right beyond c)) → IsBelow low k (right ∷ rest) a v
under low k a right rest beyond v h g [] run = absurd run
under low k a right rest beyond v h g (b ∷ chain) run =
    let c : ℕ = run.0.0 in
    let lt : c < length right = run.0.1 in
    let is : get_or right c no_cell ≡ b = get_or_default right c no_cell b lt ∙ run.0.2 in
    let l : Option ℤ = low k a (get_or right c no_cell) in
    let at : IsAtMost v (plus l (cost_along low (k + 1) (get_or right c no_cell ∷ chain))) =
    at_most-trans v (plus l (beyond c)) (plus l (cost_along low (k + 1) (get_or right c no_cell ∷ chain))) (g c lt)
    (plus_rises l l (beyond c) (cost_along low (k + 1) (get_or right c no_cell ∷ chain)) (at_most-refl l) (h c lt chain run.1)) in
    subst (λ (x : Cell). IsAtMost v (plus (low k a x) (cost_along low (k + 1) (x ∷ chain)))) is at

-- no chain without a step costs less than 0
end_below : (low : ℕ → Cell → Cell → Option ℤ) (k : ℕ) (a : Cell) → IsBelow low k [] a (Some (pos 0))
end_below low k a [] run = at_most-refl (Some (pos 0))
end_below low k a (b ∷ chain) run = absurd run

-- no step is left from a cell of the last point
pub least_at_end : (low : ℕ → Cell → Cell → Option ℤ) (k : ℕ) (cells : List (List Cell)) (a : Cell) → length cells ≤ k + 1
    → IsLeastChain low k cells a (Some (pos 0))
least_at_end low k cells a h =
    let e : [] ≡ drop (k + 1) cells = sym (drop_of_length-le cells h) in
    record {
      attained = subst (λ (r : List (List Cell)). IsReached low k r a (Some (pos 0))) e ([], tt, refl);
      below = subst (λ (r : List (List Cell)). IsBelow low k r a (Some (pos 0))) e (end_below low k a);
    }

-- the step back: the least chain from a cell goes to a cell of the next point, and on by the least chain from there
pub step_back : (low : ℕ → Cell → Cell → Option ℤ) (k : ℕ) (cells : List (List Cell)) (a : Cell) (beyond : ℕ → Option ℤ)
    (v : Option ℤ) → k + 1 < length cells
    → ((c : ℕ) → c < length (cells_of cells (k + 1)) → IsLeastChain low (k + 1) cells (cell_at cells (k + 1) c) (beyond c))
    → IsLeastOf (through low k a (cells_of cells (k + 1)) beyond) (length (cells_of cells (k + 1))) v
    → IsLeastChain low k cells a v
step_back low k cells a beyond v lt h least =
    let right : List Cell = cells_of cells (k + 1) in
    let rest : List (List Cell) = drop (k + 1 + 1) cells in
    let e : right ∷ rest ≡ drop (k + 1) cells = rw (add-one (k + 1)) (sym (drop-cons cells (k + 1) [] lt)) in
    record {
      attained = subst (λ (r : List (List Cell)). IsReached low k r a v) e
          (reached low k a right rest beyond v (λ c l. (h c l).attained) least.attained);
      below = subst (λ (r : List (List Cell)). IsBelow low k r a v) e
          (under low k a right rest beyond v (λ c l. (h c l).below) least.below);
    }
