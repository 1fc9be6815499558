-- Values of cells that are found anew from the first point up to some point k, where those from point k on stay.
use Rattle.std.specs.Prelude.{ℕ, ◌+◌, ◌-◌, ◌<◌, ◌≤◌, ◌≡◌, ℤ, List, [], ◌∷◌, ◌++◌, Option, Some, IfSome, length, take, drop}
use Rattle.bound_specs.specs.declared.Cell.{Cell}
use Rattle.bound_specs.specs.Cells.{cells_of, cell_at}
use Rattle.bound_specs.specs.Chains.{plus, IsAtMost, cost_along, RunThrough, IsLeastChain, values_of, value_at}

-- the least over lists of cells from a cell of point i to a cell of point k, one cell of each point between them, with a link between
-- neighbours: what the links cost together, and the value of the last cell. None where there is no such list
pub record IsLeastTo (low : ℕ → Cell → Cell → Option ℤ) (k : ℕ) (cells : List (List Cell)) (values : List (List (Option ℤ)))
    (i : ℕ) (a : Cell) (least : Option ℤ) : Type 0 where
  pub attained : IfSome least (λ p.
      (between : List Cell) × (c : ℕ) × RunThrough (take (k - (i + 1)) (drop (i + 1) cells)) between × (c < length (cells_of cells k))
      × (plus (cost_along low i (a ∷ between ++ cell_at cells k c ∷ [])) (value_at values k c) ≡ Some p))
  pub below : (between : List Cell) (c : ℕ) → RunThrough (take (k - (i + 1)) (drop (i + 1) cells)) between → c < length (cells_of cells k)
      → IsAtMost least (plus (cost_along low i (a ∷ between ++ cell_at cells k c ∷ [])) (value_at values k c))

-- the cells from point k on are the same
abbrev pub SameFrom : ℕ → List (List Cell) → List (List Cell) → Type 0
SameFrom k before now = (length before ≡ length now) × ((j : ℕ) → k ≤ j → cells_of before j ≡ cells_of now j)

-- the first k steps have the same costs of links
abbrev pub SameSteps : ℕ → (ℕ → Cell → Cell → Option ℤ) → (ℕ → Cell → Cell → Option ℤ) → Type 0
SameSteps k low whole = (i : ℕ) (a b : Cell) → i < k → low i a b ≡ whole i a b

-- the values from point k on are potentials: for each cell of each of these points what the least chain from it costs
pub record ArePotentialsFrom (low : ℕ → Cell → Cell → Option ℤ) (k : ℕ) (cells : List (List Cell)) (values : List (List (Option ℤ))) : Type 0 where
  pub points : length values ≡ length cells
  pub counts : (j : ℕ) → k ≤ j → j < length cells → length (values_of values j) ≡ length (cells_of cells j)
  pub least : (j c : ℕ) → k ≤ j → j < length cells → c < length (cells_of cells j) → IsLeastChain low j cells (cell_at cells j c) (value_at values j c)
