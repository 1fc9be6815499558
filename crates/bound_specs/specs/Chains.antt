-- Chains of cells and what they cost, over any cost of links; and weak duality.
use Rattle.std.specs.Prelude.{ℕ, ◌+◌, ◌^◌, ◌<◌, ◌≤◌, ◌≡◌, ℤ, pos, ◌+ℤ◌, ◌≤ℤ◌, List, [], ◌∷◌, Option, Some, None, IfSome, length, drop, slice_index_or, Contains, ⊤}
use Rattle.std.specs.Int.RustNames.{unsigned_abs}
use Rattle.bound_specs.specs.declared.Cell.{Cell}
use Rattle.bound_specs.specs.Cells.{cells_of, cell_at, IsCell, HasSpeed, IsInside, single, RunInside}

-- the sum of two numbers, none where either is none
abbrev pub plus : Option ℤ → Option ℤ → Option ℤ
plus None q = None
plus (Some p) None = None
plus (Some p) (Some q) = Some (p +ℤ q)

-- a number is at most another; none stands above every number
abbrev pub IsAtMost : Option ℤ → Option ℤ → Type 0
IsAtMost p None = ⊤
IsAtMost None (Some q) = ⊥
IsAtMost (Some p) (Some q) = p ≤ℤ q

-- what the steps of a list cost together, where its first step is step i; none where one of them costs none
abbrev pub cost_along : {X : Type 0} → (ℕ → X → X → Option ℤ) → ℕ → List X → Option ℤ
cost_along cost i [] = Some (pos 0)
cost_along cost i (x ∷ []) = Some (pos 0)
cost_along cost i (x ∷ y ∷ rest) = plus (cost i x y) (cost_along cost (i + 1) (y ∷ rest))

-- one cell of each of these points
abbrev pub RunThrough : List (List Cell) → List Cell → Type 0
RunThrough [] [] = ⊤
RunThrough [] (a ∷ chain) = ⊥
RunThrough (cs ∷ cells) [] = ⊥
RunThrough (cs ∷ cells) (a ∷ chain) = Contains cs a × RunThrough cells chain

-- a chain from a cell of point k has that cell and one cell of each later point, and each of its links costs something; this is
-- the least that such a chain costs, and none where there is no chain
pub record IsLeastChain (low : ℕ → Cell → Cell → Option ℤ) (k : ℕ) (cells : List (List Cell)) (a : Cell) (least : Option ℤ) : Type 0 where
  pub attained : IfSome least (λ p. (chain : List Cell) × RunThrough (drop (k + 1) cells) chain × (cost_along low k (a ∷ chain) ≡ Some p))
  pub below : (chain : List Cell) → RunThrough (drop (k + 1) cells) chain → IsAtMost least (cost_along low k (a ∷ chain))

-- the values of point k's cells
abbrev pub values_of : List (List (Option ℤ)) → ℕ → List (Option ℤ)
values_of values k = slice_index_or values k []

-- the value of cell c of point k
abbrev pub value_at : List (List (Option ℤ)) → ℕ → ℕ → Option ℤ
value_at values k c = slice_index_or (values_of values k) c None

-- potentials: for each cell of each point what the least chain from it costs
pub record ArePotentials (low : ℕ → Cell → Cell → Option ℤ) (cells : List (List Cell)) (values : List (List (Option ℤ))) : Type 0 where
  pub points : length values ≡ length cells
  pub counts : (k : ℕ) → k < length cells → length (values_of values k) ≡ length (cells_of cells k)
  pub least : (k c : ℕ) → k < length cells → c < length (cells_of cells k) → IsLeastChain low k cells (cell_at cells k c) (value_at values k c)

-- a number is within 2^86, where there is one
abbrev pub IsSmall : Option ℤ → Type 0
IsSmall p = IfSome p (λ n. unsigned_abs n ≤ 2 ^ 86)

-- what costs of n steps must keep: the cost of a step between speeds, and the low cost of a link between cells
pub record AreCellCosts (n : ℕ) (real : ℕ → ℕ → ℕ → Option ℤ) (low : ℕ → Cell → Cell → Option ℤ) : Type 0 where
  -- a link costs at most what each step costs from a speed of the one cell to a speed of the other
  pub below : (i : ℕ) (a b : Cell) (v w : ℕ) → i < n → IsCell a → IsCell b → HasSpeed a v → HasSpeed b w → IsAtMost (low i a b) (real i v w)
  -- between cells of one speed the two agree
  pub single : (i v w : ℕ) → i < n → v ≤ 12000 → w ≤ 12000 → low i (single v) (single w) ≡ real i v w
  -- between larger cells a link costs at most what it costs between cells inside them
  pub nested : (i : ℕ) (a b c d : Cell) → i < n → IsCell a → IsCell b → IsCell c → IsCell d → IsInside c a → IsInside d b → IsAtMost (low i a b) (low i c d)
  pub small_real : (i v w : ℕ) → i < n → v ≤ 12000 → w ≤ 12000 → IsSmall (real i v w)
  pub small_low : (i : ℕ) (a b : Cell) → i < n → IsCell a → IsCell b → IsSmall (low i a b)

-- weak duality: where speeds run through the cells from a cell on, and each of their steps costs something, the value of that cell
-- is there, and at most what the steps cost together
abbrev pub WeakDuality : (ℕ → ℕ → ℕ → Option ℤ) → List (List Cell) → List (List (Option ℤ)) → Type 0
WeakDuality real cells values =
    (k c v : ℕ) (speeds : List ℕ) → k < length cells → c < length (cells_of cells k) → HasSpeed (cell_at cells k c) v
    → RunInside (drop (k + 1) cells) speeds → IsAtMost (value_at values k c) (cost_along real k (v ∷ speeds))
