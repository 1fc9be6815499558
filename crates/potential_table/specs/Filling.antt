-- How the table is filled, from the last point backwards.
use Rattle.std.specs.Prelude.{ℕ, ◌+◌, ◌*◌, ◌^◌, ◌<◌, ◌≤◌, ◌≡◌, ◌-◌, ℤ, pos, cond, int_le, List, Option, Some, None, IfSome, length, slice_index, slice_index_or}
use Rattle.std.specs.Int.RustNames.{unsigned_abs}
use Rattle.bound_specs.specs.declared.Cell.{Cell}
use Rattle.bound_specs.specs.Cells.{cells_of, cell_at, no_cell, IsCell}
use Rattle.bound_specs.specs.Chains.{plus, IsAtMost, value_at}

-- the lesser of two numbers; none stands above every number
abbrev pub lesser : Option ℤ → Option ℤ → Option ℤ
lesser p None = p
lesser None (Some q) = Some q
lesser (Some p) (Some q) = cond (int_le p q) (Some p) (Some q)

-- the sum that a number stands for; 2^127 - 1 stands for none, so that it is above every sum
abbrev pub sum_found : ℤ → Option ℤ
sum_found n = cond (int_le (pos (2 ^ 127 - 1)) n) None (Some n)

-- v is the least of the first m of these numbers, and none where each of them is none
pub record IsLeastOf (f : ℕ → Option ℤ) (m : ℕ) (v : Option ℤ) : Type 0 where
  pub attained : IfSome v (λ p. (c : ℕ) × (c < m) × (f c ≡ Some p))
  pub below : (c : ℕ) → c < m → IsAtMost v (f c)

-- what the least chain costs that goes from cell a to cell c of the next point, from whose cells the least chains cost these values
abbrev pub through : (ℕ → Cell → Cell → Option ℤ) → ℕ → Cell → List Cell → (ℕ → Option ℤ) → ℕ → Option ℤ
through low k a right beyond c = plus (low k a (slice_index_or right c no_cell)) (beyond c)

-- the value at a place of a list, none past its end
abbrev pub value_in : List (Option ℤ) → ℕ → Option ℤ
value_in values j = slice_index_or values j None

-- the value of cell c of the point whose values begin at a place of a list
abbrev pub value_from : List (Option ℤ) → ℕ → ℕ → Option ℤ
value_from values start c = slice_index_or values (start + c) None

-- each of these is an interval of speeds
abbrev pub AreCells : List Cell → Type 0
AreCells cs = (c : ℕ) → c < length cs → IsCell (slice_index_or cs c no_cell)

-- a number is within 4,000 times 2^86, as the sum of so many small costs is, where there is one
abbrev pub IsSmallSum : Option ℤ → Type 0
IsSmallSum p = IfSome p (λ n. unsigned_abs n ≤ 4000 * 2 ^ 86)

-- where the values of each point begin, and where they all end
pub record AreStarts (starts : List ℕ) (cells : List (List Cell)) : Type 0 where
  pub points : length starts ≡ length cells + 1
  pub first : slice_index starts 0 ≡ 0
  pub next : (k : ℕ) → k < length cells → slice_index starts (k + 1) ≡ slice_index starts k + length (cells_of cells k)

-- a number is within so many times 2^86, as the sum of so many small costs is, where there is one
abbrev pub IsSumOf : ℕ → Option ℤ → Type 0
IsSumOf n p = IfSome p (λ q. unsigned_abs q ≤ n * 2 ^ 86)

-- of so many points the values from point i on are as small as sums of the steps behind them are
abbrev pub AreSmallFrom : List ℕ → ℕ → List (Option ℤ) → ℕ → Type 0
AreSmallFrom starts points values i =
    (m j : ℕ) → i ≤ m → m < points → slice_index starts m ≤ j → IsSumOf (points - 1 - m) (slice_index_or values j None)

-- the values of the points from point i up to point k are each the least over the links to the next point and its values
abbrev pub IsFilled : (ℕ → Cell → Cell → Option ℤ) → List (List Cell) → List ℕ → List (Option ℤ) → ℕ → ℕ → Type 0
IsFilled low cells starts values i k =
    (m c : ℕ) → i ≤ m → m < k → c < length (cells_of cells m)
    → IsLeastOf (through low m (cell_at cells m c) (cells_of cells (m + 1)) (value_from values (slice_index starts (m + 1))))
    (length (cells_of cells (m + 1))) (value_from values (slice_index starts m) c)

-- each value before point k is the least over the links to the next point and its values
abbrev pub AreLinked : (ℕ → Cell → Cell → Option ℤ) → ℕ → List (List Cell) → List (List (Option ℤ)) → Type 0
AreLinked low k cells values =
    (m c : ℕ) → m < k → c < length (cells_of cells m)
    → IsLeastOf (through low m (cell_at cells m c) (cells_of cells (m + 1)) (value_at values (m + 1))) (length (cells_of cells (m + 1))) (value_at values m c)
