-- Ranges of speeds as two lists.
use Rattle.std.specs.Prelude.{ℕ, ◌≤◌, ◌≡◌, List, length, slice_index}

-- per point the least and the greatest speed, cm/s
pub record RangeLists : Type 0 where
  pub low : List ℕ
  pub high : List ℕ

-- at least one range, each from a speed up to one that is no lower, none above 12,000
pub record AreInOrder (r : RangeLists) : Type 0 where
  pub count : length r.low ≡ length r.high
  pub some : 1 ≤ length r.high
  pub ordered : (k : ℕ) → slice_index r.low k ≤ slice_index r.high k
  pub small : (k : ℕ) → slice_index r.high k ≤ 12000
