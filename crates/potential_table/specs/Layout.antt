-- How the values of all points stand in one list.
use Rattle.std.specs.Prelude.{ℕ, ◌+◌, ◌-◌, ◌<◌, ◌≤◌, ◌≡◌, ℤ, List, Option, length, map, take, drop, slice_index}
use Rattle.std.specs.List.{range_with_len}
use Rattle.potential_table.specs.Filling.{AreSmallFrom}

-- the values of point k
abbrev pub part_of : List ℕ → List (Option ℤ) → ℕ → List (Option ℤ)
part_of starts values k = take (slice_index starts (k + 1) - slice_index starts k) (drop (slice_index starts k) values)

-- a list for each point, with a value for each of its cells
abbrev pub values_in : List ℕ → List (Option ℤ) → List (List (Option ℤ))
values_in starts values = map (part_of starts values) (range_with_len 0 (length starts - 1))

-- where the values of each point begin, and where they all end
pub record IsLayout (starts : List ℕ) (values : List (Option ℤ)) : Type 0 where
  pub some : 1 ≤ length starts
  pub few : length starts ≤ 4002
  pub first : slice_index starts 0 ≡ 0
  pub rises : (k : ℕ) → k + 1 < length starts → slice_index starts k ≤ slice_index starts (k + 1)
  pub last : slice_index starts (length starts - 1) ≡ length values
  pub small : AreSmallFrom starts (length starts - 1) values 0
