-- What the search for costates looks at.
use Rattle.std.specs.Int.{int_max, int_min}
use Rattle.std.specs.Prelude.{ℕ, ℤ, pos, negsuc, ◌^◌, ◌-◌, ◌+◌, ◌≤◌, ◌≡◌, List, length, slice_index}
use Rattle.rail_specs.specs.Rules.{Rules}

-- the rules, the share that comes back, the speeds at which tangents are taken, the least and the greatest speeds, and the slopes of the tangents
pub record Course : Type 0 where
  pub rules : Rules
  pub share : ℕ
  pub speeds : List ℕ
  pub low : List ℕ
  pub high : List ℕ
  pub slopes : List ℕ

-- one speed and one range for each point, one slope for each step
pub record IsCourse (c : Course) : Type 0 where
  pub few : length c.rules.steps ≤ 4000
  pub speeds : length c.speeds ≡ length c.rules.steps + 1
  pub low : length c.low ≡ length c.rules.steps + 1
  pub high : length c.high ≡ length c.rules.steps + 1
  pub order : (k : ℕ) → slice_index c.low k ≤ slice_index c.high k
  pub top : (k : ℕ) → slice_index c.high k ≤ c.rules.top
  pub slopes : length c.slopes ≡ length c.rules.steps
  pub top_small : c.rules.top ≤ 12000

-- a costate, moved into its range
abbrev pub within_range : ℤ → ℤ
within_range s = int_max (negsuc (2 ^ 22 - 1)) (int_min (pos (2 ^ 22)) s)
