-- Cells, links and prices, computed on worked numbers.
use Rattle.std.specs.Prelude.{◌≡◌, ℕ, pos, [], ◌∷◌, Some, None, true, false, replicate}
use Rattle.std.proofs.Common.{refl}
use Rattle.rail_specs.specs.declared.StepNumbers.{StepNumbers}
use Rattle.bound_specs.specs.declared.Cell.{Cell}
use Rattle.rail_specs.specs.Rules.{Rules}
use Rattle.rail_specs.specs.Cost.{traction_cost}
use Rattle.bound_specs.specs.Cells.{split_cells, whole_cell, cell_count, single}
use Rattle.bound_specs.specs.Chains.{cost_along}
use Rattle.bound_specs.specs.Prices.{Prices, step_price, priced_slack}
use Rattle.bound_specs.specs.Links.{Pricing, low_cost, priced_cost}

abbrev level : StepNumbers
level = record { mass = 1000; inertia = 1000; a = 1000; b = 0; c = 0; metres = 100; gradient = pos 0 }

-- two level steps of 100 m from rest to rest in 50 s
abbrev run : Rules
run = record {
  start = 0;
  top = 1000;
  traction = replicate 1001 51000;
  brake = replicate 1001 100000;
  train_length = 0;
  steps = level ∷ level ∷ [];
  limits = 1000 ∷ 1000 ∷ [];
  places = 0 ∷ 100 ∷ 200 ∷ [];
  stops = false ∷ false ∷ true ∷ [];
  dwells = 0 ∷ 0 ∷ 0 ∷ [];
  timings = (record { point = 2; latest = pos 50000 }) ∷ [];
}

-- one price, for the end
abbrev at_price : ℕ → Pricing
at_price price = record { cost = traction_cost; rules = run; prices = record { points = 2 ∷ []; values = price ∷ [] } }

abbrev cell : ℕ → ℕ → Cell
cell first last = record { first = first; last = last }

split-of_the_middle : split_cells (whole_cell (1, 1000)) 0 ≡ cell 1 500 ∷ cell 501 1000 ∷ []
split-of_the_middle = refl

count-after_the_split : cell_count (whole_cell (0, 0) ∷ split_cells (whole_cell (1, 1000)) 0 ∷ whole_cell (0, 0) ∷ []) ≡ 4
count-after_the_split = refl

-- timing points 1 and 2 at prices 5 and 7
abbrev two_prices : Prices
two_prices = record { points = 1 ∷ 2 ∷ []; values = 5 ∷ 7 ∷ [] }

step_price-of_the_first_step : step_price two_prices 0 ≡ 12
step_price-of_the_first_step = refl

step_price-of_the_second_step : step_price two_prices 1 ≡ 7
step_price-of_the_second_step = refl

step_price-past_the_end : step_price two_prices 2 ≡ 0
step_price-past_the_end = refl

low_cost-of_starting : low_cost (at_price 0) 0 (single 0) (cell 1 1000) ≡ Some (pos 200010000000)
low_cost-of_starting = refl

low_cost-of_stopping : low_cost (at_price 0) 1 (cell 1 1000) (single 0) ≡ Some (pos 0)
low_cost-of_stopping = refl

-- from 0 the traction takes the train to 1000 at most
low_cost-beyond_the_traction : low_cost (at_price 0) 0 (single 0) (cell 1001 1002) ≡ None
low_cost-beyond_the_traction = refl

-- the chains of the split cells, with a ms priced at 62,750,000
chain-of_low_speeds : cost_along (low_cost (at_price 62750000)) 0 (single 0 ∷ cell 1 500 ∷ single 0 ∷ []) ≡ Some (pos 5220010000000)
chain-of_low_speeds = refl

chain-of_high_speeds : cost_along (low_cost (at_price 62750000)) 0 (single 0 ∷ cell 501 1000 ∷ single 0 ∷ []) ≡ Some (pos 5220010000000)
chain-of_high_speeds = refl

value-of_the_slack : priced_slack run (at_price 62750000).prices ≡ pos 3137500000000
value-of_the_slack = refl

priced_cost-of_a_step : priced_cost (at_price 0) 0 0 800 ≡ Some (pos 6600000000000)
priced_cost-of_a_step = refl

priced_cost-of_standing : priced_cost (at_price 0) 0 0 0 ≡ None
priced_cost-of_standing = refl
