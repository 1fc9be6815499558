-- When a certificate holds, and what it shows then.
use Rattle.std.specs.Prelude.{◌+◌, ◌≡◌, ℤ, ◌+ℤ◌, Some, length}
use Rattle.bound_specs.specs.Cells.{CellsFit}
use Rattle.bound_specs.specs.Chains.{value_at}
use Rattle.bound_specs.specs.Feasible.{AreFeasible}
use Rattle.bound_specs.specs.Links.{low_cost}
use Rattle.bound_specs.specs.Prices.{priced_slack}
use Rattle.rail_specs.specs.Rules.{Rules, IsDrive}
use Rattle.rail_specs.specs.Times.{IsOnTimeUp}
use Rattle.rail_specs.specs.Cost.{cost_of, IsBound}
use Rattle.dual_certificate.specs.declared.certificate.Certificate.{Certificate}
use Rattle.dual_certificate.specs.Contents.{speeds_of, cell_lists, value_lists}
use Rattle.certificate_checker.specs.Contents.{prices_in, pricing_in}

-- a certificate holds for rules and a cost of work: its drive is one on time and costs its energy; its cells run from the least to the
-- greatest speed that a drive has at each point; its potentials are feasible values of the cells at its prices; and its bound is the
-- first potential less what the prices charge for the slack of the timing points
pub record Holds (cost : ℤ → ℤ) (r : Rules) (c : Certificate) : Type 0 where
  pub points : length c.points ≡ length r.steps + 1
  pub prices : length c.prices ≡ length r.timings
  pub drive : IsDrive r (speeds_of c)
  pub on_time : IsOnTimeUp r (speeds_of c)
  pub energy : c.energy ≡ cost_of cost r (speeds_of c)
  pub cells : CellsFit r (cell_lists c)
  pub values : AreFeasible (low_cost (pricing_in cost r c)) (cell_lists c) (value_lists c)
  pub bound : value_at (value_lists c) 0 0 ≡ Some (c.bound +ℤ priced_slack r (prices_in r c))

-- what a certificate shows, whoever wrote it: its energy is that of a drive on time, and every drive on time costs at least its bound
pub record Shows (cost : ℤ → ℤ) (r : Rules) (c : Certificate) : Type 0 where
  pub drive : IsDrive r (speeds_of c)
  pub on_time : IsOnTimeUp r (speeds_of c)
  pub energy : c.energy ≡ cost_of cost r (speeds_of c)
  pub bound : IsBound cost r c.bound
