-- The certificate of a plan.
use Rattle.std.specs.Prelude.{ℕ, ◌<◌, ◌≡◌, length}
use Rattle.bound_specs.specs.Cells.{cells_of}
use Rattle.bound_specs.specs.Chains.{values_of}
use Rattle.dual_certificate.specs.declared.certificate.Certificate.{Certificate}
use Rattle.dual_certificate.specs.Contents.{speeds_of, cell_lists, value_lists}
use Rattle.planner.specs.declared.answer.Plan.{Plan as PlanData}

-- a plan that a certificate can say: its drive and its cells have equally many points, and there is a potential for each cell
pub record IsWhole (p : PlanData) : Type 0 where
  pub points : length p.drive ≡ length p.cells
  pub valued : length p.potentials ≡ length p.cells
  pub widths : (k : ℕ) → k < length p.cells → length (values_of p.potentials k) ≡ length (cells_of p.cells k)

-- a certificate says a plan: its drive, what that costs, its bound, its prices, its cells and their potentials
pub record IsCertificateOf (p : PlanData) (c : Certificate) : Type 0 where
  pub energy : c.energy ≡ p.cost
  pub bound : c.bound ≡ p.bound
  pub prices : c.prices ≡ p.prices.values
  pub drive : speeds_of c ≡ p.drive
  pub cells : cell_lists c ≡ p.cells
  pub values : value_lists c ≡ p.potentials
