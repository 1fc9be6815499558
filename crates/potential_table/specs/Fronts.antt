-- The first steps of a cost of links.
use Rattle.std.specs.Prelude.{ℕ}

-- a cost of links, and how many of its steps are meant
pub record FrontSteps (K : Type 0) : Type 0 where
  pub cost : K
  pub steps : ℕ
