-- Narrowings, and when one allows no drive that another doesn't allow.
use Rattle.std.specs.Prelude.{ℕ, ◌*◌, ◌/◌, ◌≤◌, ◌<◌, ◌≡◌, length, true, false}
use Rattle.rail_specs.specs.declared.Narrow.{Narrow}
use Rattle.rail_specs.specs.Rules.{Rules, is_stop}

-- the cap is as high or lower, and the steps without traction are the same or more
pub record IsNarrowerThan (narrow wider : Narrow) : Type 0 where
  pub cap : narrow.cap ≤ wider.cap
  pub idle : (i : ℕ) → wider.idle_from ≤ i → i < wider.idle_to → (narrow.idle_from ≤ i) × (i < narrow.idle_to)

-- the narrowing to a cap, with no step without traction
abbrev pub capped : ℕ → Narrow
capped cap = record { cap = cap; idle_from = 0; idle_to = 0 }

-- point q is the first stop after point p
pub record IsNextStop (r : Rules) (p q : ℕ) : Type 0 where
  pub after : p < q
  pub stop : is_stop r q ≡ true
  pub first : (k : ℕ) → p < k → k < q → is_stop r k ≡ false

-- the narrowing to a cap without traction from the point that is k 64ths of the steps on, rounded down, to the first stop after it
pub record IsCoasting (r : Rules) (most k : ℕ) (n : Narrow) : Type 0 where
  pub cap : n.cap ≡ most
  pub from : n.idle_from ≡ (k * length r.steps) / 64
  pub to : IsNextStop r n.idle_from n.idle_to
