-- What a step's charges are computed from.
use Rattle.std.specs.Prelude.{ℕ, ◌*◌}
use Rattle.costate_bound.specs.declared.charges.Terms.{Terms}
use Rattle.costate_bound.specs.Relaxation.{Relaxation, costate_at, above_full, below_share, slope}

-- those of step i
abbrev pub terms_of : Relaxation → ℕ → Terms
terms_of x i = record {
  costate = costate_at x i;
  above = above_full (costate_at x i);
  below = below_share x.share (costate_at x i);
  fall = 64000 * slope x i;
}
