use Rattle.std.specs.Prelude.{◌≡◌, map, take}
use Rattle.link_costs.proofs.timing_prices.timing_points.Given as goal

-- the points so far are those of the timing points so far
abbrev pub invariant-loop-j : goal.invariant-loop-j
invariant-loop-j l = l.points.items ≡ map (λ t. t.point) (take l.j l.rules.timings)
