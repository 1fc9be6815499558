use Rattle.std.proofs.Common.{◌≡◌, take}
use Rattle.planner.proofs.certificates.price_list.Given as goal

abbrev pub invariant-loop-price : goal.invariant-loop-price
invariant-loop-price l = l.list ≡ take l.price-index l.prices
