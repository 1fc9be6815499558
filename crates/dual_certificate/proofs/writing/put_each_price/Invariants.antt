use Rattle.std.proofs.Common.{◌≡◌, ◌++◌, take}
use Rattle.std.specs.List.{flat_map}
use Rattle.dual_certificate.specs.Text.{price_field}
use Rattle.dual_certificate.proofs.writing.put_each_price.Given as goal

abbrev pub invariant-loop-price : goal.invariant-loop-price
invariant-loop-price l = l.out.items ≡ l.fn.out.items ++ flat_map price_field (take l.price-index l.prices)
