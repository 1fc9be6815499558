use Rattle.dual_certificate.proofs.FieldTexts.{prices_append}
use Rattle.dual_certificate.proofs.writing.put_prices.Goals as goal

pub returns : goal.returns
returns c =
    prices_append c.args.out.now.items c.extend_from_slice.new.self.items c.put_each_price.new.out.items c.push.new.self.items c.args.prices.now c.requires
    c.in_ok-extend_from_slice.ensures.items c.in_ok-put_each_price.ensures c.in_ok-push.ensures.items
