use Rattle.std.proofs.Common.{arith}
use Rattle.train_file.proofs.Reading.{two_of-length}
use Rattle.train_file.proofs.values.read_pair.Goals as goal

pub returns-then-len-ne2 : goal.returns-then-len-ne2
returns-then-len-ne2 c =
    let array = rw c.in_ok-items.was at c.as_array.ensures in
    rw (← array) (two_of-length c.in_ok-items.items.now.items (λ e. c.if-len-ne2.true (omega (arith, c.in_ok-items.items.now.ok.0))))
