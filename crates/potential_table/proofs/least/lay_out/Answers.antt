use Rattle.std.proofs.Common.{◌≡◌, None, length, rules, arith}
use Rattle.potential_table.proofs.StartLemmas.{starts_pushed, starts_all}
use Rattle.potential_table.proofs.least.lay_out.Goals as goal

pub loop-k-preserved : goal.loop-k-preserved
loop-k-preserved c =
    let more : c.len.result ≡ length c.push_values.new.values.items = search rules in
    starts_pushed c.loop-k.starts.items c.push-in-loop-k.new.self.items c.args.cells.now c.loop-k.k
    c.loop-k.values.items c.push_values.new.values.items c.of.result c.len.result None
    c.loop-k.invariant c.of.ensures.value c.in_ok-push_values.ensures more c.in_ok-push-2.ensures.items

pub returns-clause-starts : goal.returns-clause-starts
returns-clause-starts c =
    starts_all c.loop-k.starts.items c.args.cells.now c.loop-k.k (length c.loop-k.values.items) (omega arith) c.loop-k.invariant
