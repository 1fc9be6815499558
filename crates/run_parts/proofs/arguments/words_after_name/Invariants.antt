use Rattle.std.proofs.Common.{◌≡◌, ◌++◌, map, string_bytes}
use Rattle.std.specs.Vec.Iter.{into_iter_items, into_iter_len}
use Rattle.run_parts.proofs.arguments.words_after_name.Given as goal

abbrev pub invariant-loop-arg : goal.invariant-loop-arg
invariant-loop-arg l = l.words ++ map string_bytes (into_iter_items l.args) ≡ map string_bytes (into_iter_items l.initial.args)

abbrev pub decreases-loop-arg : goal.decreases-loop-arg
decreases-loop-arg l = into_iter_len l.args
