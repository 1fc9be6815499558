use Rattle.std.proofs.Common.{ℕ, ◌≡◌, ◌+◌, ◌<◌, length}
use Rattle.potential_table.specs.Filling.{value_in}
use Rattle.potential_table.proofs.renew.copy_values.Given as goal

-- the values so far are copied
abbrev pub invariant-loop-j : goal.invariant-loop-j
invariant-loop-j l = record {
  length : length l.values.items ≡ length l.initial.values.items;
  copied : (m : ℕ) → l.from + m < l.j → value_in l.values.items (l.start + m) ≡ value_in l.old.items (l.from + m);
}
