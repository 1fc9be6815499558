use Rattle.std.proofs.Common.{ℕ, ◌≡◌, ◌<◌, ◌≤◌, Some, length, pos}
use Rattle.potential_table.specs.Filling.{value_in}
use Rattle.potential_table.proofs.least.set_from.Given as goal

-- the values so far are 0
abbrev pub invariant-loop-j : goal.invariant-loop-j
invariant-loop-j l = record {
  length : length l.values.items ≡ length l.initial.values.items;
  zero : (m : ℕ) → l.start ≤ m → m < l.j → value_in l.values.items m ≡ Some (pos 0);
}
