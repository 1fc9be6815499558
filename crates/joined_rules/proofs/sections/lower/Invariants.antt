use Rattle.std.proofs.Common.{ℕ, ◌≡◌, ◌<◌, ◌≤◌, ◌-◌, length, get_or, min}
use Rattle.joined_rules.proofs.sections.lower.Given as goal

abbrev pub invariant-loop-i : goal.invariant-loop-i
invariant-loop-i l = record {
  count : length l.limits.items ≡ length l.fn.limits.items;
  begun : l.initial.i ≤ l.i;
  before : (j : ℕ) → j < l.initial.i → get_or l.limits.items j 0 ≡ get_or l.fn.limits.items j 0;
  met : (j : ℕ) → l.initial.i ≤ j → j < l.i → get_or l.places j 0 < l.tail_out;
  lowered : (j : ℕ) → l.initial.i ≤ j → j < l.i → get_or l.limits.items j 0 ≡ min (get_or l.fn.limits.items j 0) l.stretch.limit;
  rest : (j : ℕ) → l.i ≤ j → get_or l.limits.items j 0 ≡ get_or l.fn.limits.items j 0;
}

abbrev pub decreases-loop-i : goal.decreases-loop-i
decreases-loop-i l = length l.limits.items - l.i
