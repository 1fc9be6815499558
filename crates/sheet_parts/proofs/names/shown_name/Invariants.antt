use Rattle.std.proofs.Common.{◌≡◌, [], ◌∷◌}
use Rattle.sheet_parts.specs.Fill.{joined_below}
use Rattle.sheet_parts.specs.Names.{shown_at}
use Rattle.sheet_parts.proofs.names.shown_name.Given as goal

abbrev pub invariant-loop-i : goal.invariant-loop-i
invariant-loop-i l = l.out.items ≡ joined_below (λ i. shown_at l.name i ∷ []) l.i
