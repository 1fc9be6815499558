use Rattle.std.proofs.Common.{◌≤ℤ◌, ℤ, pos, List, sym, subst}
use Rattle.std.specs.List.{All}
use Rattle.costate_text.proofs.TextLaws.{speeds_in_range}
use Rattle.costate_text.proofs.reading.read_lines.Goals as goal

pub as_speeds-requires : goal.as_speeds-requires
as_speeds-requires c =
    subst (λ (zs : List ℤ). All (λ z. (pos 0 ≤ℤ z) × (z ≤ℤ pos 12000)) zs) (sym c.items.ensures)
    (speeds_in_range _ _ (c.in_ok-speeds.speeds, c.in_ok-speeds.costates) c.in_ok-speeds.ensures)
