use Rattle.std.proofs.Common.{◌≡◌, ◌∙◌, ℕ, List, length, map, sym, ap, subst}
use Rattle.std.specs.Prelude.{zip}
use Rattle.bound_specs.specs.declared.Cell.{Cell}
use Rattle.rail_specs.specs.Ranges.{AreRanges, no_narrowing}
use Rattle.bound_specs.specs.Cells.{cell_count, whole_cell, CellsFit}
use Rattle.planner.proofs.WorkLemmas.{zip_pairs, whole_count}
use Rattle.planner.proofs.start.whole_cells.Goals as goal

pub returns-clause-fit : goal.returns-clause-fit
returns-clause-fit c =
    let r = c.args.rules.now in
    let low : List ℕ = c.in-Some.found.low in
    let high : List ℕ = c.in-Some.found.high in
    let is : c.in_ok-cells.cells ≡ map whole_cell (zip low high) =
    c.in_ok-cells.ensures ∙ ap (map whole_cell) (c.as_slice.ensures.value ∙ c.in_ok-pairs.ensures.pairs) in
    let ranges : AreRanges r no_narrowing low high = rw c.none.ensures at (rw c.in-Some.is at c.in_ok-found.ensures.some) in
    subst (CellsFit r) (sym is) (c.whole_cells_fit.ensures.fit r low high (zip low high) ranges (zip_pairs r low high ranges))

pub returns-clause-one : goal.returns-clause-one
returns-clause-one c =
    let low : List ℕ = c.in-Some.found.low in
    let high : List ℕ = c.in-Some.found.high in
    let is : c.in_ok-cells.cells ≡ map whole_cell (zip low high) =
    c.in_ok-cells.ensures ∙ ap (map whole_cell) (c.as_slice.ensures.value ∙ c.in_ok-pairs.ensures.pairs) in
    subst (λ (cells : List (List Cell)). cell_count cells ≡ length cells) (sym is) (whole_count (zip low high))
