use Rattle.std.proofs.Common.{ℕ, ◌≡◌, ◌+◌, ◌-◌, ◌<◌, ◌≤◌, ◌∙◌, Option, None, List, length, get_or, ap, sym, subst, arith}
use Rattle.std.specs.Prelude.{ℤ}
use Rattle.bound_specs.specs.declared.Cell.{Cell}
use Rattle.bound_specs.specs.Cells.{cells_of, cell_at, no_cell}
use Rattle.potential_table.specs.declared.ways.Way.{Way}
use Rattle.potential_table.specs.Filling.{value_from, through, IsLeastOf, AreSmallFrom, AreStarts, IsFilled}
use Rattle.potential_table.specs.Ways.{AreWays, AreLeastByWays, AreUsable}
use Rattle.chain_duality.proofs.Lists.{adjacent_cells}
use Rattle.potential_table.proofs.StartLemmas.{room, later}
use Rattle.potential_table.proofs.TableLemmas.{filled_more, small_more, small_ways}
use Rattle.potential_table.proofs.WayLemmas.{usable, least_over_cells}
use Rattle.potential_table.proofs.least.fill.Goals as goal

-- the values of a point's cells, which were read into a list, end inside the list of values
inside : (starts : List ℕ) (cells : List (List Cell)) (k count : ℕ) (list : List Cell) → AreStarts starts cells → k < length cells
    → list ≡ cells_of cells k → count ≡ get_or starts (length cells) 0 → get_or starts k 0 + length list ≤ count
inside starts cells k count list h lt is all = omega (arith, room starts cells h k lt, ap length is, all)

-- the ways on from a list of cells are those from the same cells
ways_of : (ways : List Way) (list cells : List Cell) (value : ℕ → Option ℤ) → list ≡ cells → AreWays ways list value (length list)
    → AreWays ways cells value (length cells)
ways_of ways list cells value is h = subst (λ (cs : List Cell). AreWays ways cs value (length cs)) is h

pub read_ways-requires : goal.read_ways-requires
read_ways-requires g c =
    let lt : c.steps-2.result < length c.args.cells.now = omega (arith, c.steps-2.ensures.value, c.requires.inside) in
    inside c.args.starts.now c.args.cells.now c.steps-2.result (length c.args.values.now) c.as_slice.result.now c.requires.starts lt
    (c.as_slice.ensures.value ∙ c.in_ok-read_cells.ensures.value ∙ ap (cells_of c.args.cells.now) (c.steps.ensures.value ∙ sym c.steps-2.ensures.value)) c.requires.values

pub read_ways-requires-in-loop-i : goal.read_ways-requires-in-loop-i
read_ways-requires-in-loop-i g c =
    let lt : c.loop-i.i - 1 < length c.args.cells.now =
    omega (arith, c.loop-i-test.true, c.loop-i.auto.i, c.steps-i.ensures.value, c.requires.inside) in
    inside c.args.starts.now c.args.cells.now (c.loop-i.i - 1) (length c.fill_point.new.values) c.as_slice-in-loop-i-3.result.now c.requires.starts lt
    (c.as_slice-in-loop-i-3.ensures.value ∙ c.in_ok-read_cells-2.ensures.value)
    (c.fill_point.auto.values ∙ c.loop-i.auto.values ∙ c.requires.values)

pub fill_point-requires-clause-inside : goal.fill_point-requires-clause-inside
fill_point-requires-clause-inside g c =
    let lt : c.loop-i.i - 1 < length c.args.cells.now =
    omega (arith, c.loop-i-test.true, c.loop-i.auto.i, c.steps-i.ensures.value, c.requires.inside) in
    inside c.args.starts.now c.args.cells.now (c.loop-i.i - 1) (length c.loop-i.values) c.as_slice-in-loop-i.result.now c.requires.starts lt
    (c.as_slice-in-loop-i.ensures.value ∙ c.in_ok-read_cells-2.ensures.value) (c.loop-i.auto.values ∙ c.requires.values)

pub fill_point-requires-clause-ways : goal.fill_point-requires-clause-ways
fill_point-requires-clause-ways g c =
    let k : ℕ = c.loop-i.i in
    let at : k < length c.args.cells.now = omega (arith, c.loop-i.auto.i, c.steps-i.ensures.value, c.requires.inside) in
    let start : ℕ = get_or c.args.starts.now k 0 in
    subst AreUsable (sym c.as_slice-in-loop-i-2.ensures.value)
    (usable c.loop-i.ways.items (cells_of c.args.cells.now k) (value_from c.loop-i.values start) c.loop-i.invariant.ways
    (λ d l. adjacent_cells c.args.cells.now c.known.ensures.adjacent k d at l) (small_ways c.args.starts.now (length c.args.cells.now) c.loop-i.values k c.requires.few at c.loop-i.invariant.small))

pub loop-i-preserved : goal.loop-i-preserved
loop-i-preserved g c =
    let n = g.K.CellCost.step_count c.args.cost.now in
    let low = g.K.CellCost.low_cost c.args.cost.now in
    let cells = c.args.cells.now in
    let starts = c.args.starts.now in
    let values = c.loop-i.values in
    let new = c.fill_point.new.values in
    let i : ℕ = c.loop-i.i - 1 in
    let lt : i < n = omega (arith, c.loop-i-test.true, c.loop-i.auto.i, c.steps-i.ensures.value) in
    let at : c.loop-i.i ≡ i + 1 = omega (arith, c.loop-i-test.true) in
    let left : c.as_slice-in-loop-i.result.now ≡ cells_of cells i = c.as_slice-in-loop-i.ensures.value ∙ c.in_ok-read_cells-2.ensures.value in
    let again : c.as_slice-in-loop-i-3.result.now ≡ cells_of cells i = c.as_slice-in-loop-i-3.ensures.value ∙ c.in_ok-read_cells-2.ensures.value in
    let ways : AreWays c.loop-i.ways.items (cells_of cells (i + 1)) (value_from values (get_or starts (i + 1) 0)) (length (cells_of cells (i + 1))) =
    subst (λ k. AreWays c.loop-i.ways.items (cells_of cells k) (value_from values (get_or starts k 0)) (length (cells_of cells k))) at
    c.loop-i.invariant.ways in
    let least : AreLeastByWays low i (cells_of cells i) c.loop-i.ways.items (value_from new (get_or starts i 0)) =
    subst (λ (ws : List Way). AreLeastByWays low i (cells_of cells i) ws (value_from new (get_or starts i 0))) c.as_slice-in-loop-i-2.ensures.value
    (subst (λ (cs : List Cell). AreLeastByWays low i cs c.as_slice-in-loop-i-2.result.now (value_from new (get_or starts i 0))) left
    c.in_ok-fill_point.ensures.filled) in
    let here : (a : ℕ) → a < length (cells_of cells i) → IsLeastOf (through low i (cell_at cells i a) (cells_of cells (i + 1)) (value_from values (get_or starts (i + 1) 0))) (length (cells_of cells (i + 1))) (value_from new (get_or starts i 0) a) =
    λ a l. least_over_cells c.loop-i.ways.items (cells_of cells (i + 1)) (value_from values (get_or starts (i + 1) 0)) ways low i
    (get_or (cells_of cells i) a no_cell) (value_from new (get_or starts i 0) a) (least a l) in
    let behind : (j : ℕ) → get_or starts (i + 1) 0 ≤ j → get_or new j None ≡ get_or values j None =
    λ j l. c.in_ok-fill_point.ensures.behind j (omega (arith, l, c.requires.starts.next i (omega (arith, lt, c.requires.inside)), ap length left)) in
    record {
      filled = filled_more low cells starts c.requires.starts values new i n c.requires.inside lt here behind
          (subst (λ k. IsFilled low cells starts values k n) at c.loop-i.invariant.filled);
      small = small_more low cells starts c.requires.starts values new i n c.requires.inside lt here behind
          (g.K.CellCost.real_cost c.args.cost.now) (g.met.K.CellCost.keeps c.args.cost.now c.steps-i.ensures.sound)
          (adjacent_cells cells c.known.ensures.adjacent) (subst (AreSmallFrom starts (length cells) values) at c.loop-i.invariant.small);
      kept = λ j l. behind j (omega (arith, l, later starts cells c.requires.starts (i + 1) n (omega (arith, lt)) (omega (arith, c.requires.inside)))) ∙ c.loop-i.invariant.kept j l;
      ways = ways_of c.read_ways-in-loop-i.new.ways.items c.as_slice-in-loop-i-3.result.now (cells_of cells i) (value_from new (get_or starts i 0)) again
          c.in_ok-read_ways-2.ensures;
    }
