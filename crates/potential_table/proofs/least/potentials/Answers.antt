use Rattle.std.proofs.Common.{ℕ, ◌≡◌, ◌+◌, ◌<◌, ◌≤◌, ◌∙◌, None, Some, Option, List, length, get_or, subst, sym, ap, arith, pos}
use Rattle.std.specs.Prelude.{ℤ}
use Rattle.std.proofs.lemmas.List.{get_or_default}
use Rattle.bound_specs.specs.Cells.{cells_of}
use Rattle.bound_specs.specs.Chains.{ArePotentials, value_at}
use Rattle.chain_duality.proofs.Duality.{potentials_dual}
use Rattle.chain_duality.proofs.Lists.{adjacent_cells}
use Rattle.potential_table.specs.Filling.{AreStarts}
use Rattle.potential_table.proofs.StartLemmas.{room}
use Rattle.potential_table.proofs.TableLemmas.{last_small, last_least, least_all}
use Rattle.potential_table.proofs.least.potentials.Given.{Over}
use Rattle.potential_table.proofs.least.potentials.Goals as goal
use Rattle.potential_table.proofs.least.potentials.Goals.{In_ok-table}

-- values that are 0 from a place on, which is the start of the last point
zero_from : (starts : List ℕ) (values before : List (Option ℤ)) (point n place : ℕ) → point ≡ n → point < length starts → place ≡ get_or starts point place → length values ≡ length before
    → ((j : ℕ) → place ≤ j → j < length before → get_or values j None ≡ Some (pos 0))
    → (j : ℕ) → get_or starts n 0 ≤ j → j < length values → get_or values j None ≡ Some (pos 0)
zero_from starts values before point n place is lt at long h j l inside =
    h j (omega (arith, at, get_or_default starts point place 0 lt, l, ap (λ k. get_or starts k 0) is)) (omega (arith, long, inside))

pub filled-requires-clause-small : goal.filled-requires-clause-small
filled-requires-clause-small g c =
    last_small c.args.cells.now c.lay_out.new.starts.items c.set_from.new.values.items (g.K.CellCost.step_count c.args.cost.now) c.requires.points
    (zero_from c.lay_out.new.starts.items c.set_from.new.values.items c.lay_out.new.values.items c.steps.result (g.K.CellCost.step_count c.args.cost.now) c.index.result.now
    c.steps.ensures.value (omega (arith, c.steps.ensures.value, c.requires.points, c.in_ok-lay_out.ensures.starts.points)) c.index.ensures c.set_from.ensures.length c.set_from.ensures.zero)

-- the table has the potentials
least : (g : Over) (c : In_ok-table g) → ArePotentials (g.K.CellCost.low_cost c.args.cost.now) c.args.cells.now c.in_ok-table.table
least g c =
    let n = g.K.CellCost.step_count c.args.cost.now in
    let low = g.K.CellCost.low_cost c.args.cost.now in
    let cells = c.args.cells.now in
    let starts = c.lay_out.new.starts.items in
    let table = c.in_ok-table.table in
    let set = zero_from starts c.set_from.new.values.items c.lay_out.new.values.items c.steps.result n c.index.result.now
    c.steps.ensures.value (omega (arith, c.steps.ensures.value, c.requires.points, c.in_ok-lay_out.ensures.starts.points)) c.index.ensures c.set_from.ensures.length c.set_from.ensures.zero in
    let laid : AreStarts starts cells = c.in_ok-lay_out.ensures.starts in
    let at_last : (d : ℕ) → d < length (cells_of cells n) → value_at table n d ≡ Some (pos 0) =
    λ d l. c.in_ok-table.ensures.kept n d (omega arith) (omega (arith, c.requires.points)) l
    ∙ set (get_or starts n 0 + d) (omega arith)
    (omega (arith, l, c.set_from.ensures.length, c.in_ok-lay_out.ensures.length, room starts cells laid n (omega (arith, c.requires.points)))) in
    record {
      points = c.in_ok-table.ensures.points;
      counts = c.in_ok-table.ensures.counts;
      least = least_all low n cells table (omega (arith, c.requires.points)) c.in_ok-table.ensures.linked (last_least low cells table n c.requires.points at_last);
    }

pub returns-clause-least : goal.returns-clause-least
returns-clause-least g c = least g c

pub returns-clause-duality : goal.returns-clause-duality
returns-clause-duality g c =
    potentials_dual (g.K.CellCost.step_count c.args.cost.now) (g.K.CellCost.real_cost c.args.cost.now) (g.K.CellCost.low_cost c.args.cost.now)
    (g.met.K.CellCost.keeps c.args.cost.now c.steps.ensures.sound) c.args.cells.now c.requires.points
    (adjacent_cells c.args.cells.now c.known.ensures.adjacent) c.in_ok-table.table (least g c)
