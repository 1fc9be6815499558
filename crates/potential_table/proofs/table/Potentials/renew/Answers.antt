use Rattle.std.proofs.Common.{ℕ, ◌≡◌, ◌≤◌, ◌<◌, ◌+◌, ◌∙◌, None, Some, Option, List, length, get_or, subst, sym, ap, arith}
use Rattle.std.specs.Prelude.{ℤ}
use Rattle.bound_specs.specs.declared.Cell.{Cell}
use Rattle.bound_specs.specs.Cells.{cells_of, cell_at}
use Rattle.bound_specs.specs.Chains.{values_of, value_at, ArePotentials}
use Rattle.bound_specs.specs.Renewal.{IsLeastTo, SameFrom, SameSteps, ArePotentialsFrom}
use Rattle.potential_table.specs.Layout.{values_in}
use Rattle.potential_table.proofs.LayoutLemmas.{few_points}
use Rattle.potential_table.proofs.RenewLemmas.{kept_values, least_to, renewed, potentials_from}
use Rattle.potential_table.proofs.table.Potentials.renew.Given.{Over}
use Rattle.potential_table.proofs.table.Potentials.renew.Goals as goal
use Rattle.potential_table.proofs.table.Potentials.renew.Goals.{After-drop-self-inside-2}

pub filled-requires-clause-few : goal.filled-requires-clause-few
filled-requires-clause-few g c = few_points c.self.inside.starts.items c.self.inside.values.items c.args.self.now c.self.view_is c.self.invariant (length c.args.cells.now) c.requires.points

-- the values from the front's last point on are the same lists
behind : (g : Over) (c : After-drop-self-inside-2 g) → (j : ℕ) → g.K.CellCost.step_count c.args.front.now ≤ j → j < length c.args.cells.now
    → values_of c.in_ok-self-inside.field-0 j ≡ values_of c.args.self.now j
behind g c j le l =
    let k = g.K.CellCost.step_count c.args.front.now in
    let is : c.steps.result ≡ k = c.steps.ensures.value in
    kept_values (values_of c.in_ok-self-inside.field-0 j) (values_of c.args.self.now j) (length (cells_of c.args.cells.now j))
    (c.in_ok-self-inside.ensures.counts j l) (c.requires.widths j le l)
    (λ d in_point. c.in_ok-self-inside.ensures.kept j d le l in_point ∙ c.copy_from.ensures.copied j d (omega (arith, is, le)) l in_point)

pub returns-clause-behind : goal.returns-clause-behind
returns-clause-behind g c =
    subst (λ (table : List (List (Option ℤ))). (j : ℕ) → g.K.CellCost.step_count c.args.front.now ≤ j → j < length c.args.cells.now → values_of table j ≡ values_of c.args.self.now j)
    (sym c.drop.view_is) (behind g c)

pub returns-clause-before : goal.returns-clause-before
returns-clause-before g c =
    let k = g.K.CellCost.step_count c.args.front.now in
    subst (λ (table : List (List (Option ℤ))). (i d : ℕ) → i < k → d < length (cells_of c.args.cells.now i)
    → IsLeastTo (g.K.CellCost.low_cost c.args.front.now) k c.args.cells.now c.args.self.now i (cell_at c.args.cells.now i d) (value_at table i d)) (sym c.drop.view_is)
    (least_to (g.K.CellCost.low_cost c.args.front.now) k c.args.cells.now c.in_ok-self-inside.field-0 c.args.self.now c.requires.inside c.in_ok-self-inside.ensures.linked
    (λ d. ap (λ (vs : List (Option ℤ)). get_or vs d None) (behind g c k (omega arith) (omega (arith, c.requires.inside)))))

-- where the values from there on are potentials, all are
anew : (g : Over) (c : After-drop-self-inside-2 g) → (low : ℕ → Cell → Cell → Option ℤ) → SameSteps (g.K.CellCost.step_count c.args.front.now) (g.K.CellCost.low_cost c.args.front.now) low
    → ArePotentialsFrom low (g.K.CellCost.step_count c.args.front.now) c.args.cells.now c.args.self.now
    → ArePotentials low c.args.cells.now (values_in c.drop.inside.starts.items c.drop.inside.values.items)
anew g c low same from =
    subst (ArePotentials low c.args.cells.now) (sym c.drop.view_is)
    (renewed (g.K.CellCost.low_cost c.args.front.now) low (g.K.CellCost.step_count c.args.front.now) c.args.cells.now c.in_ok-self-inside.field-0 c.args.self.now c.requires.inside
    c.in_ok-self-inside.ensures.points c.in_ok-self-inside.ensures.counts c.in_ok-self-inside.ensures.linked (behind g c) same from)

pub returns-clause-potentials : goal.returns-clause-potentials
returns-clause-potentials g c = anew g c

pub returns-clause-again : goal.returns-clause-again
returns-clause-again g c low before same cells_same h =
    anew g c low same (potentials_from low (g.K.CellCost.step_count c.args.front.now) before c.args.cells.now c.args.self.now cells_same h)
