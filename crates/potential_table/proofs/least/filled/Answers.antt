use Rattle.std.proofs.Common.{ℕ, ◌≡◌, ◌+◌, ◌<◌, ◌≤◌, ◌∙◌, Some, None, Option, List, length, get_or, take, drop, ◌++◌, subst, sym, ap, arith}
use Rattle.std.proofs.Math.Seq.{take-append_seam}
use Rattle.std.specs.Prelude.{ℤ}
use Rattle.bound_specs.specs.Cells.{cells_of}
use Rattle.bound_specs.specs.Chains.{value_at, values_of}
use Rattle.potential_table.specs.Filling.{value_from, AreLinked, AreSmallFrom, IsFilled}
use Rattle.potential_table.specs.Layout.{values_in, IsLayout}
use Rattle.potential_table.proofs.StartLemmas.{later}
use Rattle.potential_table.proofs.TableLemmas.{layout_of, points_of, count_of, value_is, linked_of}
use Rattle.potential_table.proofs.least.filled.Given.{Over}
use Rattle.potential_table.proofs.least.filled.Goals as goal
use Rattle.potential_table.proofs.least.filled.Goals.{In_ok-fill}

-- the values of the table are those that were filled in
seen : (g : Over) (c : In_ok-fill g) → c.fill.new.values ≡ take c.args.values.len (c.fill.new.values ++ drop (length c.fill.new.values) c.args.values.items)
seen g c =
    let long : c.args.values.len ≡ length c.fill.new.values = c.args.values.ok.0 ∙ ap length (sym c.as_mut_slice.ensures.value) ∙ sym c.fill.auto.values in
    sym (ap (λ n. take n (c.fill.new.values ++ drop (length c.fill.new.values) c.args.values.items)) long
    ∙ take-append_seam c.fill.new.values (drop (length c.fill.new.values) c.args.values.items))

-- they are as many as were laid out, small, and filled
all : (g : Over) (c : In_ok-fill g) → length c.fill.new.values ≡ get_or c.args.starts.items (length c.args.cells.now) 0
all g c = c.fill.auto.values ∙ ap length c.as_mut_slice.ensures.value ∙ c.requires.values

small : (g : Over) (c : In_ok-fill g) → AreSmallFrom c.args.starts.items (length c.args.cells.now) c.fill.new.values 0
small g c = subst (λ (ss : List ℕ). AreSmallFrom ss (length c.args.cells.now) c.fill.new.values 0) c.as_slice.ensures.value c.in_ok-fill.ensures.small

pub invariant_of-result : goal.invariant_of-result
invariant_of-result g c =
    subst (λ (vs : List (Option ℤ)). IsLayout c.args.starts.items vs) (seen g c)
    (layout_of c.args.cells.now c.requires.few c.args.starts.items c.requires.starts c.fill.new.values (all g c) (small g c))

pub returns-clause-points : goal.returns-clause-points
returns-clause-points g c =
    subst (λ (vs : List (Option ℤ)). length (values_in c.args.starts.items vs) ≡ length c.args.cells.now) (seen g c)
    (points_of c.args.cells.now c.requires.few c.args.starts.items c.requires.starts c.fill.new.values (all g c) (small g c))

pub returns-clause-counts : goal.returns-clause-counts
returns-clause-counts g c =
    subst (λ (vs : List (Option ℤ)). (k : ℕ) → k < length c.args.cells.now → length (values_of (values_in c.args.starts.items vs) k) ≡ length (cells_of c.args.cells.now k)) (seen g c)
    (count_of c.args.cells.now c.requires.few c.args.starts.items c.requires.starts c.fill.new.values (all g c) (small g c))

pub returns-clause-linked : goal.returns-clause-linked
returns-clause-linked g c =
    let n = g.K.CellCost.step_count c.args.cost.now in
    let low = g.K.CellCost.low_cost c.args.cost.now in
    let filled : IsFilled low c.args.cells.now c.args.starts.items c.fill.new.values 0 n =
    subst (λ (ss : List ℕ). IsFilled low c.args.cells.now ss c.fill.new.values 0 n) c.as_slice.ensures.value c.in_ok-fill.ensures.filled in
    subst (λ (vs : List (Option ℤ)). AreLinked low n c.args.cells.now (values_in c.args.starts.items vs)) (seen g c)
    (linked_of c.args.cells.now c.requires.few c.args.starts.items c.requires.starts c.fill.new.values (all g c) (small g c) low n c.requires.inside filled)

pub returns-clause-kept : goal.returns-clause-kept
returns-clause-kept g c =
    let n = g.K.CellCost.step_count c.args.cost.now in
    let cells = c.args.cells.now in
    let starts = c.args.starts.items in
    let kept : (j : ℕ) → get_or starts n 0 ≤ j → get_or c.fill.new.values j None ≡ get_or c.args.values.items j None =
    λ j l. c.in_ok-fill.ensures.kept j (omega (arith, l, ap (λ (ss : List ℕ). get_or ss n 0) c.as_slice.ensures.value))
    ∙ ap (λ (vs : List (Option ℤ)). get_or vs j None) c.as_mut_slice.ensures.value in
    subst (λ (vs : List (Option ℤ)). (k d : ℕ) → n ≤ k → k < length cells → d < length (cells_of cells k) → value_at (values_in starts vs) k d ≡ value_from c.args.values.items (get_or starts k 0) d) (seen g c)
    (λ k d le l in_point.
    value_is cells c.requires.few starts c.requires.starts c.fill.new.values (all g c) (small g c) k d l in_point
    ∙ kept (get_or starts k 0 + d) (omega (arith, later starts cells c.requires.starts n k le (omega (arith, l)))))
