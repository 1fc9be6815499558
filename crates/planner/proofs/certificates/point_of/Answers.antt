use Rattle.std.proofs.Common.{◌≡◌, ◌-◌, ◌∙◌, arith, ap, subst, sym, ℕ}
use Rattle.bound_specs.specs.declared.Cell.{Cell}
use Rattle.bound_specs.specs.Cells.{cells_of}
use Rattle.bound_specs.specs.Chains.{values_of}
use Rattle.dual_certificate.specs.Contents.{cells_up_to}
use Rattle.planner.proofs.CertificateLemmas.{Say, fits, last_is_top, says_cells, says_values, top_of}
use Rattle.planner.proofs.certificates.point_of.Goals as goal

pub returns-clause-cells : goal.returns-clause-cells
returns-clause-cells c =
    let cs = cells_of c.args.cells.now c.args.k in
    let vs = values_of c.args.potentials.now c.args.k in
    let list = c.in_ok-list.ensures in
    let said : Say c.in_ok-list.list cs vs = record { cells = list.length; valued = c.requires.width; first = list.first; potential = list.potential; small = list.small } in
    let top : c.cell-greatest.result.last ≡ top_of cs = ap (λ (a : Cell). a.last) c.cell-greatest.ensures.value ∙ last_is_top cs (c.of.result - 1) (omega (arith, c.of.ensures.value, c.of.ensures.some)) in
    subst (λ (g : ℕ). cells_up_to g c.in_ok-list.list ≡ cs) (sym top) (says_cells c.in_ok-list.list cs vs said (c.known.ensures.adjacent c.args.k c.requires.point))

pub returns-clause-values : goal.returns-clause-values
returns-clause-values c =
    let list = c.in_ok-list.ensures in
    says_values c.in_ok-list.list (cells_of c.args.cells.now c.args.k) (values_of c.args.potentials.now c.args.k)
    (record { cells = list.length; valued = c.requires.width; first = list.first; potential = list.potential; small = list.small })

pub returns-clause-in_range : goal.returns-clause-in_range
returns-clause-in_range c slow =
    let cs = cells_of c.args.cells.now c.args.k in
    let vs = values_of c.args.potentials.now c.args.k in
    let list = c.in_ok-list.ensures in
    let top : c.cell-greatest.result.last ≡ top_of cs = ap (λ (a : Cell). a.last) c.cell-greatest.ensures.value ∙ last_is_top cs (c.of.result - 1) (omega (arith, c.of.ensures.value, c.of.ensures.some)) in
    fits c.args.speed c.cell-greatest.result.last c.in_ok-list.list cs vs
    (record { cells = list.length; valued = c.requires.width; first = list.first; potential = list.potential; small = list.small })
    (c.known.ensures.adjacent c.args.k c.requires.point) top slow
