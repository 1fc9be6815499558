use Rattle.std.proofs.Common.{◌≡◌, ◌<◌, ◌≤◌, ◌^◌, ◌∙◌, ap, subst, sym, to_z, of_z, w64, List, ℕ, arith}
use Rattle.std.specs.Prelude.{slice_index}
use Rattle.std.specs.Int.RustNames.{unsigned_abs}
use Rattle.rail_specs.specs.declared.StepNumbers.{StepNumbers}
use Rattle.rail_specs.specs.Step.{work}
use Rattle.link_costs.proofs.LinkLemmas.{link_found, short_is}
use Rattle.link_costs.proofs.links.link_work.Goals as goal

-- a force of a table that is the same as another
force_is : (t u : List ℕ) (v force : ℕ) → force ≡ slice_index t v → t ≡ u → force ≡ slice_index u v
force_is t u v force e is = e ∙ ap (λ (l : List ℕ). slice_index l v) is

pub returns-clause-possible : goal.returns-clause-possible
returns-clause-possible c =
    let r = c.args.rules.now in
    let a = c.args.a in
    let b = c.args.b in
    let n = c.row.result.now in
    let w = c.short_work-work in
    let g = c.short_work-greatest_work in
    let short = short_is w.result w.ensures.small in
    let least : to_z w64 (of_z w64 w.result) ≡ work n a.last b.first = short ∙ w.ensures.value in
    let greatest : to_z w64 (of_z w64 g.result) ≡ work n a.first b.last = short_is g.result g.ensures.small ∙ g.ensures.value in
    let limit : c.min-most.result ≤ slice_index r.limits c.args.i = omega (arith, c.min-most.ensures, c.limit.ensures) in
    let top : c.min-most.result ≤ r.top = omega (arith, c.min-most.ensures, c.top.ensures.value) in (
      link_found r c.args.i a b n c.at.result c.at-brake.result (to_z w64 (of_z w64 w.result)) (to_z w64 (of_z w64 g.result)) c.row.ensures
          (force_is c.traction.result.now r.traction b.first c.at.result c.at.ensures.value c.traction.ensures.value)
          (force_is c.brake.result.now r.brake a.first c.at-brake.result c.at-brake.ensures.value c.brake.ensures.value)
          least greatest (omega (arith, limit, c.if-a-most.false), omega (arith, limit, c.if-b-most.false)) (omega (arith, top, c.if-a-most.false), omega (arith, top, c.if-b-most.false)) (omega (arith, c.if-a-b-eq0.false))
          (c.is_pulled.ensures.0 c.if-not-is_pulled.false) (c.is_held.ensures.0 c.if-not-is_held.false),
      least ∙ ap (λ (m : StepNumbers). work m a.last b.first) c.row.ensures,
      subst (λ z. unsigned_abs z < 2 ^ 62) (sym short) w.ensures.small,
    )
