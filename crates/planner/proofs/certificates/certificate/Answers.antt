use Rattle.std.proofs.Common.{◌≡◌, ◌≤◌, ◌∙◌, ℕ, List, [], arith, subst, sym, ap, to_z, of_z}
use Rattle.std.proofs.lemmas.Int.{ints}
use mir.Syntax.{w128}
use Rattle.std.specs.Prelude.{slice_index}
use Rattle.std.proofs.lemmas.List.Elements.{All-from_get_or}
use Rattle.dual_certificate.specs.Contents.{no_point, point_cells, point_values}
use Rattle.dual_certificate.specs.Text.{IsPoint}
use Rattle.planner.proofs.CertificateLemmas.{map_same}
use Rattle.planner.proofs.certificates.certificate.Goals as goal

pub returns-clause-says : goal.returns-clause-says
returns-clause-says c =
    let p = c.args.plan.now in
    let points = c.in_ok-points.points in
    let is = c.in_ok-points.ensures in
    let cost : to_z w128 (of_z w128 p.cost) ≡ p.cost = omega (arith, ints) in
    let bound : to_z w128 (of_z w128 p.bound) ≡ p.bound = omega (arith, ints) in
    record {
      energy = cost;
      bound = bound;
      prices = c.in_ok-prices.ensures ∙ c.values.ensures;
      drive = map_same (λ k. k.speed) points p.drive no_point 0 (is.length ∙ sym c.requires.points) (λ k l. (is.speed k (omega (arith, l, is.length, c.requires.points))) ∙ ap (λ (s : List ℕ). slice_index s k) c.speeds.ensures);
      cells = map_same point_cells points p.cells no_point [] is.length (λ k l. is.cells k (omega (arith, l, is.length)));
      values = map_same point_values points p.potentials no_point [] (is.length ∙ sym c.requires.valued) (λ k l. is.values k (omega (arith, l, is.length, c.requires.valued)));
    }

pub returns-clause-in_range : goal.returns-clause-in_range
returns-clause-in_range c slow =
    let is = c.in_ok-points.ensures in
    All-from_get_or IsPoint c.in_ok-points.points no_point (λ k l. is.in_range k l (subst (λ (s : List ℕ). slice_index s k ≤ 12000) (sym c.speeds.ensures) (slow k)))
