-- The certificate of a plan holds.
use Rattle.std.proofs.Common.{◌≡◌, ◌≤◌, ◌+◌, ◌^◌, ◌∷◌, ◌∙◌, ℕ, suc, ℤ, ◌+ℤ◌, ◌-ℤ◌, List, [], Option, None, Some, refl, sym, ap, subst, arith, length, map, option_map}
use Rattle.std.specs.Prelude.{All, slice_index, sum_by}
use Rattle.std.proofs.lemmas.Int.{ints}
use Rattle.std.proofs.lemmas.List.{length-map}
use Rattle.std.proofs.lemmas.List.Sums.{sum_by-cons}
use Rattle.std.proofs.lemmas.List.Elements.{All-from_get_or}
use Rattle.bound_specs.specs.declared.Cell.{Cell}
use Rattle.bound_specs.specs.Cells.{cell_count}
use Rattle.bound_specs.specs.Chains.{value_at}
use Rattle.bound_specs.specs.ChainValues.{IsChainValue}
use Rattle.bound_specs.specs.Links.{Pricing, low_cost}
use Rattle.bound_specs.specs.Prices.{Prices, ArePrices, priced_slack}
use Rattle.chain_duality.proofs.Duality.{potentials_feasible}
use Rattle.rail_specs.specs.Rules.{Rules}
use Rattle.rail_specs.specs.Cost.{cost_of}
use Rattle.rule_parts.specs.Shaped.{IsShaped}
use Rattle.dual_certificate.specs.declared.certificate.CertCell.{CertCell}
use Rattle.dual_certificate.specs.declared.certificate.CertPoint.{CertPoint}
use Rattle.dual_certificate.specs.declared.certificate.Certificate.{Certificate}
use Rattle.dual_certificate.specs.Contents.{cells_up_to, point_cells}
use Rattle.dual_certificate.specs.Text.{IsCertificate, IsPoint, cells_in}
use Rattle.certificate_checker.specs.Contents.{pricing_in}
use Rattle.certificate_checker.specs.Holds.{Holds}
use Rattle.potential_table.proofs.PriceLines.{value_unique}
use Rattle.price_rounds.specs.Rounds.{pricing}
use Rattle.planner.specs.Certificates.{IsCertificateOf}
use Rattle.planner.specs.Plans.{IsPlan, IsSomePlan}
use Rattle.planner.specs.declared.answer.Plan.{Plan as PlanData}

-- ---- counts

-- a plan's points, as many as its certificate's
pub points_of : (p : PlanData) (c : Certificate) → IsCertificateOf p c → length c.points ≡ length p.cells
points_of p c h = sym (length-map c.points point_cells) ∙ ap length h.cells

count_up_to : (greatest : ℕ) (cells : List CertCell) → length (cells_up_to greatest cells) ≡ length cells
count_up_to greatest [] = refl
count_up_to greatest (c ∷ []) = refl
count_up_to greatest (c ∷ d ∷ cells) = ap suc (count_up_to greatest (d ∷ cells))

counts_of : (points : List CertPoint) → sum_by length (map point_cells points) ≡ cells_in points
counts_of [] = refl
counts_of (p ∷ points) =
    let one : sum_by length (map point_cells (p ∷ points)) ≡ length (point_cells p) + sum_by length (map point_cells points) = sum_by-cons length (point_cells p) (map point_cells points) in
    let two : cells_in (p ∷ points) ≡ length p.cells + cells_in points = sum_by-cons (λ q. length q.cells) p points in
    one ∙ omega (arith, count_up_to p.greatest p.cells, counts_of points) ∙ sym two

-- the plan's cells, as many as its certificate's
pub cells_of_plan : (p : PlanData) (c : Certificate) → IsCertificateOf p c → cells_in c.points ≡ cell_count p.cells
cells_of_plan p c h = sym (counts_of c.points) ∙ ap cell_count h.cells

-- the plan's prices, as many as the timing points
prices_count : (r : Rules) (p : PlanData) (c : Certificate) → IsCertificateOf p c → ArePrices p.prices → p.prices.points ≡ map (λ t. t.point) r.timings → length c.prices ≡ length r.timings
prices_count r p c h prices for_timings = ap length h.prices ∙ prices.equal ∙ ap length for_timings ∙ length-map r.timings (λ t. t.point)

-- ---- what holds

-- the pricing of the certificate is the plan's
same_pricing : (cost : ℤ → ℤ) (r : Rules) (p : PlanData) (c : Certificate) → IsCertificateOf p c → p.prices.points ≡ map (λ t. t.point) r.timings → pricing cost r p.prices ≡ pricing_in cost r c
same_pricing cost r p c h for_timings = rw (sym for_timings, h.prices) refl

-- the first potential is the bound and the priced slack
first_value : (v : Option ℤ) (bound slack : ℤ) → Some bound ≡ option_map (λ q. q -ℤ slack) v → v ≡ Some (bound +ℤ slack)
first_value None bound slack h = absurd (cc h)
first_value (Some q) bound slack h = let e : bound ≡ q -ℤ slack = cc h in let f : q ≡ bound +ℤ slack = omega (arith, ints, e) in ap Some f

bound_back : (cost : ℤ → ℤ) (r : Rules) (splits tolerance : ℕ) (p : PlanData) (whole even : List (List Cell)) (times : ℕ) → IsPlan cost r splits tolerance p whole even times
    → value_at p.potentials 0 0 ≡ Some (p.bound +ℤ priced_slack r p.prices)
bound_back cost r splits tolerance p whole even times is =
    let q : Pricing = pricing cost r p.prices in
    let v = value_at p.potentials 0 0 in
    let own : IsChainValue q p.cells (option_map (λ x. x -ℤ priced_slack r p.prices) v) = (v, is.potentials.least 0 0 (omega (arith, is.fit.2.points)) (omega (arith, (is.fit.2.run 0 (omega arith)).adjacent.some)), refl) in
    first_value v p.bound (priced_slack r p.prices) (value_unique q p.cells (Some p.bound) (option_map (λ x. x -ℤ priced_slack r p.prices) v) is.value own)

-- a plan's certificate holds
pub holds : (cost : ℤ → ℤ) (r : Rules) (splits tolerance : ℕ) (p : PlanData) (c : Certificate) → IsShaped r → ArePrices p.prices → IsSomePlan cost r splits tolerance p → IsCertificateOf p c → Holds cost r c
holds cost r splits tolerance p c shaped prices (whole, even, times, is) h =
    let same = same_pricing cost r p c h is.timings in
    let (least, greatest, fit) = is.fit in
    record {
      points = points_of p c h ∙ fit.points;
      prices = prices_count r p c h prices is.timings;
      drive = rw h.drive is.best.drive;
      on_time = rw h.drive is.best.on_time;
      energy = h.energy ∙ is.costs ∙ ap (cost_of cost r) (sym h.drive);
      cells = rw h.cells is.fit;
      values = rw (h.cells, h.values, sym same) (potentials_feasible (low_cost (pricing cost r p.prices)) p.cells p.potentials is.potentials);
      bound = rw (h.values, h.bound) (bound_back cost r splits tolerance p whole even times is ∙ ap (λ (q : Prices). Some (p.bound +ℤ priced_slack r q)) (ap (λ (q : Pricing). q.prices) same));
    }

-- and is in range
pub in_range : (cost : ℤ → ℤ) (r : Rules) (splits tolerance : ℕ) (p : PlanData) (c : Certificate) → splits ≤ 50000 → IsShaped r → ArePrices p.prices → IsSomePlan cost r splits tolerance p
    → IsCertificateOf p c → All IsPoint c.points → IsCertificate c
in_range cost r splits tolerance p c few shaped prices (whole, even, times, is) h fit =
    let points = points_of p c h ∙ is.fit.2.points in
    let low = prices.low in
    record {
      energy = omega (arith, ints, h.energy, is.small_cost);
      bound = omega (arith, ints, h.bound, is.small_bound);
      prices = (omega (arith, ap length h.prices, prices.equal, prices.some), omega (arith, ap length h.prices, prices.equal, prices.few));
      price = All-from_get_or (λ v. v ≤ 2 ^ 50) c.prices 0 (λ j l. subst (λ (vs : List ℕ). slice_index vs j ≤ 2 ^ 50) (sym h.prices) (low j));
      points = (omega (arith, points, shaped.some), omega (arith, points, shaped.few));
      point = fit;
      cells = omega (arith, few, cells_of_plan p c h, is.count, is.within, shaped.few);
    }
