-- The conditions on cells, links, potentials and bound together.
use Rattle.std.proofs.Common.{◌≡◌, ◌+◌, ◌∙◌, ℕ, ℤ, zero, suc, List, Option, Some, None, Result, Ok, Err, length, refl, sym, ap, subst, arith}
use Rattle.std.specs.Prelude.{slice_index, IfOk}
use Rattle.std.specs.Option.{option_or}
use Rattle.bound_specs.specs.Links.{Pricing}
use Rattle.bound_specs.specs.Prices.{Prices, AreFor, priced_slack}
use Rattle.rail_base.specs.First.{first_below}
use Rattle.rail_specs.specs.Rules.{Rules}
use Rattle.rail_specs.specs.Ranges.{AreRanges, no_narrowing}
use Rattle.dual_certificate.specs.declared.certificate.CertPoint.{CertPoint}
use Rattle.dual_certificate.specs.declared.certificate.Certificate.{Certificate}
use Rattle.certificate_checker.specs.declared.refused.Refused.{Refused}
use Rattle.certificate_checker.specs.declared.refused.Refused.TheVariants.{Number, Drive, Cells, Potential, NoMemory}
use Rattle.certificate_checker.specs.Contents.{prices_in, pricing_in}
use Rattle.certificate_checker.specs.Refusals.{Refuses, cells_refusal, links_over, end_refusal, bound_refusal, late_refusal}

pub refuses_some : (A : Type 0) (e : Refused) (first : Option Refused) → first ≡ Some e → Refuses {A = A} (Err e) first
refuses_some A (Number f) first h = h
refuses_some A (Drive rule place) first h = h
refuses_some A (Cells k) first h = h
refuses_some A (Potential k a b) first h = h
refuses_some A NoMemory first h = tt

last_of : (a b d e last : Option Refused) → a ≡ None → b ≡ None → d ≡ None → e ≡ last → option_or a (option_or b (option_or d e)) ≡ last
last_of a b d e last ea eb ed ee = rw (ea, eb, ed) ee

-- where the others hold, the condition on the bound decides
pub late_is : (cost : ℤ → ℤ) (r : Rules) (c : Certificate) (low high : List ℕ) (ps : List CertPoint) (prices : Prices) (priced : Pricing) (n m : ℕ) (s : ℤ) (last : Option Refused) → ps ≡ c.points
    → length c.points ≡ length r.steps + 1 → AreFor r prices → prices.values ≡ c.prices → priced ≡ record { cost = cost; rules = r; prices = prices } → n ≡ length r.steps → m ≡ length r.steps
    → None ≡ first_below (cells_refusal low high ps) (length ps) → None ≡ first_below (links_over priced ps) n → None ≡ end_refusal ps m → s ≡ priced_slack r prices
    → last ≡ bound_refusal c s → late_refusal cost r c low high ≡ last
late_is cost r c low high ps prices priced n m s last eps count timings values epr en em hc hl he es hb =
    let p : prices ≡ prices_in r c = λ i. record { points = timings i; values = values i } in
    let pr : priced ≡ pricing_in cost r c = epr ∙ ap (λ (q : Prices). record { cost = cost; rules = r; prices = q }) p in
    let long : length ps ≡ length r.steps + 1 = ap length eps ∙ count in
    let a : first_below (cells_refusal low high c.points) (length r.steps + 1) ≡ None =
    subst (λ (k : ℕ). first_below (cells_refusal low high c.points) k ≡ None) long (subst (λ (xs : List CertPoint). first_below (cells_refusal low high xs) (length ps) ≡ None) eps (sym hc)) in
    let b : first_below (links_over (pricing_in cost r c) c.points) (length r.steps) ≡ None =
    subst (λ (k : ℕ). first_below (links_over (pricing_in cost r c) c.points) k ≡ None) en
    (subst (λ (q : Pricing). first_below (links_over q c.points) n ≡ None) pr (subst (λ (xs : List CertPoint). first_below (links_over priced xs) n ≡ None) eps (sym hl))) in
    let d : end_refusal c.points (length r.steps) ≡ None =
    subst (λ (k : ℕ). end_refusal c.points k ≡ None) em (subst (λ (xs : List CertPoint). end_refusal xs m ≡ None) eps (sym he)) in
    let e : bound_refusal c (priced_slack r (prices_in r c)) ≡ last = ap (bound_refusal c) (sym (es ∙ ap (priced_slack r) p)) ∙ sym hb in
    last_of (first_below (cells_refusal low high c.points) (length r.steps + 1)) (first_below (links_over (pricing_in cost r c) c.points) (length r.steps))
    (end_refusal c.points (length r.steps)) (bound_refusal c (priced_slack r (prices_in r c))) last a b d e

first_same : {X : Type 0} (f g : ℕ → Option X) (n : ℕ) → ((k : ℕ) → f k ≡ g k) → first_below f n ≡ first_below g n
first_same f g zero h = refl
first_same f g (suc n) h = rw (first_same f g n h, h n) refl

-- the ranges of the drives are one
pub late_same : (cost : ℤ → ℤ) (r : Rules) (c : Certificate) (low high least greatest : List ℕ) → AreRanges r no_narrowing low high → AreRanges r no_narrowing least greatest
    → late_refusal cost r c low high ≡ late_refusal cost r c least greatest
late_same cost r c low high least greatest h g =
    let down : (k : ℕ) → slice_index low k ≡ slice_index least k = λ k. omega (arith, h.least.below least g.least.drive k, g.least.below low h.least.drive k) in
    let up : (k : ℕ) → slice_index high k ≡ slice_index greatest k = λ k. omega (arith, h.greatest.above greatest g.greatest.drive k, g.greatest.above high h.greatest.drive k) in
    let cells = first_same (cells_refusal low high c.points) (cells_refusal least greatest c.points) (length r.steps + 1) (λ k. rw (down k, up k) refl) in
    ap (λ (o : Option Refused). option_or o (option_or (first_below (links_over (pricing_in cost r c) c.points) (length r.steps))
    (option_or (end_refusal c.points (length r.steps)) (bound_refusal c (priced_slack r (prices_in r c)))))) cells

-- what holds anyhow holds of an answer
pub ok_any : {A E : Type 0} {P : Type 0} (result : Result A E) → P → IfOk result (λ _. P)
ok_any (Ok x) p = p
ok_any (Err e) p = tt
