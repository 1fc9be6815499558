-- A certificate holds exactly where none of its conditions fails, and what holds shows its bound.
use Rattle.std.proofs.Common.{◌≡◌, ◌<◌, ◌≤◌, ◌+◌, ◌-◌, ◌∙◌, ℕ, ℤ, zero, suc, Bool, true, false, List, [], ◌∷◌, Option, Some, None, Result, Ok, Err, length, refl, sym, ap, subst, arith, add-one, inl, inr, pos}
use Rattle.std.specs.Prelude.{◌==◌, ◌&&◌, ◌+ℤ◌, ◌-ℤ◌, nat_lt, if◌then◌else◌, slice_index, slice_index_or, option_map, IfOk, IfErr, IfSome}
use Rattle.std.specs.Option.{option_or}
use Rattle.std.specs.Ordering.{int_eq}
use Rattle.std.proofs.lemmas.Int.{ints}
use Rattle.std.proofs.lemmas.Bool.{cases_lt}
use Rattle.std.proofs.lemmas.Bool.Decides.{nat_tests}
use Rattle.std.proofs.lemmas.List.{get_or-map, length-map}
use Rattle.bound_specs.specs.declared.Cell.{Cell}
use Rattle.bound_specs.specs.Cells.{no_cell, cells_of, cell_at, IsCell, RunFrom, FitBetween}
use Rattle.bound_specs.specs.Chains.{plus, IsAtMost, values_of, value_at}
use Rattle.bound_specs.specs.Links.{low_cost}
use Rattle.bound_specs.specs.Prices.{priced_slack}
use Rattle.rail_base.specs.First.{first_below}
use Rattle.rail_specs.specs.Rules.{Rules, IsDrive}
use Rattle.rail_specs.specs.Ranges.{AreRanges, no_narrowing}
use Rattle.rail_specs.specs.Times.{IsOnTimeUp}
use Rattle.rail_specs.specs.Cost.{cost_of}
use Rattle.rule_parts.specs.Shaped.{IsShaped}
use Rattle.drive_rules.specs.declared.judge.Rule.{Rule}
use Rattle.drive_rules.specs.Verdict.{verdict}
use Rattle.drive_rules.proofs.VerdictLemmas.{option_or-none}
use Rattle.drive_rules.proofs.KeptLemmas.{first_below-none, none-first_below, drive_from_none, none_from_drive}
use Rattle.dual_certificate.specs.declared.certificate.CertCell.{CertCell}
use Rattle.dual_certificate.specs.declared.certificate.CertPoint.{CertPoint}
use Rattle.dual_certificate.specs.declared.certificate.Certificate.{Certificate}
use Rattle.dual_certificate.specs.Text.{IsPoint, IsCertificate}
use Rattle.certificate_checker.specs.declared.refused.Field.TheVariants as field
use Rattle.certificate_checker.specs.declared.refused.Refused.{Refused}
use Rattle.certificate_checker.specs.declared.refused.Refused.TheVariants.{Number, Drive, Cells, Potential, NoMemory}
use Rattle.dual_certificate.specs.Contents.{no_cert_cell, no_point, point_at, first_of, cell_of, value_of, cells_up_to, point_cells, point_values, cell_lists, value_lists, speeds_of}
use Rattle.certificate_checker.specs.Contents.{prices_in, pricing_in}
use Rattle.certificate_checker.specs.Holds.{Holds}
use Rattle.certificate_checker.specs.Refusals.{unless_so, is_at_most, is_number, counts_refusal, drive_refusal, early_refusal, cells_refusal, link_refusal, links_from, links_over, end_refusal, bound_refusal, late_refusal, Refuses}
use Rattle.certificate_checker.proofs.PointLemmas.{first_within, first_rises}

-- ---- tests

so_none : (b : Bool) (e : Refused) → unless_so b e ≡ None → b ≡ true
so_none true e h = refl
so_none false e h = absurd (cc h)

none_so : (b : Bool) (e : Refused) → b ≡ true → unless_so b e ≡ None
none_so b e h = ap (λ (t : Bool). unless_so t e) h

both_so : (a b : Bool) → (a && b) ≡ true → (a ≡ true) × (b ≡ true)
both_so true b h = (refl, h)
both_so false b h = absurd (cc h)

so_both : (a b : Bool) → a ≡ true → b ≡ true → (a && b) ≡ true
so_both a b h g = rw (h, g) refl

equal_so : (m n : ℕ) → (m == n) ≡ true → m ≡ n
equal_so m n h = grind (arith, nat_tests)

so_equal : (m n : ℕ) → m ≡ n → (m == n) ≡ true
so_equal m n h = grind (arith, nat_tests)

same_so : (m n : ℤ) → int_eq m n ≡ true → m ≡ n
same_so m n h = grind (arith, ints)

so_same : (m n : ℤ) → m ≡ n → int_eq m n ≡ true
so_same m n h = grind (arith, ints)

at_most_so : (p q : Option ℤ) → is_at_most p q ≡ true → IsAtMost p q
at_most_so p None h = tt
at_most_so None (Some q) h = absurd (cc h)
at_most_so (Some p) (Some q) h = grind (arith, ints)

so_at_most : (p q : Option ℤ) → IsAtMost p q → is_at_most p q ≡ true
so_at_most p None h = refl
so_at_most None (Some q) h = absurd h
so_at_most (Some p) (Some q) h = grind (arith, ints)

number_so : (p : Option ℤ) (n : ℤ) → is_number p n ≡ true → p ≡ Some n
number_so None n h = absurd (cc h)
number_so (Some p) n h = ap Some (same_so p n h)

so_number : (p : Option ℤ) (n : ℤ) → p ≡ Some n → is_number p n ≡ true
so_number p n h = rw h (so_same n n refl)

less_so : (p : Option ℤ) (n s : ℤ) → is_number (option_map (λ q. q -ℤ s) p) n ≡ true → p ≡ Some (n +ℤ s)
less_so None n s h = absurd (cc h)
less_so (Some p) n s h = ap Some (let e = same_so (p -ℤ s) n h in omega (arith, ints, e))

so_less : (p : Option ℤ) (n s : ℤ) → p ≡ Some (n +ℤ s) → is_number (option_map (λ q. q -ℤ s) p) n ≡ true
so_less p n s h = rw h (so_same ((n +ℤ s) -ℤ s) n (omega (arith, ints)))

no_rule : (o : Option (Rule × ℕ)) → option_map (λ broken. Drive broken.0 broken.1) o ≡ None → o ≡ None
no_rule None h = refl
no_rule (Some x) h = absurd (cc h)

none_or : {X : Type 0} (a b : Option X) → a ≡ None → b ≡ None → option_or a b ≡ None
none_or a b h g = rw h g

-- ---- cells

count-cells : (g : ℕ) (cs : List CertCell) → length (cells_up_to g cs) ≡ length cs
count-cells g [] = refl
count-cells g (c ∷ []) = refl
count-cells g (c ∷ d ∷ cs) = ap suc (count-cells g (d ∷ cs))

below_some : (n : ℕ) → nat_lt 1 (suc (suc n)) ≡ true
below_some n = grind (arith, nat_tests)

below_both : (m n : ℕ) → nat_lt (suc m) (suc n) ≡ nat_lt m n
below_both m n = grind (arith, nat_tests)

cell_is : (g : ℕ) (cs : List CertCell) (a : ℕ) → a < length cs → slice_index_or (cells_up_to g cs) a no_cell
    ≡ record { first = (slice_index_or cs a no_cert_cell).first; last = if nat_lt (a + 1) (length cs) then (slice_index_or cs (a + 1) no_cert_cell).first - 1 else g }
cell_is g [] a l = absurd (omega (arith, l))
cell_is g (c ∷ []) zero l = refl
cell_is g (c ∷ []) (suc a) l = absurd (omega (arith, l))
cell_is g (c ∷ d ∷ cs) zero l = ap (λ (t : Bool). record { first = c.first; last = if t then d.first - 1 else g }) (sym (below_some (length cs)))
cell_is g (c ∷ d ∷ cs) (suc a) l =
    let h = cell_is g (d ∷ cs) a (omega (arith, l)) in
    let moved = rw (add-one a) at h in
    rw (add-one (suc a)) (moved ∙ ap (λ (t : Bool). record { first = (slice_index_or (d ∷ cs) a no_cert_cell).first; last = if t then (slice_index_or (d ∷ cs) (suc a) no_cert_cell).first - 1 else g })
    (sym (below_both (suc a) (length (d ∷ cs)))))

pub last_inner : (p : CertPoint) (a : ℕ) → a + 1 < length p.cells → (cell_of p a).last ≡ first_of p (a + 1) - 1
last_inner p a l = grind (arith, nat_tests)

last_outer : (p : CertPoint) (a : ℕ) → length p.cells ≤ a + 1 → (cell_of p a).last ≡ p.greatest
last_outer p a l = grind (arith, nat_tests)

pub cell_ok : (p : CertPoint) (a : ℕ) → IsPoint p → a < length p.cells → IsCell (cell_of p a)
cell_ok p a h l = elim (cases_lt (a + 1) (length p.cells)) [
  | inl inner ↦ (omega (arith, last_inner p a inner, first_rises p a h inner), omega (arith, last_inner p a inner, first_within p (a + 1) h inner, h.greatest))
  | inr out ↦ (omega (arith, last_outer p a out, first_within p a h l), omega (arith, last_outer p a out, h.greatest))
]

-- cells as they are spelled lie side by side
pub run_of : (p : CertPoint) → IsPoint p → RunFrom (first_of p 0) p.greatest (point_cells p)
run_of p h =
    let count = count-cells p.greatest p.cells in
    let is : (a : ℕ) → a < length p.cells → slice_index_or (point_cells p) a no_cell ≡ cell_of p a = cell_is p.greatest p.cells in
    let end : length p.cells - 1 < length p.cells = omega (arith, h.some) in
    record {
      adjacent = record {
        some = omega (arith, count, h.some);
        cells = λ a l. subst IsCell (sym (is a (omega (arith, count, l)))) (cell_ok p a h (omega (arith, count, l)));
        next = λ a l.
            let inner : a + 1 < length p.cells = omega (arith, count, l) in
            let f : (slice_index_or (point_cells p) (a + 1) no_cell).first ≡ first_of p (a + 1) = ap (λ (x : Cell). x.first) (is (a + 1) inner) in
            let g : (slice_index_or (point_cells p) a no_cell).last ≡ (cell_of p a).last = ap (λ (x : Cell). x.last) (is a (omega (arith, inner))) in
            omega (arith, f, g, last_inner p a inner, first_rises p a h inner);
      };
      first = ap (λ (x : Cell). x.first) (is 0 (omega (arith, h.some)));
      last = rw count (ap (λ (x : Cell). x.last) (is (length p.cells - 1) end) ∙ last_outer p (length p.cells - 1) (omega (arith, h.some)));
    }

-- a point with one speed has one cell
pub one_cell : (p : CertPoint) → IsPoint p → first_of p 0 ≡ p.greatest → length p.cells ≡ 1
one_cell p h e = elim (cases_lt 1 (length p.cells)) [
  | inl more ↦ absurd (let a = first_rises p 0 h more in let b = first_within p 1 h more in omega (arith, a, b, e))
  | inr few ↦ omega (arith, few, h.some)
]

-- ---- the lists of a certificate

pub cells_at : (c : Certificate) (k : ℕ) → k < length c.points → cells_of (cell_lists c) k ≡ point_cells (point_at c.points k)
cells_at c k l = get_or-map point_cells c.points k no_point [] l

pub values_at : (c : Certificate) (k : ℕ) → k < length c.points → values_of (value_lists c) k ≡ point_values (point_at c.points k)
values_at c k l = get_or-map point_values c.points k no_point [] l

pub cell_count_at : (c : Certificate) (k : ℕ) → k < length c.points → length (cells_of (cell_lists c) k) ≡ length (point_at c.points k).cells
cell_count_at c k l = ap length (cells_at c k l) ∙ count-cells (point_at c.points k).greatest (point_at c.points k).cells

cell_at_is : (c : Certificate) (k a : ℕ) → k < length c.points → a < length (point_at c.points k).cells → cell_at (cell_lists c) k a ≡ cell_of (point_at c.points k) a
cell_at_is c k a l m = ap (λ (cs : List Cell). slice_index_or cs a no_cell) (cells_at c k l) ∙ cell_is (point_at c.points k).greatest (point_at c.points k).cells a m

value_at_is : (c : Certificate) (k a : ℕ) → k < length c.points → a < length (point_at c.points k).cells → value_at (value_lists c) k a ≡ value_of (point_at c.points k) a
value_at_is c k a l m = ap (λ (vs : List (Option ℤ)). slice_index_or vs a None) (values_at c k l) ∙ get_or-map (λ (x : CertCell). x.potential) (point_at c.points k).cells a no_cert_cell None m

-- every drive ends at a standstill
ends : (r : Rules) (d : List ℕ) → IsShaped r → IsDrive r d → slice_index d (length r.steps) ≡ 0
ends r d s drive =
    let passed = drive.points (length r.steps) s.some (omega (arith, drive.count)) in
    rw s.last_stop at passed

-- ---- from no refusal to what holds

-- what a link's condition says
link_so : (cost : ℤ → ℤ) (r : Rules) (c : Certificate) (k a b : ℕ) → k + 1 < length c.points → a < length (point_at c.points k).cells → b < length (point_at c.points (k + 1)).cells
    → (value_at (value_lists c) k a ≡ value_of (point_at c.points k) a)
    × (plus (low_cost (pricing_in cost r c) k (cell_at (cell_lists c) k a) (cell_at (cell_lists c) (k + 1) b)) (value_at (value_lists c) (k + 1) b)
    ≡ plus (low_cost (pricing_in cost r c) k (cell_of (point_at c.points k) a) (cell_of (point_at c.points (k + 1)) b)) (value_of (point_at c.points (k + 1)) b))
link_so cost r c k a b l la lb = (
  value_at_is c k a (omega (arith, l)) la,
  rw (cell_at_is c k a (omega (arith, l)) la, cell_at_is c (k + 1) b l lb, value_at_is c (k + 1) b l lb) refl,
)

-- what the conditions before the cells say
pub record Early (cost : ℤ → ℤ) (r : Rules) (c : Certificate) : Type 0 where
  pub points : length c.points ≡ length r.steps + 1
  pub prices : length c.prices ≡ length r.timings
  pub drive : IsDrive r (speeds_of c)
  pub on_time : IsOnTimeUp r (speeds_of c)
  pub energy : c.energy ≡ cost_of cost r (speeds_of c)

early_so : (cost : ℤ → ℤ) (r : Rules) (c : Certificate) → early_refusal cost r c ≡ None → Early cost r c
early_so cost r c h =
    let both = option_or-none (counts_refusal r c) (drive_refusal cost r c) h in
    let counts = option_or-none (unless_so (length c.points == length r.steps + 1) (Number field.Points)) (unless_so (length c.prices == length r.timings) (Number field.Prices)) both.0 in
    let driven = option_or-none (option_map (λ broken. Drive broken.0 broken.1) (verdict r (speeds_of c))) (unless_so (int_eq c.energy (cost_of cost r (speeds_of c))) (Number field.Energy)) both.1 in
    let drive = drive_from_none r (speeds_of c) (no_rule (verdict r (speeds_of c)) driven.0) in
    record {
      points = equal_so (length c.points) (length r.steps + 1) (so_none _ _ counts.0);
      prices = equal_so (length c.prices) (length r.timings) (so_none _ _ counts.1);
      drive = drive.0;
      on_time = drive.1;
      energy = same_so c.energy (cost_of cost r (speeds_of c)) (so_none _ _ driven.1);
    }

pub holds_from : (cost : ℤ → ℤ) (r : Rules) (c : Certificate) (least greatest : List ℕ) → IsShaped r → IsCertificate c → AreRanges r no_narrowing least greatest
    → early_refusal cost r c ≡ None → late_refusal cost r c least greatest ≡ None → Holds cost r c
holds_from cost r c least greatest s ic ranges early late =
    let e = early_so cost r c early in
    let n : ℕ = length r.steps in
    let one = option_or-none (first_below (cells_refusal least greatest c.points) (n + 1)) (option_or (first_below (links_over (pricing_in cost r c) c.points) n) (option_or (end_refusal c.points n) (bound_refusal c (priced_slack r (prices_in r c))))) late in
    let two = option_or-none (first_below (links_over (pricing_in cost r c) c.points) n) (option_or (end_refusal c.points n) (bound_refusal c (priced_slack r (prices_in r c)))) one.1 in
    let three = option_or-none (end_refusal c.points n) (bound_refusal c (priced_slack r (prices_in r c))) two.1 in
    let point : (k : ℕ) → k < n + 1 → IsPoint (point_at c.points k) = λ k l. ic.point k no_point (omega (arith, l, e.points)) in
    let run : (k : ℕ) → k < n + 1 → (first_of (point_at c.points k) 0 ≡ slice_index least k) × ((point_at c.points k).greatest ≡ slice_index greatest k) =
    λ k l.
    let tests = both_so _ _ (so_none _ _ (first_below-none (cells_refusal least greatest c.points) (n + 1) one.0 k l)) in
    (equal_so _ _ tests.0, equal_so _ _ tests.1) in
    let lists : length (cell_lists c) ≡ length c.points = length-map c.points point_cells in
    let end = run n (omega arith) in
    let last_one : length (point_at c.points n).cells ≡ 1 =
    one_cell (point_at c.points n) (point n (omega arith)) (omega (arith, end.0, end.1, ends r least s ranges.least.drive.drive, ends r greatest s ranges.greatest.drive.drive)) in
    let first_some : 0 < length (point_at c.points 0).cells = let q = (point 0 (omega arith)).some in omega (arith, q) in
    record {
      points = e.points;
      prices = e.prices;
      drive = e.drive;
      on_time = e.on_time;
      energy = e.energy;
      cells = (
        least,
        greatest,
        record {
          ranges = ranges;
          points = lists ∙ e.points;
          run = λ k l.
              let here = run k (omega (arith, l)) in
              rw (cells_at c k (omega (arith, l, e.points)), sym here.0, sym here.1) (run_of (point_at c.points k) (point k (omega (arith, l))));
        },
      );
      values = record {
        points = length-map c.points point_values ∙ sym lists;
        counts = λ k l.
            let lk : k < length c.points = omega (arith, l, lists) in
            ap length (values_at c k lk) ∙ length-map (point_at c.points k).cells (λ (x : CertCell). x.potential) ∙ sym (cell_count_at c k lk);
        last = λ k a is l.
            let at : k ≡ n = omega (arith, is, lists, e.points) in
            let la : a < length (cells_of (cell_lists c) n) = subst (λ (m : ℕ). a < length (cells_of (cell_lists c) m)) at l in
            let zero_a : a ≡ 0 = omega (arith, la, cell_count_at c n (omega (arith, e.points)), last_one) in
            let here = value_at_is c n 0 (omega (arith, e.points)) (omega (arith, last_one)) ∙ number_so _ _ (so_none _ _ three.0) in
            rw (at, zero_a) here;
        links = λ k a b l la lb.
            let lk : k + 1 < length c.points = omega (arith, l, lists) in
            let ma : a < length (point_at c.points k).cells = omega (arith, la, cell_count_at c k (omega (arith, lk))) in
            let mb : b < length (point_at c.points (k + 1)).cells = omega (arith, lb, cell_count_at c (k + 1) lk) in
            let is = link_so cost r c k a b lk ma mb in
            let over = first_below-none (links_over (pricing_in cost r c) c.points) n two.0 k (omega (arith, lk, e.points)) in
            let from = first_below-none (links_from (pricing_in cost r c) k (point_at c.points k) (point_at c.points (k + 1))) (length (point_at c.points k).cells) over a ma in
            let link = first_below-none (link_refusal (pricing_in cost r c) k a (cell_of (point_at c.points k) a) (value_of (point_at c.points k) a) (point_at c.points (k + 1)))
            (length (point_at c.points (k + 1)).cells) from b mb in
            rw (is.0, is.1) (at_most_so _ _ (so_none _ _ link));
      };
      bound = value_at_is c 0 0 (omega (arith, e.points)) first_some ∙ less_so _ _ _ (so_none _ _ three.1);
    }

-- ---- from what holds to no refusal

pub holds_early : (cost : ℤ → ℤ) (r : Rules) (c : Certificate) → Holds cost r c → early_refusal cost r c ≡ None
holds_early cost r c h =
    none_or (counts_refusal r c) (drive_refusal cost r c)
    (none_or _ _ (none_so _ (Number field.Points) (so_equal _ _ h.points)) (none_so _ (Number field.Prices) (so_equal _ _ h.prices)))
    (none_or _ _ (ap (option_map (λ broken. Drive broken.0 broken.1)) (none_from_drive r (speeds_of c) h.drive h.on_time)) (none_so _ (Number field.Energy) (so_same _ _ h.energy)))

pub holds_late : (cost : ℤ → ℤ) (r : Rules) (c : Certificate) (least greatest : List ℕ) → IsCertificate c → Holds cost r c → FitBetween r (cell_lists c) least greatest
    → late_refusal cost r c least greatest ≡ None
holds_late cost r c least greatest ic h fit =
    let n : ℕ = length r.steps in
    let lists : length (cell_lists c) ≡ length c.points = length-map c.points point_cells in
    let point : (k : ℕ) → k < n + 1 → IsPoint (point_at c.points k) = λ k l. ic.point k no_point (omega (arith, l, h.points)) in
    let cells : (k : ℕ) → k < n + 1 → cells_refusal least greatest c.points k ≡ None =
    λ k l.
    let here : RunFrom (slice_index least k) (slice_index greatest k) (point_cells (point_at c.points k)) =
    subst (RunFrom (slice_index least k) (slice_index greatest k)) (cells_at c k (omega (arith, l, h.points))) (fit.run k (omega (arith, l))) in
    let own = run_of (point_at c.points k) (point k l) in
    none_so _ (Cells k) (so_both _ _ (so_equal _ _ (sym own.first ∙ here.first)) (so_equal _ _ (sym own.last ∙ here.last))) in
    let links : (k : ℕ) → k < n → links_over (pricing_in cost r c) c.points k ≡ None =
    λ k l.
    let lk : k + 1 < length c.points = omega (arith, l, h.points) in
    none-first_below (links_from (pricing_in cost r c) k (point_at c.points k) (point_at c.points (k + 1))) (length (point_at c.points k).cells) (λ a la.
    none-first_below (link_refusal (pricing_in cost r c) k a (cell_of (point_at c.points k) a) (value_of (point_at c.points k) a) (point_at c.points (k + 1)))
    (length (point_at c.points (k + 1)).cells) (λ b lb.
    let is = link_so cost r c k a b lk la lb in
    let keeps = h.values.links k a b (omega (arith, lk, lists)) (omega (arith, la, cell_count_at c k (omega (arith, lk)))) (omega (arith, lb, cell_count_at c (k + 1) lk)) in
    none_so _ (Potential k a b) (so_at_most _ _ (rw (is.0, is.1) at keeps)))) in
    let some : (k : ℕ) → k < n + 1 → 0 < length (point_at c.points k).cells = λ k l. let q = (point k l).some in omega (arith, q) in
    let end : value_at (value_lists c) n 0 ≡ Some (pos 0) =
    h.values.last n 0 (omega (arith, lists, h.points)) (omega (arith, cell_count_at c n (omega (arith, h.points)), some n (omega arith))) in
    none_or (first_below (cells_refusal least greatest c.points) (n + 1)) _ (none-first_below (cells_refusal least greatest c.points) (n + 1) cells)
    (none_or (first_below (links_over (pricing_in cost r c) c.points) n) _ (none-first_below (links_over (pricing_in cost r c) c.points) n links)
    (none_or (end_refusal c.points n) (bound_refusal c (priced_slack r (prices_in r c)))
    (none_so _ (Potential n 0 0) (so_number _ _ (sym (value_at_is c n 0 (omega (arith, h.points)) (some n (omega arith))) ∙ end)))
    (none_so _ (Number field.Bound) (so_less _ _ _ (sym (value_at_is c 0 0 (omega (arith, h.points)) (some 0 (omega arith))) ∙ h.bound)))))

-- ---- an answer

-- where an answer is Ok, what it refuses is nothing
ok_none : (o : Option Refused) → IfSome o (λ e. Refuses {A = Unit {0}} (Ok tt) (Some e)) → o ≡ None
ok_none None h = refl
ok_none (Some e) h = absurd (cc h)

pub ok_holds : (cost : ℤ → ℤ) (r : Rules) (c : Certificate) → IsShaped r → IsCertificate c → (result : Result (Unit {0}) Refused)
    → IfSome (early_refusal cost r c) (λ e. Refuses result (Some e))
    → (early_refusal cost r c ≡ None → (least greatest : List ℕ) → AreRanges r no_narrowing least greatest → Refuses result (late_refusal cost r c least greatest))
    → IfOk result (λ _. (least : List ℕ) × (greatest : List ℕ) × AreRanges r no_narrowing least greatest) → IfOk result (λ _. Holds cost r c)
ok_holds cost r c s ic (Err e) early late ranges = tt
ok_holds cost r c s ic (Ok x) early late ranges =
    let none = ok_none (early_refusal cost r c) early in
    holds_from cost r c ranges.0 ranges.1 s ic ranges.2 none (late none ranges.0 ranges.1 ranges.2)

-- a refusal of nothing is want of memory
refuses_none : (e : Refused) → Refuses {A = Unit {0}} (Err e) None → e ≡ NoMemory
refuses_none (Number f) h = absurd (cc h)
refuses_none (Drive rule place) h = absurd (cc h)
refuses_none (Cells k) h = absurd (cc h)
refuses_none (Potential k a b) h = absurd (cc h)
refuses_none NoMemory h = refl

pub err_fails : (cost : ℤ → ℤ) (r : Rules) (c : Certificate) → IsCertificate c → (result : Result (Unit {0}) Refused)
    → (early_refusal cost r c ≡ None → (least greatest : List ℕ) → AreRanges r no_narrowing least greatest → Refuses result (late_refusal cost r c least greatest))
    → IfErr result (λ e. (e ≡ NoMemory → ⊥) → Holds cost r c → ⊥)
err_fails cost r c ic (Ok x) late = tt
err_fails cost r c ic (Err e) late = λ other h.
    let fit : FitBetween r (cell_lists c) h.cells.0 h.cells.1 = h.cells.2 in
    let refused = late (holds_early cost r c h) h.cells.0 h.cells.1 fit.ranges in
    other (refuses_none e (subst (Refuses {A = Unit {0}} (Err e)) (holds_late cost r c h.cells.0 h.cells.1 ic h fit) refused))
