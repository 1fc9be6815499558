-- A costate certificate holds exactly where none of its conditions fails, and what holds shows its bound.
use Rattle.std.proofs.Common.{◌≡◌, ◌≤◌, ◌+◌, ◌^◌, ℕ, ℤ, Bool, true, false, List, Option, Some, None, Result, Ok, Err, length, refl, ap, subst, arith, inl, inr, pos}
use Rattle.std.specs.Prelude.{◌==◌, slice_index, slice_index_or, option_map, All, IfOk, IfErr, IfSome}
use Rattle.std.specs.Option.{option_or}
use Rattle.std.specs.Ordering.{int_eq}
use Rattle.std.specs.Int.RustNames.{unsigned_abs}
use Rattle.std.proofs.lemmas.Int.{ints}
use Rattle.std.proofs.lemmas.Bool.{cases_lt}
use Rattle.std.proofs.lemmas.Bool.Decides.{nat_tests}
use Rattle.std.proofs.lemmas.List.{get_or_past}
use Rattle.bound_specs.specs.Prices.{Prices, AreFor}
use Rattle.rail_specs.specs.Rules.{Rules, IsDrive}
use Rattle.rail_specs.specs.Ranges.{AreRanges, no_narrowing}
use Rattle.rail_specs.specs.Times.{IsOnTimeUp}
use Rattle.rail_specs.specs.Cost.{cost_of, IsBound}
use Rattle.drive_rules.specs.declared.judge.Rule.{Rule}
use Rattle.drive_rules.specs.Verdict.{verdict}
use Rattle.drive_rules.proofs.VerdictLemmas.{option_or-none}
use Rattle.drive_rules.proofs.KeptLemmas.{drive_from_none, none_from_drive}
use Rattle.costate_bound.specs.Costs.{CoversWork}
use Rattle.costate_bound.specs.Relaxation.{Relaxation, least_part, costate_bound}
use Rattle.costate_bound.proofs.Sums.{sums_same}
use Rattle.costate_text.specs.declared.certificate.CostateCertificate.{CostateCertificate}
use Rattle.costate_checker.specs.declared.refused.Field.TheVariants as field
use Rattle.costate_checker.specs.declared.refused.Refused.{Refused}
use Rattle.costate_checker.specs.declared.refused.Refused.TheVariants.{Number, Drive, NoMemory}
use Rattle.costate_checker.specs.Holds.{Holds, Shows, relaxation_in}
use Rattle.costate_checker.specs.Refusals.{unless_so, counts_refusal, drive_refusal, early_refusal, bound_refusal, Refuses}

-- ---- tests

so_none : (b : Bool) (e : Refused) → unless_so b e ≡ None → b ≡ true
so_none true e h = refl
so_none false e h = absurd (cc h)

none_so : (b : Bool) (e : Refused) → b ≡ true → unless_so b e ≡ None
none_so b e h = ap (λ (t : Bool). unless_so t e) h

equal_so : (m n : ℕ) → (m == n) ≡ true → m ≡ n
equal_so m n h = grind (arith, nat_tests)

so_equal : (m n : ℕ) → m ≡ n → (m == n) ≡ true
so_equal m n h = grind (arith, nat_tests)

same_so : (m n : ℤ) → int_eq m n ≡ true → m ≡ n
same_so m n h = grind (arith, ints)

so_same : (m n : ℤ) → m ≡ n → int_eq m n ≡ true
so_same m n h = grind (arith, ints)

no_rule : (o : Option (Rule × ℕ)) → option_map (λ broken. Drive broken.0 broken.1) o ≡ None → o ≡ None
no_rule None h = refl
no_rule (Some x) h = absurd (cc h)

none_or : {X : Type 0} (a b : Option X) → a ≡ None → b ≡ None → option_or a b ≡ None
none_or a b h g = rw h g

-- ---- ranges

-- the ranges of the drives are one, and so is the bound
pub bound_same : (x : Relaxation) (low high least greatest : List ℕ) → AreRanges x.rules no_narrowing low high → AreRanges x.rules no_narrowing least greatest
    → costate_bound x low high ≡ costate_bound x least greatest
bound_same x low high least greatest h g =
    let down : (k : ℕ) → slice_index low k ≡ slice_index least k = λ k. omega (arith, h.least.below least g.least.drive k, g.least.below low h.least.drive k) in
    let up : (k : ℕ) → slice_index high k ≡ slice_index greatest k = λ k. omega (arith, h.greatest.above greatest g.greatest.drive k, g.greatest.above high h.greatest.drive k) in
    let parts = sums_same (least_part x low high) (least_part x least greatest) (length x.rules.steps + 1) (λ k l. rw (down k, up k) refl) in
    rw parts refl

pub refusal_same : (r : Rules) (share : ℕ) (c : CostateCertificate) (low high least greatest : List ℕ) → AreRanges r no_narrowing low high → AreRanges r no_narrowing least greatest
    → bound_refusal c (costate_bound (relaxation_in r share c) low high) ≡ bound_refusal c (costate_bound (relaxation_in r share c) least greatest)
refusal_same r share c low high least greatest h g = ap (bound_refusal c) (bound_same (relaxation_in r share c) low high least greatest h g)

-- ---- from no refusal to what holds

record Early (cost : ℤ → ℤ) (r : Rules) (c : CostateCertificate) : Type 0 where
  points : length c.speeds ≡ length r.steps + 1
  prices : length c.prices ≡ length r.timings
  drive : IsDrive r c.speeds
  on_time : IsOnTimeUp r c.speeds
  energy : c.energy ≡ cost_of cost r c.speeds

early_so : (cost : ℤ → ℤ) (r : Rules) (c : CostateCertificate) → early_refusal cost r c ≡ None → Early cost r c
early_so cost r c h =
    let both = option_or-none (counts_refusal r c) (drive_refusal cost r c) h in
    let counts = option_or-none (unless_so (length c.speeds == length r.steps + 1) (Number field.Points)) (unless_so (length c.prices == length r.timings) (Number field.Prices)) both.0 in
    let driven = option_or-none (option_map (λ broken. Drive broken.0 broken.1) (verdict r c.speeds)) (unless_so (int_eq c.energy (cost_of cost r c.speeds)) (Number field.Energy)) both.1 in
    let drive = drive_from_none r c.speeds (no_rule (verdict r c.speeds) driven.0) in
    record {
      points = equal_so (length c.speeds) (length r.steps + 1) (so_none _ _ counts.0);
      prices = equal_so (length c.prices) (length r.timings) (so_none _ _ counts.1);
      drive = drive.0;
      on_time = drive.1;
      energy = same_so c.energy (cost_of cost r c.speeds) (so_none _ _ driven.1);
    }

holds_early : (cost : ℤ → ℤ) (share : ℕ) (r : Rules) (c : CostateCertificate) → Holds cost share r c → early_refusal cost r c ≡ None
holds_early cost share r c h =
    none_or (counts_refusal r c) (drive_refusal cost r c)
    (none_or _ _ (none_so _ (Number field.Points) (so_equal _ _ h.points)) (none_so _ (Number field.Prices) (so_equal _ _ h.prices)))
    (none_or _ _ (ap (option_map (λ broken. Drive broken.0 broken.1)) (none_from_drive r c.speeds h.drive h.on_time)) (none_so _ (Number field.Energy) (so_same _ _ h.energy)))

-- ---- an answer

pub ok_any : {A E : Type 0} {P : Type 0} (result : Result A E) → P → IfOk result (λ _. P)
ok_any (Ok x) p = p
ok_any (Err e) p = tt

-- where an answer is Ok, what it refuses is nothing
ok_none : (o : Option Refused) → IfSome o (λ e. Refuses {A = Unit {0}} (Ok tt) (Some e)) → o ≡ None
ok_none None h = refl
ok_none (Some e) h = absurd (cc h)

abbrev EarlyRefuses : (ℤ → ℤ) → Rules → CostateCertificate → Result (Unit {0}) Refused → Type 0
EarlyRefuses cost r c result = IfSome (early_refusal cost r c) (λ e. Refuses result (Some e))

abbrev LateRefuses : (ℤ → ℤ) → ℕ → Rules → CostateCertificate → Result (Unit {0}) Refused → Type 0
LateRefuses cost share r c result = early_refusal cost r c ≡ None → (least greatest : List ℕ) → AreRanges r no_narrowing least greatest
    → Refuses result (bound_refusal c (costate_bound (relaxation_in r share c) least greatest))

pub ok_holds : (cost : ℤ → ℤ) (share : ℕ) (r : Rules) (c : CostateCertificate) (result : Result (Unit {0}) Refused) → EarlyRefuses cost r c result → LateRefuses cost share r c result
    → IfOk result (λ _. (least : List ℕ) × (greatest : List ℕ) × AreRanges r no_narrowing least greatest) → IfOk result (λ _. Holds cost share r c)
ok_holds cost share r c (Err e) early late ranges = tt
ok_holds cost share r c (Ok x) early late ranges =
    let none = ok_none (early_refusal cost r c) early in
    let e = early_so cost r c none in
    let bound = same_so c.bound (costate_bound (relaxation_in r share c) ranges.0 ranges.1) (so_none _ _ (late none ranges.0 ranges.1 ranges.2)) in
    record { points = e.points; prices = e.prices; drive = e.drive; on_time = e.on_time; energy = e.energy; bound = (ranges.0, ranges.1, ranges.2, bound) }

-- a refusal of nothing is want of memory
refuses_none : (e : Refused) → Refuses {A = Unit {0}} (Err e) None → e ≡ NoMemory
refuses_none (Number f) h = absurd (cc h)
refuses_none (Drive rule place) h = absurd (cc h)
refuses_none NoMemory h = refl

pub err_fails : (cost : ℤ → ℤ) (share : ℕ) (r : Rules) (c : CostateCertificate) (result : Result (Unit {0}) Refused) → LateRefuses cost share r c result
    → IfErr result (λ e. (e ≡ NoMemory → ⊥) → Holds cost share r c → ⊥)
err_fails cost share r c (Ok x) late = tt
err_fails cost share r c (Err e) late = λ other h.
    let least : List ℕ = h.bound.0 in
    let greatest : List ℕ = h.bound.1 in
    let refused = late (holds_early cost share r c h) least greatest h.bound.2 in
    let none : bound_refusal c (costate_bound (relaxation_in r share c) least greatest) ≡ None = none_so _ (Number field.Bound) (so_same c.bound (costate_bound (relaxation_in r share c) least greatest) h.bound.3) in
    other (refuses_none e (subst (Refuses {A = Unit {0}} (Err e)) none refused))

pub ok_shows : (cost : ℤ → ℤ) (share : ℕ) (r : Rules) (c : CostateCertificate) (result : Result (Unit {0}) Refused) → CoversWork share cost → IfOk result (λ _. Holds cost share r c)
    → IfOk result (λ _. (cost : ℤ → ℤ) → CoversWork share cost → IsBound cost r c.bound) → IfOk result (λ _. Shows cost r c)
ok_shows cost share r c (Ok x) covers h bounds = record { drive = h.drive; on_time = h.on_time; energy = h.energy; bound = bounds cost covers }
ok_shows cost share r c (Err e) covers h bounds = tt

-- ---- pieces of the code's answers

pub refuses_some : (A : Type 0) (e : Refused) (first : Option Refused) → first ≡ Some e → Refuses {A = A} (Err e) first
refuses_some A (Number f) first h = h
refuses_some A (Drive rule place) first h = h
refuses_some A NoMemory first h = tt

pub relaxation_is : (r : Rules) (share : ℕ) (c : CostateCertificate) (prices : Prices) (speeds : List ℕ) (costates : List ℤ) → AreFor r prices → prices.values ≡ c.prices → speeds ≡ c.speeds
    → costates ≡ c.costates → record { rules = r; share = share; prices = prices; speeds = speeds; costates = costates } ≡ relaxation_in r share c
relaxation_is r share c prices speeds costates timings values es ec =
    λ i. record { rules = r; share = share; prices = record { points = timings i; values = values i }; speeds = es i; costates = ec i }
