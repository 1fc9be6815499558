-- The certificate of a drive that was chosen.
use Rattle.std.proofs.Common.{◌≡◌, ◌≤◌, ◌+◌, ◌^◌, ◌∙◌, ℕ, ℤ, List, length, sym, ap, subst, arith}
use Rattle.std.specs.Prelude.{◌≤ℤ◌, slice_index, All}
use Rattle.std.specs.Int.RustNames.{unsigned_abs}
use Rattle.std.proofs.lemmas.Int.{ints}
use Rattle.std.proofs.lemmas.List.Elements.{All-from_get_or}
use Rattle.rail_specs.specs.Rules.{Rules}
use Rattle.rail_specs.specs.Ranges.{AreRanges, no_narrowing}
use Rattle.rail_specs.specs.Cost.{cost_of, IsBound}
use Rattle.rule_parts.specs.Shaped.{IsShaped}
use Rattle.drive_choice.specs.declared.choice.Chosen.{Chosen}
use Rattle.drive_choice.specs.Choices.{IsChosen}
use Rattle.costate_bound.specs.Costs.{CoversWork}
use Rattle.costate_bound.specs.Relaxation.{costate_bound}
use Rattle.costate_text.specs.declared.certificate.CostateCertificate.{CostateCertificate}
use Rattle.costate_text.specs.Text.{IsCostateCertificate}
use Rattle.costate_checker.specs.Holds.{Holds, relaxation_in}
use Rattle.costate_checker.proofs.HoldLemmas.{bound_same}
use Rattle.costate_run.specs.declared.offers.Offer.{Offer}
use Rattle.costate_run.specs.Offers.{IsOffer, IsFreeOffer, free_bound, free_costates, free_prices, relaxation_by}
use Rattle.costate_run.specs.Plan.{IsCertificateFor}

-- a certificate of this drive and this offer
pub record IsMadeOf (chosen : Chosen) (o : Offer) (c : CostateCertificate) : Type 0 where
  pub energy : c.energy ≡ chosen.cost
  pub bound : c.bound ≡ o.bound
  pub prices : c.prices ≡ o.prices.items
  pub speeds : c.speeds ≡ chosen.drive
  pub costates : c.costates ≡ o.costates.items

-- what an offer of nothing gives
pub free_value : (r : Rules) (share : ℕ) (speeds low high : List ℕ) (o : Offer) → IsOffer r share speeds low high o → IsFreeOffer r share o → o.bound ≡ free_bound r share speeds low high
free_value r share speeds low high o is free = rw (free.prices, free.costates) at is.value

in_range : (cost : ℤ → ℤ) (share : ℕ) (r : Rules) (chosen : Chosen) (o : Offer) (low high : List ℕ) (c : CostateCertificate) → IsShaped r → IsChosen cost r chosen
    → IsOffer r share chosen.drive low high o → IsMadeOf chosen o c → ((k : ℕ) → slice_index chosen.drive k ≤ 12000) → IsCostateCertificate c
in_range cost share r chosen o low high c shaped is offer made slow =
    let count : length c.speeds ≡ length r.steps + 1 = ap length made.speeds ∙ is.best.drive.count in
    let prices : length c.prices ≡ length r.timings = ap length made.prices ∙ offer.prices in
    let costates : length c.costates ≡ length r.steps = ap length made.costates ∙ offer.costates in
    record {
      energy = omega (arith, ints, made.energy, is.small);
      bound = omega (arith, ints, made.bound, offer.small);
      prices = (omega (arith, prices, shaped.some_timings), omega (arith, prices, shaped.few_timings));
      price = All-from_get_or (λ p. p ≤ 2 ^ 50) c.prices 0 (λ j l. subst (λ (ps : List ℕ). slice_index ps j ≤ 2 ^ 50) (sym made.prices) (offer.price j));
      points = (omega (arith, count, shaped.some), omega (arith, count, shaped.few));
      speed = All-from_get_or (λ v. v ≤ 12000) c.speeds 0 (λ k l. subst (λ (vs : List ℕ). slice_index vs k ≤ 12000) (sym made.speeds) (slow k));
      steps = omega (arith, count, costates);
      costate = subst (All (λ s. unsigned_abs s ≤ 2 ^ 22)) (sym made.costates) offer.costate;
    }

holds : (cost : ℤ → ℤ) (share : ℕ) (r : Rules) (chosen : Chosen) (o : Offer) (low high : List ℕ) (c : CostateCertificate) → IsChosen cost r chosen
    → AreRanges r no_narrowing low high → IsOffer r share chosen.drive low high o → IsMadeOf chosen o c → Holds cost share r c
holds cost share r chosen o low high c is ranges offer made =
    let value : c.bound ≡ costate_bound (relaxation_in r share c) low high = rw (made.bound, made.prices, made.speeds, made.costates) offer.value in
    record {
      points = ap length made.speeds ∙ is.best.drive.count;
      prices = ap length made.prices ∙ offer.prices;
      drive = rw made.speeds is.best.drive;
      on_time = rw made.speeds is.best.on_time;
      energy = made.energy ∙ is.costs ∙ ap (cost_of cost r) (sym made.speeds);
      bound = (low, high, ranges, value);
    }

-- the certificate of the better of two offers
pub certificate_for : (cost : ℤ → ℤ) (share : ℕ) (r : Rules) (chosen : Chosen) (o : Offer) (low high : List ℕ) (c : CostateCertificate) → IsShaped r → CoversWork share cost
    → IsChosen cost r chosen → AreRanges r no_narrowing low high → IsOffer r share chosen.drive low high o → free_bound r share chosen.drive low high ≤ℤ o.bound
    → IsMadeOf chosen o c → ((k : ℕ) → slice_index chosen.drive k ≤ 12000) → IsCertificateFor cost share r c
certificate_for cost share r chosen o low high c shaped covers is ranges offer free made slow =
    let held = holds cost share r chosen o low high c is ranges offer made in
    let least : free_bound r share c.speeds low high ≤ℤ c.bound = rw (made.speeds, made.bound) free in
    record {
      in_range = in_range cost share r chosen o low high c shaped is offer made slow;
      best = rw made.speeds is.best;
      holds = held;
      shows = record {
        drive = held.drive;
        on_time = held.on_time;
        energy = held.energy;
        bound = subst (λ (b : ℤ). IsBound cost r b) (sym made.bound) (offer.bounds cost covers);
      };
      free = λ down up h. subst (λ (b : ℤ). b ≤ℤ c.bound)
          (bound_same (relaxation_by r share (free_prices r) c.speeds (free_costates r share)) low high down up ranges h) least;
    }
