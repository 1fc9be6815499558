-- Caps that need not be tried.
use Rattle.std.proofs.Common.{ℕ, ◌+◌, ◌-◌, ◌*◌, ◌<◌, ◌≤◌, ◌≡◌, ◌∙◌, List, refl, sym, subst, ap, arith, inl, inr}
use Rattle.std.specs.Prelude.{ℤ, ◌≤ℤ◌, slice_index}
use Rattle.std.proofs.lemmas.Int.{ints}
use Rattle.std.proofs.lemmas.Bool.{cases_lt}
use Rattle.rail_specs.specs.declared.Narrow.{Narrow}
use Rattle.rail_specs.specs.Rules.{Rules, IsNarrowDrive}
use Rattle.rail_specs.specs.Ranges.{IsGreatestNarrowDrive, no_narrowing}
use Rattle.rule_parts.specs.Shaped.{IsShaped}
use Rattle.speed_envelopes.specs.Narrowing.{IsNarrowerThan, capped}
use Rattle.speed_envelopes.specs.Closure.{NarrowingsNest, DriveIsNarrowDrive}
use Rattle.phase_composer.specs.Family.{IsLeastCap}
use Rattle.phase_composer.specs.Best.{IsTimely, NoneOnTimeUnder, Beats, BeatsTens}
use Rattle.phase_composer.proofs.FamilyLemmas.{none-nests, beats-none, beats-lower, beats-above, under-cap, cap-narrower, all-within}

-- the greatest drive is the greatest under each cap that is at least its fastest speed
pub timely-under : (r : Rules) (greatest : List ℕ) (fastest cap : ℕ) → DriveIsNarrowDrive → IsShaped r → IsTimely r no_narrowing greatest
    → ((k : ℕ) → slice_index greatest k ≤ fastest) → fastest ≤ cap → IsTimely r (capped cap) greatest
timely-under r greatest fastest cap law s g most l = record {
  greatest = record {
    drive = under-cap r no_narrowing (capped cap) greatest g.greatest.drive refl refl (λ k. omega (arith, most k));
    above = λ d e k. g.greatest.above d (law r d s e.drive) k;
  };
  on_time = g.on_time;
}

-- so no cap above that has another
pub tens-start : (cost : ℤ → ℤ) (r : Rules) (greatest : List ℕ) (fastest tens : ℕ) (total : ℤ) → DriveIsNarrowDrive → IsShaped r → IsGreatestNarrowDrive r no_narrowing greatest
    → ((k : ℕ) → slice_index greatest k ≤ fastest) → fastest ≤ 12000 → fastest ≤ 10 * tens → Beats cost r no_narrowing total → BeatsTens cost r tens total
tens-start cost r greatest fastest tens total law s g most small l h t a b =
    beats-above cost r (capped (10 * t)) no_narrowing total fastest refl refl (omega arith) small (all-within r greatest fastest law s g most) h

pub tens-lower : (cost : ℤ → ℤ) (r : Rules) (tens : ℕ) (total less : ℤ) → less ≤ℤ total → BeatsTens cost r tens total → BeatsTens cost r tens less
tens-lower cost r tens total less l h t a b = beats-lower cost r (capped (10 * t)) total less l (h t a b)

-- one more cap was tried
pub tens-more : (cost : ℤ → ℤ) (r : Rules) (tens : ℕ) (total less : ℤ) → less ≤ℤ total → BeatsTens cost r tens total → Beats cost r (capped (10 * (tens - 1))) less
    → BeatsTens cost r (tens - 1) less
tens-more cost r tens total less l h here t a b = elim (cases_lt t tens) [
  | inl under ↦ (let e : t ≡ tens - 1 = omega arith in rw e here)
  | inr over ↦ beats-lower cost r (capped (10 * t)) total less l (h t over b)
]

-- where a cap is late, so is each lower one
pub tens-none : (cost : ℤ → ℤ) (r : Rules) (tens : ℕ) (total less : ℤ) → NarrowingsNest → less ≤ℤ total → BeatsTens cost r tens total
    → NoneOnTimeUnder r (capped (10 * (tens - 1))) → BeatsTens cost r 1 less
tens-none cost r tens total less nest l h none t a b = elim (cases_lt t tens) [
  | inl under ↦ beats-none cost r (capped (10 * t)) less
      (none-nests r (capped (10 * t)) (capped (10 * (tens - 1))) nest (cap-narrower (10 * t) (10 * (tens - 1)) (omega arith)) none)
  | inr over ↦ beats-lower cost r (capped (10 * t)) total less l (h t over b)
]

-- the least cap on time is the one above the last that is late
pub least-beats : (cost : ℤ → ℤ) (r : Rules) (late : ℕ) (n : Narrow) (d : List ℕ) (total : ℤ) → n ≡ capped n.cap → IsTimely r n d → late < n.cap → n.cap ≤ late + 1
    → ((c : ℕ) → 1 ≤ c → c ≤ late → NoneOnTimeUnder r (capped c)) → Beats cost r n total → (cap : ℕ) → IsLeastCap r cap → Beats cost r (capped cap) total
least-beats cost r late n d total e timely lt le none beats cap l =
    let here = subst (λ (m : Narrow). IsGreatestNarrowDrive r m d) e timely.greatest in
    let most : cap ≤ n.cap = l.least n.cap (omega arith) (d, here, timely.on_time) in
    let least : late < cap = elim (cases_lt late cap) [
      | inl above ↦ above
      | inr below ↦ absurd (none cap l.some below l.on_time.0 l.on_time.1.drive l.on_time.2)
    ] in
    let same : cap ≡ n.cap = omega arith in
    rw same (subst (λ (m : Narrow). Beats cost r m total) e beats)
