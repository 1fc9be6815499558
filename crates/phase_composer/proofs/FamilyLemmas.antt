-- Greatest drives under narrowings, what they cost, and which of them need not be tried.
use Rattle.std.proofs.Common.{ℕ, ◌+◌, ◌*◌, ◌/◌, ◌<◌, ◌≤◌, ◌≡◌, ◌∙◌, List, length, get_or, refl, sym, subst, arith, inl, inr, true, false}
use Rattle.std.specs.Prelude.{ℤ, ◌≤ℤ◌, slice_index}
use Rattle.std.proofs.lemmas.Int.{ints}
use Rattle.std.proofs.lemmas.Bool.{cases_lt}
use Rattle.std.proofs.lemmas.List.{ext_get_or}
use Rattle.rail_specs.specs.declared.Narrow.{Narrow}
use Rattle.rail_specs.specs.Rules.{Rules, is_stop, IsNarrowDrive}
use Rattle.rail_specs.specs.Ranges.{IsGreatestNarrowDrive, NoNarrowDrive, no_narrowing}
use Rattle.rail_specs.specs.Times.{IsOnTimeUp}
use Rattle.rail_specs.specs.Cost.{cost_of}
use Rattle.rule_parts.specs.Shaped.{IsShaped}
use Rattle.speed_envelopes.specs.Narrowing.{IsNarrowerThan, capped, IsNextStop, IsCoasting}
use Rattle.speed_envelopes.specs.Closure.{NarrowingsNest, DriveIsNarrowDrive, GreatestIsOnTime}
use Rattle.phase_composer.specs.Family.{IsLeastCap, IsMember, of_tens, of_least, of_coasting}
use Rattle.phase_composer.specs.Best.{IsTimely, NoneOnTimeUnder, IsKeptDrive, IsBestOfFamily, Beats, BeatsTens, BeatsCoasting}

-- ---- greatest drives

pub greatest-unique : (r : Rules) (n : Narrow) (a b : List ℕ) → IsGreatestNarrowDrive r n a → IsGreatestNarrowDrive r n b → a ≡ b
greatest-unique r n a b p q =
    ext_get_or 0 a b (p.drive.drive.count ∙ sym q.drive.drive.count) (λ i l. omega (arith, p.above b q.drive i, q.above a p.drive i))

pub none-without_drive : (r : Rules) (n : Narrow) → NoNarrowDrive r n → NoneOnTimeUnder r n
none-without_drive r n h d e t = h d e

pub none-late : (r : Rules) (n : Narrow) (d : List ℕ) → GreatestIsOnTime → IsShaped r → IsGreatestNarrowDrive r n d → (IsOnTimeUp r d → ⊥) → NoneOnTimeUnder r n
none-late r n d law s g late e k t = late ((law r n d s g).0 (e, k, t))

pub none-nests : (r : Rules) (n w : Narrow) → NarrowingsNest → IsNarrowerThan n w → NoneOnTimeUnder r w → NoneOnTimeUnder r n
none-nests r n w nest lt h d e t = h d (nest r n w d lt e) t

-- ---- costs that are at most those of greatest drives

pub beats-none : (cost : ℤ → ℤ) (r : Rules) (n : Narrow) (total : ℤ) → NoneOnTimeUnder r n → Beats cost r n total
beats-none cost r n total h d g t = absurd (h d g.drive t)

pub beats-lower : (cost : ℤ → ℤ) (r : Rules) (n : Narrow) (total less : ℤ) → less ≤ℤ total → Beats cost r n total → Beats cost r n less
beats-lower cost r n total less l h d g t = omega (arith, ints, h d g t)

pub beats-greatest : (cost : ℤ → ℤ) (r : Rules) (n : Narrow) (a : List ℕ) (total : ℤ) → IsGreatestNarrowDrive r n a → total ≤ℤ cost_of cost r a → Beats cost r n total
beats-greatest cost r n a total g l d h t = subst (λ (e : List ℕ). total ≤ℤ cost_of cost r e) (greatest-unique r n a d g h) l

-- what every drive under a narrowing keeps changes none of its greatest drives
pub beats-same : (cost : ℤ → ℤ) (r : Rules) (n w : Narrow) (total : ℤ) → ((d : List ℕ) → IsNarrowDrive r n d → IsNarrowDrive r w d) → ((d : List ℕ) → IsNarrowDrive r w d → IsNarrowDrive r n d)
    → Beats cost r w total → Beats cost r n total
beats-same cost r n w total to from h d g t = h d (record { drive = to d g.drive; above = λ e k i. g.above e (from e k) i }) t

-- ---- caps

pub cap-narrower : (a b : ℕ) → a ≤ b → IsNarrowerThan (capped a) (capped b)
cap-narrower a b l = record { cap = l; idle = λ i p q. absurd (omega arith) }

-- a drive whose speeds are at most a cap is a drive under it
pub under-cap : (r : Rules) (n w : Narrow) (d : List ℕ) → IsNarrowDrive r n d → n.idle_from ≡ w.idle_from → n.idle_to ≡ w.idle_to → ((k : ℕ) → slice_index d k ≤ w.cap) → IsNarrowDrive r w d
under-cap r n w d h from to c = record { drive = h.drive; cap = c; idle = λ i p q l. h.idle i (omega arith) (omega arith) l }

-- narrowings of other caps with the same steps without traction, where no drive is above either cap
pub beats-above : (cost : ℤ → ℤ) (r : Rules) (n w : Narrow) (total : ℤ) (fastest : ℕ) → n.idle_from ≡ w.idle_from → n.idle_to ≡ w.idle_to → fastest ≤ n.cap → fastest ≤ w.cap
    → ((m : Narrow) (d : List ℕ) → IsNarrowDrive r m d → (k : ℕ) → slice_index d k ≤ fastest) → Beats cost r w total → Beats cost r n total
beats-above cost r n w total fastest from to a b most h =
    beats-same cost r n w total (λ d e. under-cap r n w d e from to (λ k. omega (arith, most n d e k))) (λ d e. under-cap r w n d e (sym from) (sym to) (λ k. omega (arith, most w d e k))) h

-- no drive is faster than the greatest
pub all-within : (r : Rules) (greatest : List ℕ) (fastest : ℕ) → DriveIsNarrowDrive → IsShaped r → IsGreatestNarrowDrive r no_narrowing greatest
    → ((k : ℕ) → slice_index greatest k ≤ fastest) → ((m : Narrow) (d : List ℕ) → IsNarrowDrive r m d → (k : ℕ) → slice_index d k ≤ fastest)
all-within r greatest fastest law s g most m d e k = omega (arith, g.above d (law r d s e.drive) k, most k)

-- ---- the best so far

-- a drive that was judged costs at least the best
pub beats-judged : (cost : ℤ → ℤ) (r : Rules) (n : Narrow) (d k : List ℕ) (total least : ℤ) → IsGreatestNarrowDrive r n d → k ≡ d → IsKeptDrive cost r k total → least ≤ℤ total
    → Beats cost r n least
beats-judged cost r n d k total least g e h l =
    beats-greatest cost r n d least g (subst (λ (x : List ℕ). least ≤ℤ cost_of cost r x) e (subst (λ (t : ℤ). least ≤ℤ t) h.costs l))

pub kept-copied : (cost : ℤ → ℤ) (r : Rules) (a b : List ℕ) (t u : ℤ) → IsKeptDrive cost r a t → b ≡ a → u ≡ t → IsKeptDrive cost r b u
kept-copied cost r a b t u h e f = rw (e, f) h

-- ---- the whole family

pub best-of_family : (cost : ℤ → ℤ) (r : Rules) (d : List ℕ) (total : ℤ) → IsKeptDrive cost r d total → BeatsTens cost r 1 total
    → ((cap : ℕ) → IsLeastCap r cap → Beats cost r (capped cap) total) → ((j : ℕ) → 1 ≤ j → j ≤ 32 → BeatsCoasting cost r (375 * j) 0 total)
    → IsBestOfFamily cost r d
best-of_family cost r d total kept tens least coasting = record {
  drive = kept.drive;
  on_time = kept.on_time;
  best = λ m member t. subst (λ (x : ℤ). x ≤ℤ cost_of cost r m) kept.costs (by m member t);
}
  where
    by : (m : List ℕ) → IsMember r m → IsOnTimeUp r m → total ≤ℤ cost_of cost r m
    by m (of_tens n a b g) t = tens n a b m g t
    by m (of_least cap l g) t = least cap l m g t
    by m (of_coasting j k n a b c h g) t = coasting j a b k n (omega arith) c h m g t
