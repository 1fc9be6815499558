-- Drives that coast, and which of them need not be tried.
use Rattle.std.proofs.Common.{ℕ, ◌+◌, ◌-◌, ◌*◌, ◌/◌, ◌<◌, ◌≤◌, ◌≡◌, ◌∙◌, List, length, Option, Some, None, refl, sym, subst, ap, arith, inl, inr, true, false, IfSome, IfNone}
use Rattle.std.specs.Prelude.{ℤ, ◌≤ℤ◌, slice_index}
use Rattle.std.proofs.lemmas.Bool.{cases_lt}
use Rattle.rail_specs.specs.declared.Narrow.{Narrow}
use Rattle.rail_specs.specs.Rules.{Rules, is_stop, IsNarrowDrive}
use Rattle.rail_specs.specs.Ranges.{IsGreatestNarrowDrive, no_narrowing}
use Rattle.rule_parts.specs.Shaped.{IsShaped}
use Rattle.speed_envelopes.specs.Narrowing.{IsNarrowerThan, IsNextStop, IsCoasting, capped}
use Rattle.speed_envelopes.specs.Closure.{NarrowingsNest, DriveIsNarrowDrive}
use Rattle.phase_composer.specs.declared.kept.Known.{Known}
use Rattle.phase_composer.specs.Best.{IsTimely, NoneOnTimeUnder, Beats, BeatsCoasting}
use Rattle.phase_composer.proofs.FamilyLemmas.{none-nests, beats-none, beats-lower, beats-above, all-within}

-- ---- the stretch of a drive that coasts

next-once : (r : Rules) (p q s : ℕ) → IsNextStop r p q → IsNextStop r p s → q ≡ s
next-once r p q s a b = elim (cases_lt q s) [
  | inl less ↦ (let e = b.first q a.after less in let f = a.stop in cc)
  | inr more ↦ elim (cases_lt s q) [
    | inl less ↦ (let e = a.first s b.after less in let f = b.stop in cc)
    | inr same ↦ omega arith
  ]
]

same-narrow : (n m : Narrow) → n.cap ≡ m.cap → n.idle_from ≡ m.idle_from → n.idle_to ≡ m.idle_to → n ≡ m
same-narrow n m a b c =
    let first : n ≡ record { cap = m.cap; idle_from = n.idle_from; idle_to = n.idle_to } = ap (λ (x : ℕ). let y : Narrow = record { cap = x; idle_from = n.idle_from; idle_to = n.idle_to } in y) a in
    let then : record { cap = m.cap; idle_from = n.idle_from; idle_to = n.idle_to } ≡ record { cap = m.cap; idle_from = m.idle_from; idle_to = n.idle_to } = ap (λ (x : ℕ). let y : Narrow = record { cap = m.cap; idle_from = x; idle_to = n.idle_to } in y) b in
    let last : record { cap = m.cap; idle_from = m.idle_from; idle_to = n.idle_to } ≡ m = ap (λ (x : ℕ). let y : Narrow = record { cap = m.cap; idle_from = m.idle_from; idle_to = x } in y) c in
    first ∙ then ∙ last

coasting-once : (r : Rules) (cap k : ℕ) (n m : Narrow) → IsCoasting r cap k n → IsCoasting r cap k m → n ≡ m
coasting-once r cap k n m a b =
    let from = a.from ∙ sym b.from in
    same-narrow n m (a.cap ∙ sym b.cap) from (next-once r m.idle_from n.idle_to m.idle_to (rw from at a.to) b.to)

pub coasting-under_cap : (r : Rules) (cap most k : ℕ) (n : Narrow) → cap ≤ most → IsCoasting r cap k n → IsNarrowerThan n (capped most)
coasting-under_cap r cap most k n l a = record { cap = omega (arith, a.cap); idle = λ i p q. absurd (omega arith) }

-- of two that coast to the same stop, the one that begins earlier is narrower
coasting-narrower : (r : Rules) (cap i k : ℕ) (n m : Narrow) → i ≤ k → IsCoasting r cap i n → IsCoasting r cap k m → n.idle_to ≡ m.idle_to → IsNarrowerThan n m
coasting-narrower r cap i k n m l a b e =
    let earlier : i * length r.steps ≤ k * length r.steps = grind arith in
    let from : n.idle_from ≤ m.idle_from = omega (arith, a.from, b.from) in
    record { cap = omega (arith, a.cap, b.cap); idle = λ j p q. (omega arith, omega arith) }

-- ---- one cap

-- what is known of the points below index k from which drives coast to this stop
pub record CoastLeft (r : Rules) (cap k stop : ℕ) (known : Option Known) : Type 0 where
  pub some : IfSome known (λ x. IsTimely r x.narrow x.drive × ((i : ℕ) (n : Narrow) → i < k → IsCoasting r cap i n → n.idle_to ≡ stop → IsNarrowerThan n x.narrow))
  pub none : IfNone known ((i : ℕ) (n : Narrow) → i < k → IsCoasting r cap i n → n.idle_to ≡ stop → NoneOnTimeUnder r n)

-- at first nothing is known, and no drive coasts to the first point
pub left-start : (r : Rules) (cap k : ℕ) → CoastLeft r cap k 0 None
left-start r cap k = record { some = tt; none = λ i n lt a e d h t. absurd (omega (arith, a.to.after)) }

-- at the same stop as before
pub left-same : (r : Rules) (cap k stop other : ℕ) (known same : Option Known) → same ≡ known → other ≡ stop → CoastLeft r cap k stop known → CoastLeft r cap k other same
left-same r cap k stop other known same e s h = rw (e, s) h

-- from the drive under the cap alone
pub left-anew : (r : Rules) (cap k stop : ℕ) (known : Option Known) (x : Known) → known ≡ Some x → x.narrow ≡ capped cap → IsTimely r x.narrow x.drive → CoastLeft r cap k stop known
left-anew r cap k stop known x e n t = rw e record {
  some = (t, λ i m l a f. rw n (coasting-under_cap r cap cap i m (omega arith) a));
  none = tt;
}

-- the next to try
pub left-narrower : (r : Rules) (cap k : ℕ) (narrow : Narrow) (known : Option Known) → CoastLeft r cap k narrow.idle_to known → 1 ≤ k → IsCoasting r cap (k - 1) narrow
    → IfSome known (λ x. IsNarrowerThan narrow x.narrow × IsTimely r x.narrow x.drive)
left-narrower r cap k narrow None h l a = tt
left-narrower r cap k narrow (Some x) h l a = (h.some.1 (k - 1) narrow (omega arith) a refl, h.some.0)

pub left-none : (r : Rules) (cap k : ℕ) (narrow : Narrow) (known : Option Known) → CoastLeft r cap k narrow.idle_to known → 1 ≤ k → IsCoasting r cap (k - 1) narrow
    → IfNone known (NoneOnTimeUnder r narrow)
left-none r cap k narrow None h l a = h.none (k - 1) narrow (omega arith) a refl
left-none r cap k narrow (Some x) h l a = tt

-- it was tried
pub left-more : (r : Rules) (cap k : ℕ) (narrow : Narrow) (found : Option Known) → NarrowingsNest → 1 ≤ k → IsCoasting r cap (k - 1) narrow
    → IfSome found (λ x. (x.narrow ≡ narrow) × IsTimely r narrow x.drive) → IfNone found (NoneOnTimeUnder r narrow) → CoastLeft r cap (k - 1) narrow.idle_to found
left-more r cap k narrow None nest l a some none = record {
  some = tt;
  none = λ i n lt b e. none-nests r n narrow nest (coasting-narrower r cap i (k - 1) n narrow (omega arith) b a e) none;
}
left-more r cap k narrow (Some x) nest l a some none = record {
  some = (rw some.0 some.1, λ i n lt b e. rw some.0 (coasting-narrower r cap i (k - 1) n narrow (omega arith) b a e));
  none = tt;
}

pub coasting-more : (cost : ℤ → ℤ) (r : Rules) (cap k : ℕ) (narrow : Narrow) (total less : ℤ) → less ≤ℤ total → 1 ≤ k → BeatsCoasting cost r cap k total
    → IsCoasting r cap (k - 1) narrow → Beats cost r narrow less → BeatsCoasting cost r cap (k - 1) less
coasting-more cost r cap k narrow total less l some h a here i n p q b = elim (cases_lt i k) [
  | inl under ↦ (let e : i ≡ k - 1 = omega arith in
      let same = coasting-once r cap (k - 1) n narrow (subst (λ (j : ℕ). IsCoasting r cap j n) e b) a in
      rw same here)
  | inr over ↦ beats-lower cost r n total less l (h i n over q b)
]

-- ---- all caps

-- every drive that coasts under a cap of 375 i, for i from `from` to `to`, costs at least this
abbrev pub BeatsBetween : (ℤ → ℤ) → Rules → ℕ → ℕ → ℤ → Type 0
BeatsBetween cost r from to total = (i : ℕ) → from ≤ i → i ≤ to → BeatsCoasting cost r (375 * i) 0 total

pub between-lower : (cost : ℤ → ℤ) (r : Rules) (from to : ℕ) (total less : ℤ) → less ≤ℤ total → BeatsBetween cost r from to total → BeatsBetween cost r from to less
between-lower cost r from to total less l h i a b k n p q c = beats-lower cost r n total less l (h i a b k n p q c)

pub between-more : (cost : ℤ → ℤ) (r : Rules) (j to : ℕ) (total less : ℤ) → less ≤ℤ total → BeatsBetween cost r (j + 1) to total → BeatsCoasting cost r (375 * j) 0 less
    → BeatsBetween cost r j to less
between-more cost r j to total less l h here i a b = elim (cases_lt j i) [
  | inl over ↦ (λ k n p q c. beats-lower cost r n total less l (h i (omega arith) b k n p q c))
  | inr under ↦ (let e : i ≡ j = omega arith in rw e here)
]

-- where a cap is late, so is every drive that coasts under it or under a lower one
pub between-none : (cost : ℤ → ℤ) (r : Rules) (j to : ℕ) (total less : ℤ) → NarrowingsNest → less ≤ℤ total → BeatsBetween cost r (j + 1) to total
    → NoneOnTimeUnder r (capped (375 * j)) → BeatsBetween cost r 0 to less
between-none cost r j to total less nest l h none i a b k n p q c = elim (cases_lt j i) [
  | inl over ↦ beats-lower cost r n total less l (h i (omega arith) b k n p q c)
  | inr under ↦ beats-none cost r n less (none-nests r n (capped (375 * j)) nest (coasting-under_cap r (375 * i) (375 * j) k n (omega arith) c) none)
]

-- no cap above the fastest speed of all has other drives
pub coasting-all : (cost : ℤ → ℤ) (r : Rules) (greatest : List ℕ) (fastest to : ℕ) (total : ℤ) → DriveIsNarrowDrive → IsShaped r → IsGreatestNarrowDrive r no_narrowing greatest
    → ((k : ℕ) → slice_index greatest k ≤ fastest) → fastest ≤ 375 * to → BeatsBetween cost r 1 to total → 1 ≤ to → (j : ℕ) → 1 ≤ j → BeatsCoasting cost r (375 * j) 0 total
coasting-all cost r greatest fastest to total law s g most l h some j a k n p q c = elim (cases_lt to j) [
  | inl over ↦ (let w : Narrow = record { cap = 375 * to; idle_from = n.idle_from; idle_to = n.idle_to } in
      beats-above cost r n w total fastest refl refl (omega (arith, c.cap)) l (all-within r greatest fastest law s g most)
      (h to some (omega arith) k w p q (record { cap = refl; from = c.from; to = c.to })))
  | inr under ↦ h j a under k n p q c
]
