-- What a loop over a box's offers keeps.
use Rattle.std.proofs.Common.{◌≡◌, ◌≤◌, ◌+◌, ◌∷◌, ◌++◌, ◌∙◌, ℕ, List, [], length, Option, Some, None, refl, sym, ap, arith, append_assoc}
use Rattle.std.specs.Prelude.{ℤ, ◌≤ℤ◌}
use Rattle.std.proofs.lemmas.List.{append-nil, length-append}
use Rattle.std.proofs.lemmas.Int.{ints}
use Rattle.std.specs.List.{AllByRecursion}
use Rattle.rail_specs.specs.Rules.{Rules}
use Rattle.rail_specs.specs.Cost.{cost_of}
use Rattle.proposers.specs.States.{AtMost, IsOnTimeDrive, State, Takes}

-- after some offers: those that were taken, in their order, and the best drive
pub record Asked (cost : ℤ → ℤ) (r : Rules) (first now : State) (start best : List ℕ) (n : ℕ) : Type 0 where
  pub seen : List (List ℕ)
  pub offers : first.offered ≡ seen ++ now.offered
  pub takes : now.taken ≡ first.taken ++ seen
  pub begins : now.begun ≡ first.begun
  pub count : n ≡ length seen
  pub kept : IsOnTimeDrive r best
  pub no_worse : cost_of cost r best ≤ℤ cost_of cost r start
  pub beats : AllByRecursion (AtMost cost r best) seen

pub at-most-trans : (cost : ℤ → ℤ) (r : Rules) (a b d : List ℕ) → cost_of cost r a ≤ℤ cost_of cost r b → AtMost cost r b d → AtMost cost r a d
at-most-trans cost r a b d h k t = omega (arith, ints, k t)

all-more : (cost : ℤ → ℤ) (r : Rules) (a b : List ℕ) (seen : List (List ℕ)) (d : List ℕ) → cost_of cost r b ≤ℤ cost_of cost r a → AllByRecursion (AtMost cost r a) seen
    → AtMost cost r b d → AllByRecursion (AtMost cost r b) (seen ++ d ∷ [])
all-more cost r a b [] d h all k = (k, tt)
all-more cost r a b (s ∷ seen) d h all k = (at-most-trans cost r b a s h all.0, all-more cost r a b seen d h all.1 k)

pub asked-start : (cost : ℤ → ℤ) (r : Rules) (s : State) (best : List ℕ) → IsOnTimeDrive r best → Asked cost r s s best best 0
asked-start cost r s best k = record {
  seen = [];
  offers = refl;
  takes = sym (append-nil s.taken);
  begins = refl;
  count = refl;
  kept = k;
  no_worse = omega (arith, ints);
  beats = tt;
}

pub asked-more : (cost : ℤ → ℤ) (r : Rules) (first a b : State) (start best next d : List ℕ) (n : ℕ) → Asked cost r first a start best n → Takes (Some d) a b
    → IsOnTimeDrive r next → cost_of cost r next ≤ℤ cost_of cost r best → AtMost cost r next d → Asked cost r first b start next (n + 1)
asked-more cost r first a b start best next d n m t kept h k = record {
  seen = m.seen ++ d ∷ [];
  offers = m.offers ∙ ap (λ xs. m.seen ++ xs) t.0 ∙ sym (append_assoc m.seen (d ∷ []) b.offered);
  takes = t.1 ∙ ap (λ xs. xs ++ d ∷ []) m.takes ∙ append_assoc first.taken m.seen (d ∷ []);
  begins = t.2 ∙ m.begins;
  count = let l = length-append m.seen (d ∷ []) in omega (arith, m.count);
  kept = kept;
  no_worse = let s = m.no_worse in omega (arith, ints);
  beats = all-more cost r best next m.seen d h m.beats k;
}

-- offers that are taken leave as many in all
pub asked-room : (cost : ℤ → ℤ) (r : Rules) (first now : State) (start best : List ℕ) (n : ℕ) → Asked cost r first now start best n
    → length first.offered + length first.taken ≤ 4096 → length now.offered + length now.taken ≤ 4096
asked-room cost r first now start best n m h =
    let a = ap length m.offers in
    let b = ap length m.takes in
    let c = length-append m.seen now.offered in
    let d = length-append first.taken m.seen in
    omega arith
