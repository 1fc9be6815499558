-- What a loop over boxes keeps.
use Rattle.std.proofs.Common.{◌≡◌, ◌≢◌, ◌≤◌, ◌<◌, ◌+◌, ◌∷◌, ◌∙◌, ℕ, List, [], length, get_or, refl, sym, ap, arith, map, set}
use Rattle.std.proofs.lemmas.List.{length-set, get_or-set_same, get_or-set_other}
use borrow.Author.Count.{below_more}
use Rattle.std.specs.Prelude.{ℤ, ◌≤ℤ◌}
use Rattle.std.proofs.lemmas.Int.{ints}
use Rattle.std.specs.List.{AllByRecursion}
use Rattle.rail_specs.specs.Rules.{Rules}
use Rattle.rail_specs.specs.Cost.{cost_of}
use Rattle.proposers.specs.States.{AtMost, Improves, IsOnTimeDrive, State, no_state}
use Rattle.proposers.proofs.Asking.{at-most-trans}
use Rattle.proposers.proofs.Lists.{map-set, map-get, map-length}

-- the boxes below i were begun and asked
pub record Improving (cost : ℤ → ℤ) (r : Rules) (olds news : List State) (start best : List ℕ) (i : ℕ) : Type 0 where
  pub len : length news ≡ length olds
  pub done : (k : ℕ) → k < i → Improves cost r best (get_or olds k no_state) (get_or news k no_state)
  pub rest : (k : ℕ) → i ≤ k → get_or news k no_state ≡ get_or olds k no_state
  pub kept : IsOnTimeDrive r best
  pub no_worse : cost_of cost r best ≤ℤ cost_of cost r start

all-below : (cost : ℤ → ℤ) (r : Rules) (a b : List ℕ) (seen : List (List ℕ)) → cost_of cost r b ≤ℤ cost_of cost r a → AllByRecursion (AtMost cost r a) seen
    → AllByRecursion (AtMost cost r b) seen
all-below cost r a b [] h all = tt
all-below cost r a b (s ∷ seen) h all = (at-most-trans cost r b a s h all.0, all-below cost r a b seen h all.1)

improves-below : (cost : ℤ → ℤ) (r : Rules) (a b : List ℕ) (old new : State) → cost_of cost r b ≤ℤ cost_of cost r a → Improves cost r a old new → Improves cost r b old new
improves-below cost r a b old new h m = record { offered = m.offered; begun = m.begun; cheapest = all-below cost r a b new.taken h m.cheapest }

pub improving-more : (cost : ℤ → ℤ) (r : Rules) (olds news : List State) (start best next : List ℕ) (i : ℕ) (s : State) → Improving cost r olds news start best i → i < length olds
    → Improves cost r next (get_or news i no_state) s → IsOnTimeDrive r next → cost_of cost r next ≤ℤ cost_of cost r best
    → Improving cost r olds (set news i s) start next (i + 1)
improving-more cost r olds news start best next i s m h now kept below = record {
  len = length-set news i s ∙ m.len;
  done = below_more _ _
      (λ k lt. let ne : k ≢ i = omega arith in rw get_or-set_other (improves-below cost r best next (get_or olds k no_state) (get_or news k no_state) below (m.done k lt)))
      (let lt : i < length news = omega (arith, m.len) in rw get_or-set_same (rw (m.rest i (omega arith)) at now));
  rest = λ k le. let ne : k ≢ i = omega arith in rw get_or-set_other (m.rest k (omega arith));
  kept = kept;
  no_worse = let s = m.no_worse in omega (arith, ints);
}

-- one more box was asked, which was `old` and is x
pub improving-box : {A : Type 0} (st : A → State) (cost : ℤ → ℤ) (r : Rules) (olds news : List A) (start best next : List ℕ) (i : ℕ) (x old : A)
    → Improving cost r (map st olds) (map st news) start best i → i < length olds → old ≡ get_or news i old → Improves cost r next (st old) (st x)
    → IsOnTimeDrive r next → cost_of cost r next ≤ℤ cost_of cost r best → Improving cost r (map st olds) (map st (set news i x)) start next (i + 1)
improving-box st cost r olds news start best next i x old m h at now kept below =
    let n = m.len in
    let a = map-length st olds in
    let b = map-length st news in
    rw (map-set st news i x) (improving-more cost r (map st olds) (map st news) start best next i (st x) m (omega arith)
    (rw (map-get st news i old no_state (omega arith) at) now) kept below)
