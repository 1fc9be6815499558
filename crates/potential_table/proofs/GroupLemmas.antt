-- Groups of ways, and the least over some of them.
use Rattle.std.proofs.Common.{ℕ, ◌≡◌, ◌<◌, ◌≤◌, ◌+◌, ◌-◌, ◌^◌, Option, Some, None, refl, sym, subst, arith, inl, inr, true, false, pos}
use Rattle.std.specs.Prelude.{ℤ, ◌≤ℤ◌, IfSome, int_le, cond, Bool, min}
use Rattle.std.proofs.lemmas.Int.{ints}
use Rattle.std.proofs.lemmas.Bool.{cases_lt}
use Rattle.bound_specs.specs.declared.Cell.{Cell}
use Rattle.bound_specs.specs.Cells.{IsCell}
use Rattle.bound_specs.specs.Chains.{plus, IsAtMost, AreCellCosts}
use Rattle.chain_duality.proofs.Orders.{at_most-refl, at_most-trans, plus_rises}
use Rattle.potential_table.specs.declared.ways.Way.{Way}
use Rattle.potential_table.specs.Filling.{lesser, sum_found, IsLeastOf}
use Rattle.potential_table.specs.Ways.{IsUsable, StandsFor, IsLesserOf}
use Rattle.potential_table.proofs.LeastLemmas.{lesser_first, lesser_second, lesser_one}

-- what is by a way that stands for another is at most what is by the other
pub stands_below : (n : ℕ) (real : ℕ → ℕ → ℕ → Option ℤ) (low : ℕ → Cell → Cell → Option ℤ) → AreCellCosts n real low
    → (i : ℕ) (a : Cell) (w v : Way) → i < n → IsCell a → IsUsable w → IsUsable v → StandsFor w v
    → IsAtMost (plus (low i a w.cell) (Some w.beyond)) (plus (low i a v.cell) (Some v.beyond))
stands_below n real low laws i a w v lt ca uw uv s =
    plus_rises (low i a w.cell) (low i a v.cell) (Some w.beyond) (Some v.beyond)
    (laws.nested i a w.cell a v.cell lt ca uw.0 ca uv.0 (omega arith, omega arith) s.cell) s.beyond

-- a greater number stands for no less
found_by : (p q m : ℤ) (a b : Bool) → int_le m p ≡ a → int_le m q ≡ b → p ≤ℤ q → IsAtMost (cond a None (Some p)) (cond b None (Some q))
found_by p q m a true e f h = tt
found_by p q m false false e f h = h
found_by p q m true false e f h = absurd (grind (arith, ints, e, f, h))

pub found_rises : (p q : ℤ) → p ≤ℤ q → IsAtMost (sum_found p) (sum_found q)
found_rises p q h = found_by p q (pos (2 ^ 127 - 1)) (int_le (pos (2 ^ 127 - 1)) p) (int_le (pos (2 ^ 127 - 1)) q) refl refl h

-- v is one of these n numbers, where it is there
abbrev IsOne : (ℕ → Option ℤ) → ℕ → Option ℤ → Type 0
IsOne f n v = IfSome v (λ p. (c : ℕ) × (c < n) × (f c ≡ Some p))

one_at : (f : ℕ → Option ℤ) (n j : ℕ) (v : Option ℤ) → j < n → f j ≡ v → IsOne f n v
one_at f n j None lt e = tt
one_at f n j (Some p) lt e = (j, lt, e)

module _ (f : ℕ → Option ℤ) (n : ℕ) (begun : Option ℤ) (from : ℕ) where
  -- before the first number
  pub lesser_begun : (to : ℕ) → to ≤ from → IsOne f n begun → IsLesserOf f n begun from to begun
  lesser_begun to le one = record { one = one; no_more = at_most-refl begun; below = λ c l m. absurd (omega (arith, l, m, le)) }

  -- where what stands for all of them gives nothing less
  pub lesser_passed : (to : ℕ) (by : Option ℤ) → IsOne f n begun → IsAtMost begun by → ((c : ℕ) → from ≤ c → c < to → IsAtMost by (f c))
      → IsLesserOf f n begun from to begun
  lesser_passed to by one h each = record {
    one = one;
    no_more = at_most-refl begun;
    below = λ c l m. at_most-trans begun by (f c) h (each c l m);
  }

  -- the lesser of them so far and the next number
  pub lesser_more : (j : ℕ) (v w : Option ℤ) → j < n → IsLesserOf f n begun from j v → w ≡ lesser v (f j) → IsLesserOf f n begun from (j + 1) w
  lesser_more j v w lt h e = subst (IsLesserOf f n begun from (j + 1)) (sym e) record {
    one = elim (lesser_one v (f j)) [
      | inl first ↦ subst (IsOne f n) (sym first) h.one
      | inr second ↦ subst (IsOne f n) (sym second) (one_at f n j (f j) lt refl)
    ];
    no_more = at_most-trans (lesser v (f j)) v begun (lesser_first v (f j)) h.no_more;
    below = λ c l m. elim (cases_lt c j) [
      | inl before ↦ at_most-trans (lesser v (f j)) v (f c) (lesser_first v (f j)) (h.below c l before)
      | inr at ↦ let is : j ≡ c = omega (arith, m, at) in subst (λ k. IsAtMost (lesser v (f j)) (f k)) is (lesser_second v (f j))
    ];
  }

module _ (f : ℕ → Option ℤ) (n : ℕ) where
  -- before the first group
  pub none_lesser : (from : ℕ) → n ≤ from → IsLesserOf f n None from n None
  none_lesser from le = record { one = tt; no_more = tt; below = λ c l m. absurd (omega (arith, l, m, le)) }

  -- one group more, before those so far
  pub group_more : (from : ℕ) (v w : Option ℤ) → IsLesserOf f n None (from + 8) n v → IsLesserOf f n v from (min (from + 8) n) w
      → IsLesserOf f n None from n w
  group_more from v w h g = record {
    one = g.one;
    no_more = tt;
    below = λ c l m. elim (cases_lt c (from + 8)) [
      | inl here ↦ g.below c l (omega (arith, here, m))
      | inr behind ↦ at_most-trans w v (f c) g.no_more (h.below c behind m)
    ];
  }

  -- after all groups
  pub all_lesser : (from : ℕ) (v : Option ℤ) → from ≡ 0 → IsLesserOf f n None from n v → IsLeastOf f n v
  all_lesser from v is h = record { attained = h.one; below = λ c l. h.below c (omega (arith, is)) l }
