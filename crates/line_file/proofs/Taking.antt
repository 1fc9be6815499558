-- A list that is taken item by item.
use Rattle.std.proofs.Common.{◌≡◌, ◌<◌, ◌+◌, ◌++◌, ◌∷◌, ℕ, zero, suc, List, [], length, take, drop, refl, ap, arith, add-one}

-- the item at n was taken of those that were left
pub record Taken {A : Type 0} (all : List A) (n : ℕ) (x : A) (rest : List A) : Type 0 where
  pub within : n < length all
  pub taken : take (n + 1) all ≡ take n all ++ x ∷ []
  pub left : drop (n + 1) all ≡ rest

pub take-one : {A : Type 0} (all rest : List A) (n : ℕ) (x : A) → drop n all ≡ x ∷ rest → Taken all n x rest
take-one [] rest zero x e = cc e
take-one [] rest (suc n) x e = cc e
take-one (y ∷ ys) rest zero x e =
    let same : y ≡ x = cc e in
    let more : ys ≡ rest = cc e in
    record { within = omega arith; taken = rw same refl; left = more }
take-one (y ∷ ys) rest (suc n) x e =
    let t = take-one ys rest n x e in
    record {
      within = omega (arith, t.within);
      taken = rw add-one (ap (λ zs. y ∷ zs) (rw add-one at t.taken));
      left = rw add-one (rw add-one at t.left);
    }

-- no item is left
pub take-none : {A : Type 0} (all : List A) (n : ℕ) → drop n all ≡ [] → take n all ≡ all
take-none [] zero e = refl
take-none [] (suc n) e = refl
take-none (y ∷ ys) zero e = cc e
take-none (y ∷ ys) (suc n) e = ap (λ zs. y ∷ zs) (take-none ys n e)
