-- Lists of states.
use Rattle.std.proofs.Common.{ℕ, zero, suc, ◌≡◌, ◌+◌, ◌<◌, ◌∷◌, ◌∙◌, List, [], ◌++◌, Bool, true, false, zero-add, ◌-◌, refl, inl, inr, sym, ap, map, filter, length, get_or, drop, take, drop-cons, add-one, arith, set}
use Rattle.std.proofs.lemmas.List.{take_more, map-append, get_or_push, length-append, append-nil}
use Rattle.std.proofs.lemmas.List.FromFn.{filter_of_map_range_with_len_more, map-range_with_len_more}
use Rattle.std.specs.List.{range_with_len}
use Rattle.std.proofs.lemmas.Bool.{cases_lt}
use Rattle.std.proofs.Math.ListN.{get_or-append}

-- what is left of a list's images is the images of what is left
map-filter : {A B : Type 0} (f : A → B) (p : B → Bool) (xs : List A) → map f (filter (λ x. p (f x)) xs) ≡ filter p (map f xs)
map-filter f p [] = refl
map-filter f p (x ∷ xs) = by (p (f x)) refl (map-filter f p xs)
  where
    by : (b : Bool) → p (f x) ≡ b → map f (filter (λ x. p (f x)) xs) ≡ filter p (map f xs) → map f (filter (λ x. p (f x)) (x ∷ xs)) ≡ filter p (map f (x ∷ xs))
    by true e h = rw (e, h) refl
    by false e h = rw (e, h) refl

pub map-filtered : {A B : Type 0} (f : A → B) (p : B → Bool) (xs ys : List A) → ys ≡ filter (λ x. p (f x)) xs → map f ys ≡ filter p (map f xs)
map-filtered f p xs ys e = ap (map f) e ∙ map-filter f p xs

pub map-set : {A B : Type 0} (f : A → B) (xs : List A) (i : ℕ) (x : A) → map f (set xs i x) ≡ set (map f xs) i (f x)
map-set f [] i x = refl
map-set f (y ∷ xs) zero x = refl
map-set f (y ∷ xs) (suc i) x = ap (λ ys. f y ∷ ys) (map-set f xs i x)

pub map-get : {A B : Type 0} (f : A → B) (xs : List A) (i : ℕ) (x : A) (d : B) → i < length xs → x ≡ get_or xs i x → get_or (map f xs) i d ≡ f x
map-get f [] i x d h e = absurd (omega arith)
map-get f (y ∷ xs) zero x d h e = ap f (sym e)
map-get f (y ∷ xs) (suc i) x d h e = map-get f xs i x d (omega arith) e

pub map-length : {A B : Type 0} (f : A → B) (xs : List A) → length (map f xs) ≡ length xs
map-length f [] = refl
map-length f (x ∷ xs) = ap (λ n. suc n) (map-length f xs)

-- ---- a list of which some are taken

-- the first that is left
pub map-drop : {B : Type 0} (f : ℕ → B) (xs : List ℕ) (i : ℕ) → i < length xs → map f (drop i xs) ≡ f (get_or xs i 0) ∷ map f (drop (i + 1) xs)
map-drop f xs i h = rw (add-one, drop-cons xs i 0) refl

-- it joins those that were taken
pub map-take : {B : Type 0} (f : ℕ → B) (xs : List ℕ) (i : ℕ) → i < length xs → map f (take (i + 1) xs) ≡ map f (take i xs) ++ f (get_or xs i 0) ∷ []
map-take f xs i h = ap (map f) (take_more xs i 0 h) ∙ map-append f (take i xs) (get_or xs i 0 ∷ [])

-- ---- points with a speed of at least 2

abbrev pub Below : ℕ → List ℕ → Type 0
Below n xs = (i : ℕ) → i < length xs → get_or xs i 0 < n

pub below-push : (n : ℕ) (xs : List ℕ) (x : ℕ) → Below n xs → x < n → Below n (xs ++ x ∷ [])
below-push n xs x h l i m = elim (cases_lt i (length xs)) [
  | inl less ↦ rw (get_or-append xs (x ∷ []) 0 i less) (h i less)
  | inr more ↦ (let e : length xs ≡ i = omega (arith, length-append xs (x ∷ [])) in rw (get_or_push xs x 0 i e) l)
]

abbrev pub from_one : (ℕ → Bool) → ℕ → List ℕ
from_one p n = filter p (map (λ i. i + 1) (range_with_len 0 n))

pub points-more : (p : ℕ → Bool) (xs : List ℕ) (n : ℕ) → xs ≡ from_one p n → p (n + 1) ≡ true → xs ++ (n + 1) ∷ [] ≡ from_one p (n + 1)
points-more p xs n e t = rw (filter_of_map_range_with_len_more p (λ i. i + 1) 0 n n (zero-add n), t) (ap (λ ys. ys ++ (n + 1) ∷ []) e)

pub points-same : (p : ℕ → Bool) (xs : List ℕ) (n : ℕ) → xs ≡ from_one p n → p (n + 1) ≡ false → xs ≡ from_one p (n + 1)
points-same p xs n e t = rw (filter_of_map_range_with_len_more p (λ i. i + 1) 0 n n (zero-add n), t) (e ∙ sym (append-nil _))

-- ---- the images of numbers in a row

-- one more image
pub images-more : {B : Type 0} (f : ℕ → B) (xs : List B) (n : ℕ) (x : B) → xs ≡ map f (range_with_len 0 n) → x ≡ f n
    → xs ++ x ∷ [] ≡ map f (range_with_len 0 (n + 1))
images-more f xs n x e at = rw (map-range_with_len_more f 0 n n (zero-add n)) (ap (λ ys. ys ++ x ∷ []) e ∙ ap (λ y. map f (range_with_len 0 n) ++ y ∷ []) at)

-- the first image of those from a up to b
pub images-first : {B : Type 0} (f : ℕ → B) (a b : ℕ) → a < b → map f (range_with_len a (b - a)) ≡ f a ∷ map f (range_with_len (a + 1) (b - (a + 1)))
images-first f a b h = let e : b - a ≡ suc (b - (a + 1)) = omega arith in rw e refl

-- what stands at a place of a list, whatever stands past its end
pub get-any : (xs : List ℕ) (i x : ℕ) → i < length xs → x ≡ get_or xs i x → x ≡ get_or xs i 0
get-any [] i x h e = absurd (omega arith)
get-any (y ∷ xs) zero x h e = e
get-any (y ∷ xs) (suc i) x h e = get-any xs i x (omega arith) e
