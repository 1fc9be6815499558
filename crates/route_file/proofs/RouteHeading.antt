-- How the lines before the steps are read, one by one.
use Rattle.std.proofs.Common.{ℕ, zero, suc, ◌≡◌, ◌∙◌, Bool, List, [], ◌∷◌, Option, Some, None, Ok, Err, drop, refl, ap, ℤ}
use Rattle.std.specs.Prelude.{slice_get, option_and_then}
use Rattle.route_file.specs.declared.fault.RouteFault.{RouteFault}
use Rattle.rail_base.specs.Lines.{numbers_after, numbers_at}
use Rattle.route_file.specs.Route.{form_then_range, unless}

pub unless-ok : {X : Type 0} (fault : Option RouteFault) (x y : X) → Ok y ≡ unless fault x → (fault ≡ None) × (y ≡ x)
unless-ok None x y h = (refl, cc h)
unless-ok (Some f) x y h = absurd (cc h)

pub unless-err : {X : Type 0} (fault : Option RouteFault) (x : X) (e : RouteFault) → Err e ≡ unless fault x → fault ≡ Some e
unless-err None x e h = absurd (cc h)
unless-err (Some f) x e h = cc h

drop-next : {X : Type 0} (k : ℕ) (xs : List X) → drop 1 (drop k xs) ≡ drop (suc k) xs
drop-next zero xs = refl
drop-next (suc k) [] = refl
drop-next (suc k) (x ∷ xs) = drop-next k xs

slice_get-drop : {X : Type 0} (k : ℕ) (xs : List X) → slice_get (drop k xs) 0 ≡ slice_get xs k
slice_get-drop zero xs = refl
slice_get-drop (suc k) [] = refl
slice_get-drop (suc k) (x ∷ xs) = slice_get-drop k xs

-- one line more was taken
pub taken : (ls left rest : List (List ℕ)) (k : ℕ) → left ≡ drop k ls → rest ≡ drop 1 left → rest ≡ drop (suc k) ls
taken ls left rest k e f = f ∙ ap (λ (l : List (List ℕ)). drop 1 l) e ∙ drop-next k ls

-- the numbers of the line that comes next, after k lines
abbrev pub next_numbers : List (List ℕ) → ℕ → List ℕ → ℕ → Option (List ℤ)
next_numbers ls k word count = option_and_then (numbers_after word count) (slice_get ls k)

next_numbers-taken : (ls left : List (List ℕ)) (k : ℕ) (word : List ℕ) (count : ℕ) → left ≡ drop k ls → numbers_at left 1 word count ≡ next_numbers ls k word count
next_numbers-taken ls left k word count e =
    ap (λ (o : Option (List ℕ)). option_and_then (numbers_after word count) o) (ap (λ (l : List (List ℕ)). slice_get l 0) e ∙ slice_get-drop k ls)

pub line_good : {X : Type 0} (ls left : List (List ℕ)) (k : ℕ) (word : List ℕ) (count n : ℕ) (test : List ℤ → Bool) (f : Option (List ℤ) → X) (y : X) → left ≡ drop k ls →
    Ok y ≡ unless (form_then_range n (numbers_at left 1 word count) test) (f (numbers_at left 1 word count)) →
    (form_then_range n (next_numbers ls k word count) test ≡ None) × (y ≡ f (next_numbers ls k word count))
line_good ls left k word count n test f y e h =
    let g = rw (next_numbers-taken ls left k word count e) at h in
    unless-ok (form_then_range n (next_numbers ls k word count) test) (f (next_numbers ls k word count)) y g

pub line_bad : {X : Type 0} (ls left : List (List ℕ)) (k : ℕ) (word : List ℕ) (count n : ℕ) (test : List ℤ → Bool) (f : Option (List ℤ) → X) (fault : RouteFault) → left ≡ drop k ls →
    Err fault ≡ unless (form_then_range n (numbers_at left 1 word count) test) (f (numbers_at left 1 word count)) →
    form_then_range n (next_numbers ls k word count) test ≡ Some fault
line_bad ls left k word count n test f fault e h =
    let g = rw (next_numbers-taken ls left k word count e) at h in
    unless-err (form_then_range n (next_numbers ls k word count) test) (f (next_numbers ls k word count)) fault g
