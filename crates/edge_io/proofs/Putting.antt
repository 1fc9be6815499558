-- What a loop over puts keeps.
use Rattle.std.proofs.Common.{◌≡◌, ◌≤◌, ◌+◌, ◌-◌, ◌++◌, ◌∙◌, ℕ, List, Option, Some, None, length, take, drop, sym, ap, arith, append_assoc}
use Rattle.std.proofs.lemmas.List.{append-nil, length-drop, take_all}
use Rattle.std.proofs.Math.Seq.{take-add}
use Rattle.edge_io.specs.Faults.{Appends, Puts}

pub appends-none : (a : Option (List ℕ)) (xs : List ℕ) → Appends a (take 0 xs) a
appends-none None xs = tt
appends-none (Some a) xs = sym (append-nil a)

pub appends-more : (a b c : Option (List ℕ)) (xs ys : List ℕ) → Appends a xs b → Appends b ys c → Appends a (xs ++ ys) c
appends-more None None None xs ys p q = tt
appends-more None None (Some c) xs ys p q = q
appends-more None (Some b) c xs ys p q = absurd p
appends-more (Some a) None c xs ys p q = absurd p
appends-more (Some a) (Some b) None xs ys p q = q
appends-more (Some a) (Some b) (Some c) xs ys p q = q ∙ ap (λ zs. zs ++ ys) p ∙ append_assoc a xs ys

-- one more put of what is left
pub put-step : (old a b : Option (List ℕ)) (text : List ℕ) (at n : ℕ) → at ≤ length text
    → Appends old (take at text) a → Puts a (take (length text - at) (drop at text)) b n
    → (at + n ≤ length text) × Appends old (take (at + n) text) b
put-step old a b text at n h p q =
    let size = length-drop at text in
    let whole : take (length text - at) (drop at text) ≡ drop at text = take_all (length text - at) (drop at text) (omega arith) in
    let put = rw whole at q in
    (omega arith, rw (take-add at n text) (appends-more old a b (take at text) (take n (drop at text)) p put.2))
