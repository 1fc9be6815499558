-- What loops over reads and writes keep of the bytes that a stream knows.
use Rattle.std.proofs.Common.{◌≡◌, ◌≤◌, ◌+◌, ◌-◌, ◌++◌, ◌∙◌, ℕ, List, Option, Some, None, length, take, drop, ap, arith, append_assoc}
use Rattle.std.specs.Prelude.{⊤}
use Rattle.std.specs.Io.KnownBytes.{Appends}
use Rattle.std.proofs.lemmas.List.{length-drop, take_all}
use Rattle.std.proofs.Math.Seq.{take-add}

-- what was taken before and what a reader had left then are what is taken now and what it has left now
abbrev pub Continues : Option (List ℕ) → List ℕ → Option (List ℕ) → List ℕ → Type 0
Continues None before left now = ⊤
Continues (Some xs) before None now = ⊥
Continues (Some xs) before (Some ys) now = before ++ xs ≡ now ++ ys

appends-more : (a b c : Option (List ℕ)) (xs ys : List ℕ) → Appends a b xs → Appends b c ys → Appends a c (xs ++ ys)
appends-more None b c xs ys p q = tt
appends-more (Some a) None c xs ys p q = absurd p
appends-more (Some a) (Some b) None xs ys p q = absurd q
appends-more (Some a) (Some b) (Some c) xs ys p q = q ∙ ap (λ zs. zs ++ ys) p ∙ append_assoc a xs ys

-- one more write of what is left
pub write-step : (a b c : Option (List ℕ)) (text : List ℕ) (at n : ℕ) → at ≤ length text
    → n ≤ length (take (length text - at) (drop at text))
    → Appends a b (take at text) → Appends b c (take n (take (length text - at) (drop at text)))
    → (at + n ≤ length text) × Appends a c (take (at + n) text)
write-step a b c text at n h m p q =
    let size = length-drop at text in
    let whole : take (length text - at) (drop at text) ≡ drop at text = take_all (length text - at) (drop at text) (omega arith) in
    let short = rw whole at m in
    let more = rw whole at q in
    (omega arith, rw (take-add at n text) (appends-more a b c (take at text) (take n (drop at text)) p more))
