-- Texts that are appended piece by piece.
use Rattle.std.proofs.Common.{ℕ, ◌≡◌, ◌+◌, ◌++◌, ◌∙◌, List, ap, append_assoc}
use Rattle.sheet_parts.specs.Fill.{joined_below}
use Rattle.sheet_parts.proofs.FillLemmas.{joined_below-next}

-- eight pieces
pub appended_eight : (o s t u v w x y z a b c d e f g h : List ℕ) → s ≡ o ++ a → t ≡ s ++ b → u ≡ t ++ c → v ≡ u ++ d → w ≡ v ++ e → x ≡ w ++ f → y ≡ x ++ g → z ≡ y ++ h
    → z ≡ o ++ (a ++ (b ++ (c ++ (d ++ (e ++ (f ++ (g ++ h)))))))
appended_eight o s t u v w x y z a b c d e f g h i j k l m n p q = rw (q, p, n, m, l, k, j, i) (simp append_assoc)

-- one more of the texts that are joined
pub joined_more : (f : ℕ → List ℕ) (o x y a : List ℕ) (n : ℕ) → x ≡ o ++ joined_below f n → y ≡ x ++ a → a ≡ f n → y ≡ o ++ joined_below f (n + 1)
joined_more f o x y a n p q e = rw (joined_below-next f n) (q ∙ ap (λ (t : List ℕ). t ++ a) p ∙ append_assoc o (joined_below f n) a ∙ ap (λ (t : List ℕ). o ++ (joined_below f n ++ t)) e)
