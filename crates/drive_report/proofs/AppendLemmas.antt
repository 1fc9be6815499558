-- Texts that are appended piece by piece.
use Rattle.std.proofs.Common.{ℕ, ◌≡◌, ◌++◌, ◌∙◌, List, ap, append_assoc}

-- two pieces
pub appended_two : (o x y a b : List ℕ) → x ≡ o ++ a → y ≡ x ++ b → y ≡ o ++ (a ++ b)
appended_two o x y a b p q = q ∙ ap (λ (t : List ℕ). t ++ b) p ∙ simp append_assoc

-- three pieces
pub appended_three : (o x y z a b c : List ℕ) → x ≡ o ++ a → y ≡ x ++ b → z ≡ y ++ c → z ≡ o ++ (a ++ b ++ c)
appended_three o x y z a b c p q r = r ∙ ap (λ (t : List ℕ). t ++ c) (q ∙ ap (λ (t : List ℕ). t ++ b) p) ∙ simp append_assoc

-- five pieces
pub appended_five : (o u v x y z a b c d e : List ℕ) → u ≡ o ++ a → v ≡ u ++ b → x ≡ v ++ c → y ≡ x ++ d → z ≡ y ++ e
    → z ≡ o ++ (a ++ b ++ c ++ d ++ e)
appended_five o u v x y z a b c d e p q r s t =
    t ∙ ap (λ (w : List ℕ). w ++ e) (s ∙ ap (λ (w : List ℕ). w ++ d) (appended_three o u v x a b c p q r)) ∙ simp append_assoc

-- eight pieces
pub appended_eight : (o s t u v w x y z a b c d e f g h : List ℕ) → s ≡ o ++ a → t ≡ s ++ b → u ≡ t ++ c → v ≡ u ++ d → w ≡ v ++ e → x ≡ w ++ f → y ≡ x ++ g → z ≡ y ++ h
    → z ≡ o ++ (a ++ (b ++ (c ++ (d ++ (e ++ (f ++ (g ++ h)))))))
appended_eight o s t u v w x y z a b c d e f g h i j k l m n p q = rw (q, p, n, m, l, k, j, i) (simp append_assoc)
