-- The test for a blank record, by its first field and its length.
use Rattle.std.proofs.Common.{◌≡◌, ◌∷◌, ℕ, List, [], length, Some, None, true, false, refl, ap, arith}
use Rattle.csv.specs.Records.{field_at}
use Rattle.rail_base.specs.Numbers.{trimmed}
use Rattle.line_file.specs.Rows.{is_blank, is_empty}

pub blank-none : (fields : List (List ℕ)) → None ≡ field_at fields 0 → true ≡ is_blank fields
unfolding field_at
blank-none [] e = refl
blank-none (f ∷ fs) e = cc e

pub blank-one : (fields : List (List ℕ)) (first : List ℕ) → Some first ≡ field_at fields 0 → length fields ≡ 1 → is_empty (trimmed first) ≡ is_blank fields
unfolding field_at
blank-one [] first e n = cc e
blank-one (f ∷ []) first e n = let same : first ≡ f = cc e in ap (λ (f : List ℕ). is_empty (trimmed f)) same
blank-one (f ∷ g ∷ fs) first e n = absurd (omega arith)

pub blank-many : (fields : List (List ℕ)) (first : List ℕ) → Some first ≡ field_at fields 0 → (length fields ≡ 1 → ⊥) → false ≡ is_blank fields
unfolding field_at
blank-many [] first e n = cc e
blank-many (f ∷ []) first e n = absurd (n refl)
blank-many (f ∷ g ∷ fs) first e n = refl
