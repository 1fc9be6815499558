-- Lines that are written piece by piece.
use Rattle.std.proofs.Common.{◌≡◌, ◌≤◌, ◌∷◌, ◌++◌, ℕ, ℤ, pos, List, [], refl, ap, length, map, append_assoc, codes}
use Rattle.std.specs.List.{flat_map}
use Rattle.std.specs.Fmt.{signed_decimal}
use Rattle.rail_base.specs.Texts.{line}
use Rattle.dual_certificate.specs.Text.{one_line, prices_line}
use Rattle.dual_certificate.proofs.FieldTexts.{spaced_fields}
use Rattle.costate_text.specs.declared.certificate.CostateCertificate.{CostateCertificate}
use Rattle.costate_text.specs.Text.{number_field, numbers_line, speed_field, text_of}

numbers_text : (out : List ℕ) (zs : List ℤ) → 1 ≤ length zs → ((out ++ codes "costates") ++ flat_map number_field zs) ++ 10 ∷ [] ≡ out ++ numbers_line (codes "costates ") zs
unfolding numbers_line
numbers_text out zs some = rw (spaced_fields signed_decimal zs some) (simp append_assoc)

as_numbers : (vs : List ℕ) → map (λ v. signed_decimal (pos v)) vs ≡ map signed_decimal (map pos vs)
as_numbers [] = refl
as_numbers (v ∷ vs) = ap (λ (xs : List (List ℕ)). signed_decimal (pos v) ∷ xs) (as_numbers vs)

speeds_text : (out : List ℕ) (vs : List ℕ) → 1 ≤ length vs → ((out ++ codes "speeds") ++ flat_map speed_field vs) ++ 10 ∷ [] ≡ out ++ numbers_line (codes "speeds ") (map pos vs)
unfolding numbers_line
speeds_text out vs some = rw (spaced_fields (λ (v : ℕ). signed_decimal (pos v)) vs some, as_numbers vs) (simp append_assoc)

pub costates_append : (old a b e : List ℕ) (zs : List ℤ) → 1 ≤ length zs → a ≡ old ++ codes "costates" → b ≡ a ++ flat_map number_field zs → e ≡ b ++ 10 ∷ [] → e ≡ old ++ numbers_line (codes "costates ") zs
costates_append old a b e zs some ea eb ee = rw (ee, eb, ea) (numbers_text old zs some)

pub speeds_append : (old a b e : List ℕ) (vs : List ℕ) → 1 ≤ length vs → a ≡ old ++ codes "speeds" → b ≡ a ++ flat_map speed_field vs → e ≡ b ++ 10 ∷ [] → e ≡ old ++ numbers_line (codes "speeds ") (map pos vs)
speeds_append old a b e vs some ea eb ee = rw (ee, eb, ea) (speeds_text old vs some)

eight_parts : (o t n e b p v s l : List ℕ) → ((((((((o ++ t) ++ n) ++ e) ++ b) ++ p) ++ v) ++ s) ++ l) ≡ o ++ (t ++ (n ++ (e ++ (b ++ (p ++ (v ++ (s ++ l)))))))
eight_parts o t n e b p v s l = simp append_assoc

-- a certificate's text, line by line
pub lines_append : (o a b d e f g h i : List ℕ) (c : CostateCertificate) (n energy bound : ℤ) (prices speeds : List ℕ) (costates : List ℤ) → n ≡ pos (length c.speeds) → energy ≡ c.energy → bound ≡ c.bound
    → prices ≡ c.prices → speeds ≡ c.speeds → costates ≡ c.costates → a ≡ o ++ line (codes "costate 1") → b ≡ a ++ one_line (codes "points ") n → d ≡ b ++ one_line (codes "energy ") energy
    → e ≡ d ++ one_line (codes "bound ") bound → f ≡ e ++ prices_line prices → g ≡ f ++ numbers_line (codes "speeds ") (map pos speeds) → h ≡ g ++ numbers_line (codes "costates ") costates
    → i ≡ h ++ line (codes "end") → i ≡ o ++ text_of c
unfolding text_of
lines_append o a b d e f g h i c n energy bound prices speeds costates en ee eb ep ev es ea e0 e1 e2 e3 e4 e5 e6 =
    rw (e6, e5, e4, e3, e2, e1, e0, ea, en, ee, eb, ep, ev, es)
    (eight_parts o (line (codes "costate 1")) (one_line (codes "points ") (pos (length c.speeds))) (one_line (codes "energy ") c.energy) (one_line (codes "bound ") c.bound) (prices_line c.prices)
    (numbers_line (codes "speeds ") (map pos c.speeds)) (numbers_line (codes "costates ") c.costates) (line (codes "end")))
