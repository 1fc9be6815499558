-- Fields that are written one behind another.
use Rattle.std.proofs.Common.{◌≡◌, ◌≤◌, ◌∷◌, ◌++◌, ◌∙◌, ℕ, ℤ, pos, List, [], ap, arith, length, map, append_assoc, codes}
use Rattle.std.specs.List.{flat_map}
use Rattle.std.specs.Fmt.{decimal}
use Rattle.std.proofs.lemmas.List.{append-nil}
use Rattle.std.proofs.lemmas.List.Concat.{flat_map-cons}
use Rattle.rail_base.specs.Texts.{line, spaced}
use Rattle.dual_certificate.specs.declared.certificate.CertCell.{CertCell}
use Rattle.dual_certificate.specs.declared.certificate.CertPoint.{CertPoint}
use Rattle.dual_certificate.specs.Text.{cell_text, cell_field, price_field, fields_text, one_line, prices_line, point_line, text_of}
use Rattle.dual_certificate.specs.declared.certificate.Certificate.{Certificate}

pub spaced_fields : {B : Type 0} (f : B → List ℕ) (ys : List B) → 1 ≤ length ys → flat_map (λ y. 32 ∷ f y) ys ≡ 32 ∷ fields_text (map f ys)
spaced_fields f [] some = absurd (omega arith)
spaced_fields f (y ∷ []) some = flat_map-cons (λ z. 32 ∷ f z) y [] ∙ append-nil (32 ∷ f y)
spaced_fields f (y ∷ z ∷ ys) some = flat_map-cons (λ w. 32 ∷ f w) y (z ∷ ys) ∙ ap (λ (x : List ℕ). (32 ∷ f y) ++ x) (spaced_fields f (z ∷ ys) (omega arith))

pub prices_text : (out : List ℕ) (ps : List ℕ) → 1 ≤ length ps → ((out ++ codes "prices") ++ flat_map price_field ps) ++ 10 ∷ [] ≡ out ++ prices_line ps
unfolding prices_line
prices_text out ps some = rw (spaced_fields decimal ps some) (simp append_assoc)

pub point_text : (out : List ℕ) (p : CertPoint) → 1 ≤ length p.cells
    → ((((out ++ codes "point") ++ 32 ∷ decimal p.speed) ++ 32 ∷ decimal p.greatest) ++ flat_map cell_field p.cells) ++ 10 ∷ [] ≡ out ++ point_line p
unfolding point_line
point_text out p some = rw (spaced_fields cell_text p.cells some) (simp append_assoc)

-- the line of the prices, piece by piece
pub prices_append : (old a b e : List ℕ) (ps : List ℕ) → 1 ≤ length ps → a ≡ old ++ codes "prices" → b ≡ a ++ flat_map price_field ps → e ≡ b ++ 10 ∷ [] → e ≡ old ++ prices_line ps
prices_append old a b e ps some ea eb ee = rw (ee, eb, ea) (prices_text old ps some)

-- a point's line, piece by piece
pub point_append : (old a b d e f : List ℕ) (p : CertPoint) (v g : ℤ) (cells : List CertCell) → 1 ≤ length p.cells → v ≡ pos p.speed → g ≡ pos p.greatest → cells ≡ p.cells → a ≡ old ++ codes "point"
    → b ≡ a ++ spaced v → d ≡ b ++ spaced g → e ≡ d ++ flat_map cell_field cells → f ≡ e ++ 10 ∷ [] → f ≡ old ++ point_line p
point_append old a b d e f p v g cells some ev eg ec ea eb ed ee ef = rw (ef, ee, ed, eb, ea, ev, eg, ec) (point_text old p some)

seven_parts : (o t n e b p q l : List ℕ) → (((((((o ++ t) ++ n) ++ e) ++ b) ++ p) ++ q) ++ l) ≡ o ++ (t ++ (n ++ (e ++ (b ++ (p ++ (q ++ l))))))
seven_parts o t n e b p q l = simp append_assoc

-- a certificate's text, line by line
pub lines_append : (o a b d e f g h : List ℕ) (c : Certificate) (n energy bound : ℤ) (prices : List ℕ) (points : List CertPoint) → n ≡ pos (length c.points) → energy ≡ c.energy → bound ≡ c.bound
    → prices ≡ c.prices → points ≡ c.points → a ≡ o ++ line (codes "certificate 1") → b ≡ a ++ one_line (codes "points ") n → d ≡ b ++ one_line (codes "energy ") energy
    → e ≡ d ++ one_line (codes "bound ") bound → f ≡ e ++ prices_line prices → g ≡ f ++ flat_map point_line points → h ≡ g ++ line (codes "end") → h ≡ o ++ text_of c
unfolding text_of
lines_append o a b d e f g h c n energy bound prices points en ee eb ep eq ea e0 e1 e2 e3 e4 e5 = rw (e5, e4, e3, e2, e1, e0, ea, en, ee, eb, ep, eq) (seven_parts o (line (codes "certificate 1")) (one_line (codes "points ") (pos (length c.points))) (one_line (codes "energy ") c.energy)
    (one_line (codes "bound ") c.bound) (prices_line c.prices) (flat_map point_line c.points) (line (codes "end")))
