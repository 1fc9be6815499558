-- Points of a certificate, and the first of some refusals.
use Rattle.std.proofs.Common.{◌≡◌, ◌<◌, ◌≤◌, ◌+◌, ◌∙◌, ℕ, ℤ, zero, suc, List, [], ◌∷◌, Option, Some, None, false, length, refl, sym, ap, arith, add-one, inl, inr, subst}
use Rattle.std.specs.Prelude.{slice_index_or, IfSome}
use Rattle.bound_specs.specs.declared.Cell.{Cell}
use Rattle.bound_specs.specs.Chains.{plus}
use Rattle.bound_specs.specs.Links.{Pricing, low_cost}
use Rattle.std.specs.Option.{option_or}
use Rattle.std.proofs.lemmas.Bool.{cases_eq}
use Rattle.rail_base.specs.First.{first_below}
use Rattle.dual_certificate.specs.declared.certificate.CertCell.{CertCell}
use Rattle.dual_certificate.specs.declared.certificate.CertPoint.{CertPoint}
use Rattle.dual_certificate.specs.Text.{RiseFrom, IsPoint, IsModest}
use Rattle.dual_certificate.specs.Contents.{no_cert_cell, first_of, cell_of, value_of}
use Rattle.certificate_checker.specs.Refusals.{is_at_most, unless_so, link_refusal}
use Rattle.certificate_checker.specs.declared.refused.Refused.TheVariants.{Potential}

pub first_below-next : {X : Type 0} (f : ℕ → Option X) (n : ℕ) → first_below f (n + 1) ≡ option_or (first_below f n) (f n)
first_below-next f n = rw (add-one n) refl

pub first_below-found : {X : Type 0} (f : ℕ → Option X) (i n : ℕ) (x : X) → first_below f i ≡ None → f i ≡ Some x → i < n → first_below f n ≡ Some x
first_below-found f i zero x h e l = absurd (omega arith)
first_below-found f i (suc n) x h e l = elim (cases_eq i n) [
  | inl same ↦ rw (subst (λ (j : ℕ). first_below f j ≡ None) same h) (subst (λ (j : ℕ). f j ≡ Some x) same e)
  | inr apart ↦ rw (first_below-found f i n x h e (omega arith)) refl
]

pub ruleset firsts = (first_below-next, first_below-found)

-- the first speeds of cells rise up to the greatest speed
pub rising : (least greatest : ℕ) (cs : List CertCell) (a : ℕ) → RiseFrom least greatest cs → a < length cs
    → (least ≤ (slice_index_or cs a no_cert_cell).first) × ((slice_index_or cs a no_cert_cell).first ≤ greatest)
rising least greatest [] a h lt = absurd (omega arith)
rising least greatest (c ∷ cs) zero h lt = (h.0.0, h.0.1)
rising least greatest (c ∷ cs) (suc a) h lt = let r = rising (c.first + 1) greatest cs a h.1 (omega arith) in (omega (arith, r.0, h.0.0), r.1)

rising_next : (least greatest : ℕ) (cs : List CertCell) (a : ℕ) → RiseFrom least greatest cs → a + 1 < length cs
    → (slice_index_or cs a no_cert_cell).first < (slice_index_or cs (a + 1) no_cert_cell).first
rising_next least greatest [] a h lt = absurd (omega arith)
rising_next least greatest (c ∷ cs) zero h lt = let r = rising (c.first + 1) greatest cs 0 h.1 (omega arith) in omega (arith, r.0)
rising_next least greatest (c ∷ cs) (suc a) h lt = rw (add-one (suc a)) (let r = rising_next (c.first + 1) greatest cs a h.1 (omega arith) in rw (add-one a) at r)

pub first_within : (p : CertPoint) (a : ℕ) → IsPoint p → a < length p.cells → first_of p a ≤ p.greatest
first_within p a h lt = (rising 0 p.greatest p.cells a h.cells lt).1

pub first_rises : (p : CertPoint) (a : ℕ) → IsPoint p → a + 1 < length p.cells → first_of p a < first_of p (a + 1)
first_rises p a h lt = rising_next 0 p.greatest p.cells a h.cells lt

pub greatest_small : (p : CertPoint) → IsPoint p → p.greatest ≤ 12000
greatest_small p h = h.greatest

pub ruleset risings = (first_within, first_rises, greatest_small)

-- each potential is within its range
pub modest_at : (least greatest : ℕ) (cs : List CertCell) (a : ℕ) → RiseFrom least greatest cs → IfSome (slice_index_or cs a no_cert_cell).potential IsModest
modest_at least greatest [] a h = tt
modest_at least greatest (c ∷ cs) zero h = h.0.2
modest_at least greatest (c ∷ cs) (suc a) h = modest_at (c.first + 1) greatest cs a h.1

-- a link that fails is the first where none before it does
pub link_found : (p : Pricing) (k a : ℕ) (cell : Cell) (value : Option ℤ) (next : CertPoint) (b : ℕ) (cells : List CertCell) (other : Cell) (link : Option ℤ) → cells ≡ next.cells
    → other ≡ cell_of next b → link ≡ low_cost p k cell other → is_at_most value (plus link (slice_index_or cells b no_cert_cell).potential) ≡ false
    → first_below (link_refusal p k a cell value next) b ≡ None → b < length cells
    → Some (Potential k a b) ≡ first_below (link_refusal p k a cell value next) (length next.cells)
link_found p k a cell value next b cells other link ec eo el h none lt =
    let e1 : is_at_most value (plus link (value_of next b)) ≡ false = subst (λ (cs : List CertCell). is_at_most value (plus link (slice_index_or cs b no_cert_cell).potential) ≡ false) ec h in
    let same : link ≡ low_cost p k cell (cell_of next b) = el ∙ ap (low_cost p k cell) eo in
    let e2 : is_at_most value (plus (low_cost p k cell (cell_of next b)) (value_of next b)) ≡ false = subst (λ (l : Option ℤ). is_at_most value (plus l (value_of next b)) ≡ false) same e1 in
    sym (first_below-found (link_refusal p k a cell value next) b (length next.cells) (Potential k a b) none (ap (λ t. unless_so t (Potential k a b)) e2) (omega (arith, lt, ap length ec)))
