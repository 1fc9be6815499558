-- Fields read one by one, as a loop does.
use Rattle.std.proofs.Common.{◌≡◌, ◌&&◌, ◌∙◌, ◌++◌, ◌∷◌, ◌-◌, ◌<◌, ℕ, ℤ, pos, ◌+ℤ◌, ◌≤ℤ◌, subst, Bool, true, false, List, [], Option, Some, None, Result, Ok, Err, map, refl, sym, ap, append_assoc, arith}
use Rattle.std.specs.Int.RustNames.{unsigned_abs, int_le}
use Rattle.std.specs.Prelude.{nat_lt}
use Rattle.std.proofs.lemmas.List.{append-nil}
use Rattle.std.proofs.lemmas.Int.{ints}
use Rattle.std.proofs.lemmas.Bool.Decides.{nat_tests}
use Rattle.dual_certificate.specs.declared.fault.CertFault.{CertFault}
use Rattle.dual_certificate.specs.declared.fault.CertFault.TheVariants.{Form, Range}
use Rattle.dual_certificate.specs.declared.certificate.CertCell.{CertCell}
use Rattle.dual_certificate.specs.Grammar.{◌>>=◌, formed, ranged, put_first, forms, all_fit, fields_read, price_fits, price_next, prices_read, cell_form, cell_fits, cell_next, cell_made, cells_read, potential_fits}
use Rattle.dual_certificate.specs.Numbers.{number_spelled}

-- what was read before, and what is still read
abbrev pub with_front : {B : Type 0} → List B → Result (List B) CertFault → Result (List B) CertFault
with_front front read = read >>= λ xs. Ok (front ++ xs)

-- more in front
pub with_more : {B : Type 0} (front : List B) (x : B) (read : Result (List B) CertFault) → with_front front (with_front (x ∷ []) read) ≡ with_front (front ++ x ∷ []) read
with_more front x (Ok xs) = ap (λ ys. Ok ys) (simp append_assoc)
with_more front x (Err e) = refl

-- one more thing in front of those that are in range, or of none
ranged_more : {B : Type 0} (n : ℕ) (front : List B) (x : B) (xs : List B) (b : Bool) → with_front front (ranged n b (x ∷ xs)) ≡ with_front (front ++ x ∷ []) (ranged n b xs)
ranged_more n front x xs true = ap (λ ys. Ok ys) (sym (append_assoc front (x ∷ []) xs))
ranged_more n front x xs false = refl

module _ {S A B : Type 0} (form : List ℕ → Option A) (fits : S → A → Bool) (next : S → A → S) (made : A → B) (n : ℕ) where
  -- a field that isn't of its form
  pub not_formed : (good : Bool) (s : S) (field : List ℕ) (fields : List (List ℕ)) (front : List B) → form field ≡ None
      → with_front front (fields_read form fits next made n good s (field ∷ fields)) ≡ Err (Form n)
  not_formed good s field fields front h = rw h refl

  step_in : (front : List B) (s : S) (x : A) (read : Option (List A)) → fits s x ≡ true
      → with_front front (formed n (put_first (Some x) read) >>= λ xs. ranged n (true && all_fit fits next s xs) (map made xs))
      ≡ with_front (front ++ made x ∷ []) (formed n read >>= λ xs. ranged n (true && all_fit fits next (next s x) xs) (map made xs))
  step_in front s x None h = refl
  step_in front s x (Some xs) h = rw h (ranged_more n front (made x) (map made xs) (all_fit fits next (next s x) xs))

  -- a field that is in range
  pub in_range : (front : List B) (s : S) (field : List ℕ) (fields : List (List ℕ)) (x : A) → form field ≡ Some x → fits s x ≡ true
      → with_front front (fields_read form fits next made n true s (field ∷ fields)) ≡ with_front (front ++ made x ∷ []) (fields_read form fits next made n true (next s x) fields)
  in_range front s field fields x h g = rw h (step_in front s x (forms form fields) g)

  step_out : (front : List B) (good : Bool) (s t : S) (x : A) (read : Option (List A)) → (good && fits s x) ≡ false
      → with_front front (formed n (put_first (Some x) read) >>= λ xs. ranged n (good && all_fit fits next s xs) (map made xs))
      ≡ with_front front (formed n read >>= λ xs. ranged n (false && all_fit fits next t xs) (map made xs))
  step_out front good s t x None h = refl
  step_out front true s t x (Some xs) h = rw h refl
  step_out front false s t x (Some xs) h = refl

  -- a field that is out of range, or stands behind something that is
  pub out_of_range : (front : List B) (good : Bool) (s t : S) (field : List ℕ) (fields : List (List ℕ)) (x : A) → form field ≡ Some x → (good && fits s x) ≡ false
      → with_front front (fields_read form fits next made n good s (field ∷ fields)) ≡ with_front front (fields_read form fits next made n false t fields)
  out_of_range front good s t field fields x h g = rw h (step_out front good s t x (forms form fields) g)

  -- no field is left
  pub all_read : (front : List B) (s : S) → with_front front (fields_read form fits next made n true s []) ≡ Ok front
  all_read front s = ap (λ ys. Ok ys) (append-nil front)

  pub none_read : (front : List B) (s : S) → with_front front (fields_read form fits next made n false s []) ≡ Err (Range n)
  none_read front s = refl

-- both of two tests hold
pub both_true : (a b : Bool) → (a && b) ≡ true → (a ≡ true) × (b ≡ true)
both_true true b h = (refl, h)
both_true false b h = absurd (cc h)

-- a price that is kept
pub price_kept : (good fit : Bool) (room : ℕ) (price value : ℤ) (field : List ℕ) (rest fields : List (List ℕ)) (prices more : List ℕ) (total : Result (List ℕ) CertFault)
    → fields ≡ field ∷ rest → Some price ≡ number_spelled field → value ≡ price → fit ≡ price_fits room value → (good && fit) ≡ true
    → more ≡ prices ++ unsigned_abs value ∷ [] → with_front prices (prices_read good room fields) ≡ total → with_front more (prices_read (good && fit) (room - 1) rest) ≡ total
price_kept good fit room price value field rest fields prices more total e f same g both m h =
    let b = both_true good fit both in
    let fits : price_fits room price ≡ true = ap (price_fits room) (sym same) ∙ sym g ∙ b.1 in
    let one = in_range number_spelled price_fits price_next unsigned_abs 5 prices room field rest price (sym f) fits in
    let so_far : with_front prices (prices_read true room (field ∷ rest)) ≡ total =
    subst (λ (x : Bool). with_front prices (prices_read x room (field ∷ rest)) ≡ total) b.0 (subst (λ (ys : List (List ℕ)). with_front prices (prices_read good room ys) ≡ total) e h) in
    let list : more ≡ prices ++ unsigned_abs price ∷ [] = m ∙ ap (λ (z : ℤ). prices ++ unsigned_abs z ∷ []) same in
    rw (both, list) (sym one ∙ so_far)

-- a cell that is kept
pub cell_kept : (n : ℕ) (greatest : ℤ) (good fit : Bool) (left : ℕ) (least low first value next : ℤ) (potential : Option ℤ) (field : List ℕ) (rest fields : List (List ℕ)) (cells more : List CertCell)
    (total : Result (List CertCell) CertFault) → fields ≡ field ∷ rest → Some (first, potential) ≡ cell_form field → value ≡ first → low ≡ least → next ≡ first +ℤ pos 1
    → fit ≡ cell_fits greatest (left, low) (value, potential) → (good && fit) ≡ true → more ≡ cells ++ record { first = unsigned_abs value; potential = potential } ∷ []
    → with_front cells (cells_read n greatest good (left, least) fields) ≡ total → with_front more (cells_read n greatest (good && fit) (left - 1, next) rest) ≡ total
cell_kept n greatest good fit left least low first value next potential field rest fields cells more total e f same lows nexts g both m h =
    let b = both_true good fit both in
    let fits : cell_fits greatest (left, least) (first, potential) ≡ true =
    ap (λ (z : ℤ). cell_fits greatest (left, z) (first, potential)) (sym lows) ∙ ap (λ (z : ℤ). cell_fits greatest (left, low) (z, potential)) (sym same) ∙ sym g ∙ b.1 in
    let one = in_range cell_form (cell_fits greatest) cell_next cell_made n cells (left, least) field rest (first, potential) (sym f) fits in
    let so_far : with_front cells (cells_read n greatest true (left, least) (field ∷ rest)) ≡ total =
    subst (λ (x : Bool). with_front cells (cells_read n greatest x (left, least) (field ∷ rest)) ≡ total) b.0
    (subst (λ (ys : List (List ℕ)). with_front cells (cells_read n greatest good (left, least) ys) ≡ total) e h) in
    let list : more ≡ cells ++ record { first = unsigned_abs first; potential = potential } ∷ [] =
    m ∙ ap (λ (z : ℤ). cells ++ record { first = unsigned_abs z; potential = potential } ∷ []) same in
    rw (both, list, nexts) (sym one ∙ so_far)

le_is : (p q : ℤ) → int_le p q ≡ true → p ≤ℤ q
le_is p q h = grind (arith, ints)

-- what a cell in range keeps
pub record CellBounds (greatest : ℤ) (left : ℕ) (low value : ℤ) : Type 0 where
  pub room : 0 < left
  pub above : low ≤ℤ value
  pub below : value ≤ℤ greatest

three_true : (a b c d : Bool) → (a && ((b && c) && d)) ≡ true → (a ≡ true) × (b ≡ true) × (c ≡ true)
three_true true true true d h = (refl, refl, refl)
three_true true true false d h = absurd (cc h)
three_true true false c d h = absurd (cc h)
three_true false b c d h = absurd (cc h)

pub cell_bounds : (greatest : ℤ) (good fit : Bool) (left : ℕ) (low value : ℤ) (potential : Option ℤ) → fit ≡ cell_fits greatest (left, low) (value, potential) → (good && fit) ≡ true
    → CellBounds greatest left low value
cell_bounds greatest good fit left low value potential g both =
    let t = three_true (nat_lt 0 left) (int_le low value) (int_le value greatest) (potential_fits potential) (sym g ∙ (both_true good fit both).1) in
    let room : 0 < left = grind (arith, nat_tests, t.0) in
    record { room = room; above = le_is low value t.1; below = le_is value greatest t.2 }
