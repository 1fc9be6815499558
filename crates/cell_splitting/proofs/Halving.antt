-- The cells of a point, halved one after the other.
use Rattle.std.proofs.Common.{ℕ, ◌≡◌, ◌<◌, ◌≤◌, ◌+◌, ◌∙◌, List, [], ◌∷◌, ◌++◌, Bool, length, get_or, take, drop, refl, sym, ap, inl, inr, arith, append_assoc, length-append}
use Rattle.std.specs.Prelude.{if◌then◌else◌}
use Rattle.std.proofs.lemmas.List.{take_more, drop_more, take_at, drop_at, get_or_at, length-take-le}
use Rattle.std.proofs.Math.Seq.{drop-length, take-length}
use Rattle.std.proofs.lemmas.List.{append-nil}
use Rattle.std.proofs.lemmas.Bool.{lt-ltb, le-ltb, cases_lt}
use Rattle.bound_specs.specs.declared.Cell.{Cell}
use Rattle.bound_specs.specs.Cells.{no_cell, split_cells, lower_half, upper_half}
use Rattle.cell_splitting.specs.Even.{halved}

-- a cell of two or more speeds is split
pub halved-two : (a : Cell) (cs : List Cell) → a.first < a.last → halved (a ∷ cs) ≡ lower_half a ∷ upper_half a ∷ halved cs
halved-two a cs lt = ap (λ (b : Bool). if b then lower_half a ∷ upper_half a ∷ halved cs else a ∷ halved cs) (lt-ltb a.first a.last lt)

-- and one of one speed is not
pub halved-one : (a : Cell) (cs : List Cell) → a.last ≤ a.first → halved (a ∷ cs) ≡ a ∷ halved cs
halved-one a cs le = ap (λ (b : Bool). if b then lower_half a ∷ upper_half a ∷ halved cs else a ∷ halved cs) (le-ltb a.first a.last le)

-- halves of lists one behind the other
pub halved-append : (xs ys : List Cell) → halved (xs ++ ys) ≡ halved xs ++ halved ys
halved-append [] ys = refl
halved-append (a ∷ xs) ys = elim (cases_lt a.first a.last) [
  | inl lt ↦ halved-two a (xs ++ ys) lt ∙ ap (λ (zs : List Cell). lower_half a ∷ upper_half a ∷ zs) (halved-append xs ys)
      ∙ ap (λ (zs : List Cell). zs ++ halved ys) (sym (halved-two a xs lt))
  | inr le ↦ halved-one a (xs ++ ys) le ∙ ap (λ (zs : List Cell). a ∷ zs) (halved-append xs ys)
      ∙ ap (λ (zs : List Cell). zs ++ halved ys) (sym (halved-one a xs le))
]

-- how many cells there are once the first of a point are halved
module _ (cs : List Cell) (c : ℕ) (lt : c < length cs) where
  count_to : length (halved (take (c + 1) cs)) ≡ length (halved (take c cs)) + length (halved (get_or cs c no_cell ∷ []))
  count_to = ap (λ (zs : List Cell). length (halved zs)) (take_more cs c no_cell lt)
      ∙ ap length (halved-append (take c cs) (get_or cs c no_cell ∷ [])) ∙ length-append (halved (take c cs)) (halved (get_or cs c no_cell ∷ []))

  pub count-two : (get_or cs c no_cell).first < (get_or cs c no_cell).last → length (halved (take (c + 1) cs)) ≡ length (halved (take c cs)) + 2
  count-two two = count_to ∙ ap (λ (zs : List Cell). length (halved (take c cs)) + length zs) (halved-two (get_or cs c no_cell) [] two)

  pub count-one : (get_or cs c no_cell).last ≤ (get_or cs c no_cell).first → length (halved (take (c + 1) cs)) ≡ length (halved (take c cs)) + 1
  count-one one = count_to ∙ ap (λ (zs : List Cell). length (halved (take c cs)) + length zs) (halved-one (get_or cs c no_cell) [] one)

-- the cells of a point, of which those from c on are halved
abbrev pub halved_from : List Cell → ℕ → List Cell
halved_from cs c = take c cs ++ halved (drop c cs)

-- none of them
pub from_end : (cs : List Cell) (c : ℕ) → c ≡ length cs → halved_from cs c ≡ cs
from_end cs c e = ap (λ (n : ℕ). halved_from cs n) e ∙ ap (λ (zs : List Cell). take (length cs) cs ++ halved zs) (drop-length cs) ∙ append-nil (take (length cs) cs) ∙ take-length cs

-- one more cell from the back
module _ (cs : List Cell) (c : ℕ) (lt : c < length cs) where
  -- its cells, apart
  apart : halved_from cs (c + 1) ≡ take c cs ++ get_or cs c no_cell ∷ halved (drop (c + 1) cs)
  apart = ap (λ (zs : List Cell). zs ++ halved (drop (c + 1) cs)) (take_more cs c no_cell lt)
      ∙ append_assoc (take c cs) (get_or cs c no_cell ∷ []) (halved (drop (c + 1) cs))

  front : length (take c cs) ≡ c
  front = length-take-le c cs (omega (arith, lt))

  -- the cell is still there
  pub from-cell : get_or (halved_from cs (c + 1)) c no_cell ≡ get_or cs c no_cell
  from-cell = ap (λ (zs : List Cell). get_or zs c no_cell) apart ∙ get_or_at (take c cs) (get_or cs c no_cell) (halved (drop (c + 1) cs)) no_cell c front

  rest : drop (c + 1) (halved_from cs (c + 1)) ≡ halved (drop (c + 1) cs)
  rest = ap (drop (c + 1)) (apart ∙ sym (append_assoc (take c cs) (get_or cs c no_cell ∷ []) (halved (drop (c + 1) cs))))
      ∙ drop_at (take c cs ++ get_or cs c no_cell ∷ []) (halved (drop (c + 1) cs)) (c + 1) (length-append (take c cs) (get_or cs c no_cell ∷ []) ∙ ap (λ (n : ℕ). n + 1) front)

  pub from-two : (get_or cs c no_cell).first < (get_or cs c no_cell).last → split_cells (halved_from cs (c + 1)) c ≡ halved_from cs c
  from-two two =
      let a = get_or cs c no_cell in
      let before : take c (halved_from cs (c + 1)) ≡ take c cs = ap (take c) apart ∙ take_at (take c cs) (a ∷ halved (drop (c + 1) cs)) c front in
      ap (λ (zs : List Cell). zs ++ lower_half (get_or (halved_from cs (c + 1)) c no_cell) ∷ upper_half (get_or (halved_from cs (c + 1)) c no_cell) ∷ drop (c + 1) (halved_from cs (c + 1))) before
      ∙ ap (λ (z : Cell). take c cs ++ lower_half z ∷ upper_half z ∷ drop (c + 1) (halved_from cs (c + 1))) from-cell
      ∙ ap (λ (zs : List Cell). take c cs ++ lower_half a ∷ upper_half a ∷ zs) rest
      ∙ ap (λ (zs : List Cell). take c cs ++ zs) (sym (halved-two a (drop (c + 1) cs) two))
      ∙ ap (λ (zs : List Cell). take c cs ++ halved zs) (sym (drop_more cs c no_cell lt))

  pub from-one : (get_or cs c no_cell).last ≤ (get_or cs c no_cell).first → halved_from cs (c + 1) ≡ halved_from cs c
  from-one one =
      apart ∙ ap (λ (zs : List Cell). take c cs ++ zs) (sym (halved-one (get_or cs c no_cell) (drop (c + 1) cs) one))
      ∙ ap (λ (zs : List Cell). take c cs ++ halved zs) (sym (drop_more cs c no_cell lt))
