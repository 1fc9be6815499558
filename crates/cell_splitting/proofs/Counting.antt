-- How many cells there are once cells are halved.
use Rattle.std.proofs.Common.{ℕ, zero, suc, ◌≡◌, ◌<◌, ◌≤◌, ◌+◌, ◌-◌, List, [], ◌∷◌, length, map, ap, inl, inr, arith}
use Rattle.std.proofs.lemmas.Bool.{cases_lt}
use Rattle.std.proofs.lemmas.List.Sums.{sum_by-cons}
use Rattle.bound_specs.specs.declared.Cell.{Cell}
use Rattle.bound_specs.specs.Cells.{cell_count}
use Rattle.cell_splitting.specs.Even.{halved, halvings}
use Rattle.cell_splitting.proofs.Halving.{halved-two, halved-one}

-- a point has no fewer
pub halved_longer : (cs : List Cell) → length cs ≤ length (halved cs)
halved_longer [] = omega arith
halved_longer (a ∷ cs) = elim (cases_lt a.first a.last) [
  | inl lt ↦ omega (arith, halved_longer cs, ap length (halved-two a cs lt))
  | inr le ↦ omega (arith, halved_longer cs, ap length (halved-one a cs le))
]

-- nor have all points
pub count_rises : (cells : List (List Cell)) → cell_count cells ≤ cell_count (map halved cells)
count_rises [] = omega arith
count_rises (cs ∷ cells) =
    omega (arith, sum_by-cons length cs cells, sum_by-cons length (halved cs) (map halved cells), halved_longer cs, count_rises cells)

-- nor does it fall from halving to halving
pub halvings_rise : (whole : List (List Cell)) (j d : ℕ) → cell_count (halvings j whole) ≤ cell_count (halvings (j + d) whole)
halvings_rise whole j zero = omega (arith, ap (λ (n : ℕ). cell_count (halvings n whole)) (add_zero j))
  where
    add_zero : (n : ℕ) → n + 0 ≡ n
    add_zero n = omega arith
halvings_rise whole j (suc d) =
    let step : j + suc d ≡ suc (j + d) = omega arith in
    omega (arith, halvings_rise whole j d, count_rises (halvings (j + d) whole), ap (λ (n : ℕ). cell_count (halvings n whole)) step)

-- where one more halving has too many cells, no later one has few enough
pub last_halving : (whole : List (List Cell)) (times limit : ℕ) → limit < cell_count (map halved (halvings times whole)) → (k : ℕ)
    → cell_count (halvings k whole) ≤ limit → k ≤ times
last_halving whole times limit over k within = elim (cases_lt times k) [
  | inl lt ↦ (let at : suc times + (k - suc times) ≡ k = omega arith in
      let rise = halvings_rise whole (suc times) (k - suc times) in
      absurd (omega (arith, rise, ap (λ (n : ℕ). cell_count (halvings n whole)) at, over, within)))
  | inr le ↦ le
]
