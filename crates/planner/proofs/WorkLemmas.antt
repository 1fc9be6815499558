-- Whole cells, and gaps that are met.
use Rattle.std.proofs.Common.{ℕ, zero, suc, ◌+◌, ◌<◌, ◌≤◌, ◌≡◌, ◌∙◌, List, [], ◌∷◌, Option, Some, None, length, map, refl, sym, ap, subst, arith}
use Rattle.std.specs.Prelude.{ℤ, zip, slice_index, slice_index_or}
use Rattle.std.proofs.lemmas.Int.{ints}
use Rattle.std.proofs.lemmas.List.Sums.{sum_by-cons}
use Rattle.std.proofs.lemmas.List.{length-map}
use Rattle.bound_specs.specs.declared.Cell.{Cell}
use Rattle.bound_specs.specs.Cells.{cell_count, whole_cell, CellsFit}
use Rattle.bound_specs.specs.Chains.{IsAtMost}
use Rattle.bound_specs.specs.ChainValues.{AreFiner}
use Rattle.rail_specs.specs.Rules.{Rules}
use Rattle.rail_specs.specs.Ranges.{AreRanges, no_narrowing}
use Rattle.speed_cells.specs.Laws.{ArePairs}
use Rattle.speed_cells.proofs.Fitting.{whole_fit}
use Rattle.cell_splitting.proofs.SplitLemmas.{keep_fit, lie_inside, follow, count_more}
use Rattle.relaxed_costs.proofs.RelaxedLemmas.{start_cell, fitting_cells}
use Rattle.planner.specs.Works.{IsMet, AreWhole, AreSplit}

-- a gap that is met is met by every greater value
pub met_rises : (energy : ℤ) (tolerance : ℕ) (v w : Option ℤ) → IsMet energy tolerance v → IsAtMost v w → IsMet energy tolerance w
met_rises energy tolerance v None met le = tt
met_rises energy tolerance None (Some b) met le = absurd le
met_rises energy tolerance (Some a) (Some b) met le = omega (arith, ints, met, le)

-- ---- pairs of two lists

zip_length : (xs ys : List ℕ) → length xs ≡ length ys → length (zip xs ys) ≡ length xs
zip_length [] ys e = refl
zip_length (x ∷ xs) [] e = absurd (omega (arith, e))
zip_length (x ∷ xs) (y ∷ ys) e = omega (arith, zip_length xs ys (omega (arith, e)))

zip_at : (xs ys : List ℕ) (k : ℕ) → k < length (zip xs ys) → slice_index_or (zip xs ys) k (0, 0) ≡ (slice_index xs k, slice_index ys k)
zip_at [] ys k lt = absurd (omega (arith, lt))
zip_at (x ∷ xs) [] k lt = absurd (omega (arith, lt))
zip_at (x ∷ xs) (y ∷ ys) zero lt = refl
zip_at (x ∷ xs) (y ∷ ys) (suc k) lt = zip_at xs ys k (omega (arith, lt))

-- the pairs of two lists of ranges
pub zip_pairs : (r : Rules) (least greatest : List ℕ) → AreRanges r no_narrowing least greatest → ArePairs r least greatest (zip least greatest)
zip_pairs r least greatest h =
    let low = h.least.drive.drive.count in
    let high = h.greatest.drive.drive.count in
    record {
      count = zip_length least greatest (low ∙ sym high) ∙ low;
      first = λ k lt. ap (λ (p : ℕ × ℕ). p.0) (zip_at least greatest k lt);
      last = λ k lt. ap (λ (p : ℕ × ℕ). p.1) (zip_at least greatest k lt);
    }

-- there are as many whole cells as points
pub whole_count : (pairs : List (ℕ × ℕ)) → cell_count (map whole_cell pairs) ≡ length (map whole_cell pairs)
whole_count [] = refl
whole_count (p ∷ pairs) = omega (arith, sum_by-cons length (whole_cell p) (map whole_cell pairs), whole_count pairs)

-- whole cells fit, and there is one for each point
whole_fits : (r : Rules) (whole : List (List Cell)) → AreWhole r whole → CellsFit r whole
whole_fits r whole h = subst (CellsFit r) (sym h.value) (whole_fit r h.least h.greatest (zip h.least h.greatest) h.ranges (zip_pairs r h.least h.greatest h.ranges))

whole_counted : (r : Rules) (whole : List (List Cell)) → AreWhole r whole → cell_count whole ≡ length r.steps + 1
whole_counted r whole h =
    ap cell_count h.value ∙ whole_count (zip h.least h.greatest) ∙ length-map (zip h.least h.greatest) whole_cell ∙ (zip_pairs r h.least h.greatest h.ranges).count

-- cells that come by splits are no fewer than the points
pub no_fewer : (r : Rules) (budget : ℕ) (cells : List (List Cell)) → AreSplit r budget cells → length r.steps + 1 ≤ cell_count cells
no_fewer r budget cells h = omega (arith, whole_counted r h.whole h.are_whole, count_more h.whole (follow h.whole h.halved h.split))

-- they are finer than the even cells
pub finer : (r : Rules) (budget : ℕ) (cells : List (List Cell)) (h : AreSplit r budget cells) → AreFiner r h.even cells
finer r budget cells h =
    let even = keep_fit r h.whole h.halved (whole_fits r h.whole h.are_whole) in
    record {
      points = h.points;
      points_coarse = even.2.points;
      start_coarse = start_cell r h.even even;
      start_fine = h.start;
      cells_coarse = fitting_cells r h.even even;
      cells_fine = fitting_cells r cells h.fit;
      inside = (lie_inside h.even cells h.split).inside;
    }
