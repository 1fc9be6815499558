-- Cells that fit the rules: whole ones, and those where one is split.
use Rattle.std.proofs.Common.{ℕ, ◌≡◌, ◌<◌, ◌≤◌, ◌∙◌, List, [], All, length, map, get_or, set, refl, sym, ap, subst, inl, inr, arith}
use Rattle.std.specs.Prelude.{slice_set}
use Rattle.std.proofs.lemmas.Bool.{cases_eq}
use Rattle.std.proofs.lemmas.List.{get_or-map, length-map, length-set, get_or-set_same, get_or-set_other}
use Rattle.std.proofs.lemmas.List.Elements.{All-from_get_or}
use Rattle.bound_specs.specs.declared.Cell.{Cell}
use Rattle.rail_specs.specs.Rules.{Rules}
use Rattle.rail_specs.specs.Ranges.{AreRanges, no_narrowing}
use Rattle.bound_specs.specs.Cells.{cells_of, whole_cell, split_cells, RunFrom, CellsFit}
use Rattle.speed_cells.specs.Laws.{CanSplit, ArePairs}
use Rattle.speed_cells.proofs.Halves.{split_run}

-- the least and the greatest drive's speeds are in order
in_order : (r : Rules) (least greatest : List ℕ) (k : ℕ) → AreRanges r no_narrowing least greatest → (get_or least k 0 ≤ get_or greatest k 0) × (get_or greatest k 0 ≤ 12000)
in_order r least greatest k h = (h.greatest.above least h.least.drive k, h.greatest.drive.cap k)

-- and so are their pairs
pub pairs_ordered : (r : Rules) (least greatest : List ℕ) (pairs : List (ℕ × ℕ)) → AreRanges r no_narrowing least greatest → ArePairs r least greatest pairs →
    All (λ (p : ℕ × ℕ). (p.0 ≤ p.1) × (p.1 ≤ 12000)) pairs
pairs_ordered r least greatest pairs h p = All-from_get_or (λ (p : ℕ × ℕ). (p.0 ≤ p.1) × (p.1 ≤ 12000)) pairs (0, 0) (λ k lt.
    let o = in_order r least greatest k h in
    (omega (arith, p.first k lt, p.last k lt, o.0), omega (arith, p.last k lt, o.1)))

-- one cell has each speed from its first to its last
whole_run : (first last : ℕ) → first ≤ last → last ≤ 12000 → RunFrom first last (whole_cell (first, last))
whole_run first last a b = record {
  adjacent = record {
    some = omega arith;
    cells = λ c lt. (let e : c ≡ 0 = omega arith in rw e (a, b));
    next = λ c lt. absurd (omega arith);
  };
  first = refl;
  last = refl;
}

-- whole cells fit
pub whole_fit : (r : Rules) (least greatest : List ℕ) (pairs : List (ℕ × ℕ)) → AreRanges r no_narrowing least greatest → ArePairs r least greatest pairs →
    CellsFit r (map whole_cell pairs)
whole_fit r least greatest pairs h p = (
  least,
  greatest,
  record {
    ranges = h;
    points = length-map pairs whole_cell ∙ p.count;
    run = λ k le.
        let lt : k < length pairs = omega (arith, p.count) in
        let o = in_order r least greatest k h in
        let same : cells_of (map whole_cell pairs) k ≡ whole_cell (get_or least k 0, get_or greatest k 0) =
        get_or-map whole_cell pairs k (0, 0) [] lt ∙ whole_at (get_or pairs k (0, 0)) (get_or least k 0) (get_or greatest k 0) (p.first k lt) (p.last k lt) in
        subst (RunFrom (get_or least k 0) (get_or greatest k 0)) (sym same) (whole_run (get_or least k 0) (get_or greatest k 0) o.0 o.1);
  },
)
  where
    whole_at : (p : ℕ × ℕ) (first last : ℕ) → p.0 ≡ first → p.1 ≡ last → whole_cell p ≡ whole_cell (first, last)
    whole_at p first last a b = cc

-- cells where one is split still fit
pub split_fit : (r : Rules) (cells : List (List Cell)) (k c : ℕ) → k < length cells → CellsFit r cells → CanSplit (cells_of cells k) c →
    CellsFit r (slice_set cells k (split_cells (cells_of cells k) c))
split_fit r cells k c lt (least, greatest, h) two =
    let parts = split_cells (cells_of cells k) c in (
      least,
      greatest,
      record {
        ranges = h.ranges;
        points = length-set cells k parts ∙ h.points;
        run = λ j le. elim (cases_eq j k) [
          | inl same ↦ (let put : cells_of (set cells k parts) j ≡ parts = ap (cells_of (set cells k parts)) same ∙ get_or-set_same cells k parts [] lt in
              let whole = subst (λ (i : ℕ). RunFrom (get_or least j 0) (get_or greatest j 0) (cells_of cells i)) same (h.run j le) in
              subst (RunFrom (get_or least j 0) (get_or greatest j 0)) (sym put) (split_run (get_or least j 0) (get_or greatest j 0) (cells_of cells k) c whole two))
          | inr apart ↦ subst (RunFrom (get_or least j 0) (get_or greatest j 0)) (sym (get_or-set_other cells k j parts [] apart)) (h.run j le)
        ];
      },
    )
