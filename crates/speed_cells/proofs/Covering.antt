-- Every drive runs through cells that have each speed from the least to the greatest drive's.
use Rattle.std.proofs.Common.{ℕ, zero, suc, ◌≡◌, ◌<◌, ◌≤◌, ◌+◌, ◌-◌, List, [], ◌∷◌, length, get_or, add-one, inl, inr, arith}
use Rattle.std.proofs.lemmas.Bool.{cases_lt}
use Rattle.std.proofs.lemmas.List.{get_or_past}
use Rattle.bound_specs.specs.declared.Cell.{Cell}
use Rattle.rail_specs.specs.Rules.{Rules, IsDrive, IsNarrowDrive}
use Rattle.rail_specs.specs.Ranges.{no_narrowing}
use Rattle.bound_specs.specs.Cells.{no_cell, cells_of, SomeHasSpeed, AreAdjacent, RunFrom, RunInside, CellsFit, CellsCover}

-- a speed from the first cell's least to the greatest of cell n is in one of the cells up to n
has_below : (cs : List Cell) (v n : ℕ) → AreAdjacent cs → n < length cs → (get_or cs 0 no_cell).first ≤ v → v ≤ (get_or cs n no_cell).last →
    SomeHasSpeed cs v
has_below cs v zero h lt low high = (0, lt, (low, high))
has_below cs v (suc n) h lt low high = elim (cases_lt v (get_or cs (suc n) no_cell).first) [
  | inl under ↦ (let next : (get_or cs (suc n) no_cell).first ≡ (get_or cs n no_cell).last + 1 = rw (add-one n) at (h.next n (omega arith)) in
      has_below cs v n h (omega arith) low (omega (arith, next, under)))
  | inr over ↦ (suc n, lt, (over, high))
]

-- the cells have each speed from the least to the greatest
has_each : (cs : List Cell) (least greatest v : ℕ) → RunFrom least greatest cs → least ≤ v → v ≤ greatest → SomeHasSpeed cs v
has_each cs least greatest v h low high =
    has_below cs v (length cs - 1) h.adjacent (omega (arith, h.adjacent.some)) (omega (arith, h.first, low)) (omega (arith, h.last, high))

-- speeds that have a cell at each point run through the cells
runs_inside : (cells : List (List Cell)) (speeds : List ℕ) → length cells ≡ length speeds →
    ((k : ℕ) → k < length cells → SomeHasSpeed (cells_of cells k) (get_or speeds k 0)) → RunInside cells speeds
runs_inside [] [] e h = tt
runs_inside [] (v ∷ speeds) e h = absurd (omega arith)
runs_inside (cs ∷ cells) [] e h = absurd (omega arith)
runs_inside (cs ∷ cells) (v ∷ speeds) e h = (h 0 (omega arith), runs_inside cells speeds (omega arith) (λ k lt. h (suc k) (omega arith)))

-- no speed of a drive is above 12,000 cm/s, as long as neither the top speed nor the start speed is
capped : (r : Rules) (speeds : List ℕ) (k : ℕ) → r.top ≤ 12000 → r.start ≤ 12000 → IsDrive r speeds → get_or speeds k 0 ≤ 12000
capped r speeds zero top start d = omega (arith, d.start, start)
capped r speeds (suc k) top start d = elim (cases_lt k (length r.steps)) [
  | inl lt ↦ (let below = (d.steps k lt).top.1 in let at = rw add-one at below in omega (arith, at, top))
  | inr past ↦ rw (get_or_past speeds (suc k) 0 (omega (arith, d.count, past))) (omega arith)
]

-- cells that fit the rules cover them
pub fitting_cover : (r : Rules) (cells : List (List Cell)) → r.top ≤ 12000 → CellsFit r cells → CellsCover r cells
fitting_cover r cells top (least, greatest, h) speeds d =
    let g = h.ranges.greatest in
    let start : r.start ≤ 12000 = omega (arith, g.drive.drive.start, g.drive.cap 0) in
    let narrow : IsNarrowDrive r no_narrowing speeds = record {
      drive = d;
      cap = λ k. capped r speeds k top start d;
      idle = λ i a b. absurd (omega (arith, a, b));
    } in
    runs_inside cells speeds (omega (arith, h.points, d.count)) (λ k lt.
    let run = h.run k (omega (arith, h.points, lt)) in
    has_each (cells_of cells k) (get_or least k 0) (get_or greatest k 0) (get_or speeds k 0) run (h.ranges.least.below speeds narrow k) (g.above speeds narrow k))
