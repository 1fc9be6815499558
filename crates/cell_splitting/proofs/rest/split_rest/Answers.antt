use Rattle.std.proofs.Common.{ℕ, ◌≡◌, ◌≢◌, ◌<◌, ◌≤◌, ◌+◌, ◌⊎◌, ◌∙◌, List, [], All, length, sym, subst, refl, inl, inr, arith}
use Rattle.std.proofs.lemmas.Bool.{cases_eq}
use Rattle.std.proofs.lemmas.List.Elements.{All-from_get_or}
use Rattle.bound_specs.specs.declared.Cell.{Cell}
use Rattle.bound_specs.specs.Cells.{cells_of, AreSingle}
use Rattle.cell_splitting.proofs.SplitLemmas.{unsplit_cells, follow, count_more}
use Rattle.cell_splitting.proofs.rest.split_rest.Goals as goal

-- the cells of a point have one speed each
abbrev IsSingle : List Cell → Type 0
IsSingle cs = All (λ (a : Cell). a.first ≡ a.last) cs

-- what is spent or single up to a point is so up to the next
spent_on : (cells next : List (List Cell)) (left more p k : ℕ) → k < p + 1 → more ≤ left → (k < p → (left ≡ 0) ⊎ IsSingle (cells_of cells k))
    → (k < p → cells_of next k ≡ cells_of cells k) → (more ≡ 0) ⊎ IsSingle (cells_of next p) → (more ≡ 0) ⊎ IsSingle (cells_of next k)
spent_on cells next left more p k lt fewer before same here = elim (cases_eq k p) [
  | inl at ↦ elim here [
    | inl none ↦ inl none
    | inr one ↦ inr (subst (λ (n : ℕ). IsSingle (cells_of next n)) (sym at) one)
  ]
  | inr apart ↦ elim (before (omega arith)) [
    | inl none ↦ inl (omega (arith, none, fewer))
    | inr one ↦ inr (subst IsSingle (sym (same (omega arith))) one)
  ]
]

-- all points are single, or nothing is left
all_spent : (cells : List (List Cell)) (left p : ℕ) → length cells ≤ p → ((k : ℕ) → k < p → (left ≡ 0) ⊎ IsSingle (cells_of cells k)) → (left ≡ 0) ⊎ AreSingle cells
all_spent cells left p end h = elim (cases_eq left 0) [
  | inl none ↦ inl none
  | inr some ↦ inr (All-from_get_or IsSingle cells [] (λ k lt. elim (h k (omega (arith, lt, end))) [
    | inl none ↦ absurd (some none)
    | inr one ↦ one
  ]))
]

pub loop-point-init : goal.loop-point-init
loop-point-init c = record { come = unsplit_cells c.args.cells.now; points = refl; count = refl; spent = λ k lt. absurd (omega arith) }

pub loop-point-preserved : goal.loop-point-preserved
loop-point-preserved c =
    let i = c.loop-point.invariant in
    let e = c.in_ok-left.ensures in
    let p = c.loop-point.point in
    record {
      come = follow c.args.cells.now i.come e.come;
      points = e.points ∙ i.points;
      count = omega (arith, i.count, e.count);
      spent = λ k lt. spent_on c.loop-point.cells c.split_point.new.cells c.loop-point.left c.in_ok-left.left p k lt (omega (arith, e.count, count_more c.loop-point.cells e.come)) (i.spent k) (λ below. (let apart : k ≢ p = omega (arith, below) in e.others k apart)) e.spent;
    }

pub returns-clause-spent : goal.returns-clause-spent
returns-clause-spent c =
    let i = c.loop-point.invariant in
    elim (all_spent c.loop-point.cells c.loop-point.left c.loop-point.point (omega (arith, i.points, c.loop-point-test.false, c.points-point-end.ensures)) i.spent) [
      | inl none ↦ inl (omega (arith, i.count, none))
      | inr one ↦ inr one
    ]
