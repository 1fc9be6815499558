use Rattle.std.proofs.Common.{ℕ, suc, ◌≡◌, ◌<◌, ◌≤◌, ◌+◌, ◌/◌, ◌∙◌, List, length, map, ap, refl, arith}
use Rattle.bound_specs.specs.declared.Cell.{Cell}
use Rattle.bound_specs.specs.Cells.{cell_count}
use Rattle.cell_splitting.specs.Even.{halved, halvings, AreEven}
use Rattle.cell_splitting.proofs.SplitLemmas.{unsplit_cells, follow}
use Rattle.cell_splitting.proofs.Counting.{last_halving}
use Rattle.cell_splitting.proofs.even.split_evenly.Goals as goal

-- what is known of cells that were halved so many times
record IsHalved (whole cells : List (List Cell)) (budget times limit : ℕ) : Type 0 where
  value : cells ≡ halvings times whole
  within : cell_count cells ≤ limit
  most : limit ≡ length whole + budget / 2

-- one more time is too much
even_over : (whole cells : List (List Cell)) (budget times limit : ℕ) → IsHalved whole cells budget times limit → times ≤ 14
    → limit < cell_count (map halved cells) → (n : ℕ) × AreEven whole budget cells n
even_over whole cells budget times limit h few over = (
  times,
  record {
    few = few;
    value = h.value;
    within = omega (arith, h.within, h.most);
    most = λ k le in_it. last_halving whole times limit (omega (arith, over, ap (λ (x : List (List Cell)). cell_count (map halved x)) h.value)) k (omega (arith, in_it, h.most));
  },
)

-- fourteen times are the most
even_all : (whole cells : List (List Cell)) (budget times limit : ℕ) → IsHalved whole cells budget times limit → times ≡ 14 → (n : ℕ) × AreEven whole budget cells n
even_all whole cells budget times limit h all = (
  times,
  record {
    few = omega (arith, all);
    value = h.value;
    within = omega (arith, h.within, h.most);
    most = λ k le in_it. omega (arith, le, all);
  },
)

pub loop-init : goal.loop-init
loop-init c = record {
  come = unsplit_cells c.args.cells.now;
  value = refl;
  within = omega (arith, c.requires.whole, c.points.ensures);
}

pub overflow_sub-limit : goal.overflow_sub-limit
overflow_sub-limit c = omega (arith, c.loop.invariant.within, c.count.ensures)

pub returns-then-count_splittable-limit-clause-even : goal.returns-then-count_splittable-limit-clause-even
returns-then-count_splittable-limit-clause-even c =
    even_over c.args.cells.now c.loop.cells c.args.budget c.loop.counter (c.points.result + c.args.budget / 2)
    (record { value = c.loop.invariant.value; within = c.loop.invariant.within; most = ap (λ (n : ℕ). n + c.args.budget / 2) c.points.ensures })
    (omega (arith, c.loop-test.true))
    (omega (arith, c.if-count_splittable-limit.true, c.count.ensures, c.count_splittable.ensures, c.loop.invariant.within))

pub returns-then-count_splittable-limit-clause-come : goal.returns-then-count_splittable-limit-clause-come
returns-then-count_splittable-limit-clause-come c = c.loop.invariant.come

pub loop-preserved : goal.loop-preserved
loop-preserved c =
    let i = c.loop.invariant in
    let e = c.in_ok-halve_all.ensures in
    record {
      come = follow c.args.cells.now i.come e.come;
      value = e.value ∙ ap (map halved) i.value ∙ next c.args.cells.now c.loop.counter;
      within = omega (arith, ap cell_count e.value, c.count_splittable.ensures, c.if-count_splittable-limit.false, c.count.ensures, i.within);
    }
  where
    next : (whole : List (List Cell)) (n : ℕ) → map halved (halvings n whole) ≡ halvings (n + 1) whole
    next whole n = (let up : suc n ≡ n + 1 = omega arith in ap (λ (k : ℕ). halvings k whole) up)

pub returns-clause-even : goal.returns-clause-even
returns-clause-even c =
    even_all c.args.cells.now c.loop.cells c.args.budget c.loop.counter (c.points.result + c.args.budget / 2)
    (record { value = c.loop.invariant.value; within = c.loop.invariant.within; most = ap (λ (n : ℕ). n + c.args.budget / 2) c.points.ensures })
    (omega (arith, c.loop-test.false, c.loop.auto.counter-end))

pub returns-clause-come : goal.returns-clause-come
returns-clause-come c = c.loop.invariant.come
