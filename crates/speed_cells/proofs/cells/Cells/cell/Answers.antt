use Rattle.std.proofs.Common.{arith, refl, sym, ◌≡◌, ◌∙◌, ◌+◌, ◌-◌, get_or}
use Rattle.speed_cells.specs.Layout.{first_at, above}
use Rattle.speed_cells.proofs.Points.{cell_of, read_at, cell_by, above-next, above-last}
use Rattle.speed_cells.proofs.cells.Cells.cell.Goals as goal
use Rattle.speed_cells.proofs.cells.Cells.cell.Goals.{After-index-3, then-at-index, else-at-index}

pub index-requires : goal.index-requires
index-requires c =
    let x = c.self.inside in
    let k = c.args.point in
    let a = cell_of x c.args.self.now k c.args.cell c.self.invariant c.self.view_is c.requires.point c.requires.cell in
    omega arith

pub overflow_add-at : goal.overflow_add-at
overflow_add-at c =
    let x = c.self.inside in
    let k = c.args.point in
    let a = cell_of x c.args.self.now k c.args.cell c.self.invariant c.self.view_is c.requires.point c.requires.cell in
    let here = read_at x.starts.items k k c.index.result.now c.index.ensures (omega arith) refl in
    omega arith

pub overflow_add-at-2 : goal.overflow_add-at-2
overflow_add-at-2 c =
    let x = c.self.inside in
    let k = c.args.point in
    let a = cell_of x c.args.self.now k c.args.cell c.self.invariant c.self.view_is c.requires.point c.requires.cell in
    let here = read_at x.starts.items k k c.index.result.now c.index.ensures (omega arith) refl in
    omega arith

pub overflow_add-point : goal.overflow_add-point
overflow_add-point c =
    let x = c.self.inside in
    let k = c.args.point in
    let a = cell_of x c.args.self.now k c.args.cell c.self.invariant c.self.view_is c.requires.point c.requires.cell in
    omega (arith, c.ranges.point.fits)

pub index-requires-2 : goal.index-requires-2
index-requires-2 c =
    let x = c.self.inside in
    let k = c.args.point in
    let a = cell_of x c.args.self.now k c.args.cell c.self.invariant c.self.view_is c.requires.point c.requires.cell in
    omega arith

pub index-requires-then-at-index : goal.index-requires-then-at-index
index-requires-then-at-index c =
    let x = c.self.inside in
    let k = c.args.point in
    let a = cell_of x c.args.self.now k c.args.cell c.self.invariant c.self.view_is c.requires.point c.requires.cell in
    let here = read_at x.starts.items k k c.index.result.now c.index.ensures (omega arith) refl in
    let next = read_at x.starts.items (k + 1) (k + 1) c.index-2.result.now c.index-2.ensures (omega arith) refl in
    omega arith

pub overflow_sub-last : goal.overflow_sub-last
overflow_sub-last c =
    let x = c.self.inside in
    let k = c.args.point in
    let a = cell_of x c.args.self.now k c.args.cell c.self.invariant c.self.view_is c.requires.point c.requires.cell in
    let here = read_at x.starts.items k k c.index.result.now c.index.ensures (omega arith) refl in
    let next = read_at x.starts.items (k + 1) (k + 1) c.index-2.result.now c.index-2.ensures (omega arith) refl in
    let at = c.index.result.now + c.args.cell in
    let up = above-next x.starts.items x.firsts.items x.lasts.items k c.args.cell (omega arith) in
    let then = read_at x.firsts.items (at + 1) (get_or x.starts.items k 0 + (c.args.cell + 1)) c.index-then-at-index.result.now
    c.index-then-at-index.ensures (omega arith) (omega arith) in
    omega arith

pub index-requires-else-at-index : goal.index-requires-else-at-index
index-requires-else-at-index c =
    let x = c.self.inside in
    let k = c.args.point in
    let a = cell_of x c.args.self.now k c.args.cell c.self.invariant c.self.view_is c.requires.point c.requires.cell in
    omega arith

pub index-requires-3 : goal.index-requires-3
index-requires-3 c =
    let x = c.self.inside in
    let k = c.args.point in
    let a = cell_of x c.args.self.now k c.args.cell c.self.invariant c.self.view_is c.requires.point c.requires.cell in
    let here = read_at x.starts.items k k c.index.result.now c.index.ensures (omega arith) refl in
    omega arith

-- the first speed that is read
first_read : (c : After-index-3) → c.index-3.result.now ≡ first_at c.self.inside.starts.items c.self.inside.firsts.items c.args.point c.args.cell
first_read c =
    let x = c.self.inside in
    let k = c.args.point in
    let a = cell_of x c.args.self.now k c.args.cell c.self.invariant c.self.view_is c.requires.point c.requires.cell in
    let here = read_at x.starts.items k k c.index.result.now c.index.ensures (omega arith) refl in
    let at = c.index.result.now + c.args.cell in
    read_at x.firsts.items at (get_or x.starts.items k 0 + c.args.cell) c.index-3.result.now c.index-3.ensures (omega arith) (omega arith)

-- the last speed is the one below what is above the cell
last_found : (c : After-index-3) →
    c.if-at-index.last ≡ above c.self.inside.starts.items c.self.inside.firsts.items c.self.inside.lasts.items c.args.point c.args.cell - 1
last_found c =
    let x = c.self.inside in
    let k = c.args.point in
    let a = cell_of x c.args.self.now k c.args.cell c.self.invariant c.self.view_is c.requires.point c.requires.cell in
    let here = read_at x.starts.items k k c.index.result.now c.index.ensures (omega arith) refl in
    let next = read_at x.starts.items (k + 1) (k + 1) c.index-2.result.now c.index-2.ensures (omega arith) refl in
    let at = c.index.result.now + c.args.cell in
    elim c.if-at-index.branch [
      | then-at-index w ↦ (let up = above-next x.starts.items x.firsts.items x.lasts.items k c.args.cell (omega arith) in
          let behind = read_at x.firsts.items (at + 1) (get_or x.starts.items k 0 + (c.args.cell + 1)) w.index-then-at-index.result.now
          w.index-then-at-index.ensures (omega arith) (omega arith) in
          omega arith)
      | else-at-index w ↦ (let up = above-last x.starts.items x.firsts.items x.lasts.items k c.args.cell (omega arith) in
          let end = read_at x.lasts.items k k w.index-else-at-index.result.now w.index-else-at-index.ensures (omega arith) refl in
          omega arith)
    ]

pub returns-clause-value : goal.returns-clause-value
returns-clause-value c =
    let x = c.self.inside in
    let k = c.args.point in
    let a = cell_of x c.args.self.now k c.args.cell c.self.invariant c.self.view_is c.requires.point c.requires.cell in
    let b = (goal.at.returns-clause-value c).After-index-3 in
    let first = first_at x.starts.items x.firsts.items k c.args.cell in
    let last = above x.starts.items x.firsts.items x.lasts.items k c.args.cell - 1 in
    cell_by c.index-3.result.now c.if-at-index.last first last (first_read b) (last_found b) ∙ sym a.is

pub returns-clause-in_range : goal.returns-clause-in_range
returns-clause-in_range c =
    let x = c.self.inside in
    let k = c.args.point in
    let a = cell_of x c.args.self.now k c.args.cell c.self.invariant c.self.view_is c.requires.point c.requires.cell in
    let b = (goal.at.returns-clause-in_range c).After-index-3 in
    (omega (arith, a.rises, first_read b, last_found b), omega (arith, a.high, last_found b))
