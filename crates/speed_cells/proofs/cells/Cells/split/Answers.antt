use Rattle.std.proofs.Common.{arith, refl, ◌+◌, length}
use Rattle.std.proofs.lemmas.List.{get_or_default}
use Rattle.speed_cells.proofs.Points.{cell_of, read_at, starts_rise}
use Rattle.speed_cells.proofs.Splitting.{Made, made}
use Rattle.speed_cells.proofs.cells.Cells.split.Goals as goal
use Rattle.speed_cells.proofs.cells.Cells.split.Goals.{After-raise}

pub index-requires : goal.index-requires
index-requires c =
    let x = c.self.inside in
    let k = c.args.point in
    let a = cell_of x c.args.self.now k c.args.cell c.self.invariant c.self.view_is c.requires.point c.requires.cell in
    omega arith

pub overflow_add-at : goal.overflow_add-at
overflow_add-at c =
    let x = c.self.inside in
    let k = c.args.point in
    let a = cell_of x c.args.self.now k c.args.cell c.self.invariant c.self.view_is c.requires.point c.requires.cell in
    let here = read_at x.starts.items k k c.index.result.now c.index.ensures (omega arith) refl in
    omega arith

pub overflow_add-at-2 : goal.overflow_add-at-2
overflow_add-at-2 c =
    let x = c.self.inside in
    let k = c.args.point in
    let a = cell_of x c.args.self.now k c.args.cell c.self.invariant c.self.view_is c.requires.point c.requires.cell in
    let here = read_at x.starts.items k k c.index.result.now c.index.ensures (omega arith) refl in
    omega arith

pub insert-requires : goal.insert-requires
insert-requires c =
    let x = c.self.inside in
    let k = c.args.point in
    let a = cell_of x c.args.self.now k c.args.cell c.self.invariant c.self.view_is c.requires.point c.requires.cell in
    let here = read_at x.starts.items k k c.index.result.now c.index.ensures (omega arith) refl in
    omega arith

pub overflow_add-point : goal.overflow_add-point
overflow_add-point c =
    let x = c.self.inside in
    let k = c.args.point in
    let a = cell_of x c.args.self.now k c.args.cell c.self.invariant c.self.view_is c.requires.point c.requires.cell in
    omega (arith, c.ranges.point.fits)

pub raise-requires : goal.raise-requires
raise-requires c = λ k d lt.
    let x = c.self.inside in
    let most = length x.lasts.items in
    let low = starts_rise x.starts.items x.firsts.items x.lasts.items k most c.self.invariant (omega arith) (omega arith) in
    let same = get_or_default x.starts.items k d 0 lt in
    omega (arith, same, low)

-- what is there once the starts are raised
left : (c : After-raise) → Made c.self.inside c.args.self.now c.args.point c.args.cell c.raise.new.starts.items c.insert.new.self.items
left c =
    let x = c.self.inside in
    let k = c.args.point in
    let a = cell_of x c.args.self.now k c.args.cell c.self.invariant c.self.view_is c.requires.point c.requires.cell in
    let here = read_at x.starts.items k k c.index.result.now c.index.ensures (omega arith) refl in
    let at = c.index.result.now + c.args.cell in
    let whole = c.cell-whole.ensures.value in
    made x c.args.self.now k c.args.cell at c.cell-whole.result c.raise.new.starts.items c.insert.new.self.items
    c.self.invariant c.self.view_is c.requires.point c.requires.cell c.requires.two whole (omega (arith, here))
    c.in_ok-insert.ensures.items c.raise.ensures.length c.raise.ensures.below c.raise.ensures.above

pub invariant_of-self-2 : goal.invariant_of-self-2
invariant_of-self-2 c = (left (goal.at.invariant_of-self-2 c).After-raise).laid

pub returns-clause-split : goal.returns-clause-split
returns-clause-split c = (left (goal.at.returns-clause-split c).After-raise).shown

pub returns-clause-one_more : goal.returns-clause-one_more
returns-clause-one_more c = (left (goal.at.returns-clause-one_more c).After-raise).more
