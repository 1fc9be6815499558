use Rattle.std.proofs.Common.{arith, refl, ◌+◌}
use Rattle.speed_cells.proofs.Points.{point_of, read_at}
use Rattle.speed_cells.proofs.cells.Cells.of.Goals as goal

pub overflow_add-point : goal.overflow_add-point
overflow_add-point c =
    let x = c.self.inside in
    let k = c.args.point in
    let p = point_of x c.args.self.now k c.self.invariant c.self.view_is c.requires in
    omega (arith, c.ranges.point.fits)

pub index-requires : goal.index-requires
index-requires c =
    let x = c.self.inside in
    let k = c.args.point in
    let p = point_of x c.args.self.now k c.self.invariant c.self.view_is c.requires in
    omega arith

pub index-requires-2 : goal.index-requires-2
index-requires-2 c =
    let x = c.self.inside in
    let k = c.args.point in
    let p = point_of x c.args.self.now k c.self.invariant c.self.view_is c.requires in
    omega arith

pub overflow_sub-result : goal.overflow_sub-result
overflow_sub-result c =
    let x = c.self.inside in
    let k = c.args.point in
    let p = point_of x c.args.self.now k c.self.invariant c.self.view_is c.requires in
    let next = read_at x.starts.items (k + 1) (k + 1) c.index.result.now c.index.ensures (omega arith) refl in
    let here = read_at x.starts.items k k c.index-2.result.now c.index-2.ensures (omega arith) refl in
    omega arith

pub returns-clause-value : goal.returns-clause-value
returns-clause-value c =
    let x = c.self.inside in
    let k = c.args.point in
    let p = point_of x c.args.self.now k c.self.invariant c.self.view_is c.requires in
    let next = read_at x.starts.items (k + 1) (k + 1) c.index.result.now c.index.ensures (omega arith) refl in
    let here = read_at x.starts.items k k c.index-2.result.now c.index-2.ensures (omega arith) refl in
    omega (arith, p.count)

pub returns-clause-some : goal.returns-clause-some
returns-clause-some c =
    let x = c.self.inside in
    let k = c.args.point in
    let p = point_of x c.args.self.now k c.self.invariant c.self.view_is c.requires in
    let next = read_at x.starts.items (k + 1) (k + 1) c.index.result.now c.index.ensures (omega arith) refl in
    let here = read_at x.starts.items k k c.index-2.result.now c.index-2.ensures (omega arith) refl in
    omega arith
