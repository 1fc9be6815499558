use Rattle.std.proofs.Common.{◌≡◌, sym, get_or, rules, true, pos, w64}
use Rattle.std.proofs.lemmas.Int.{to_z-of_z}
use mir.Val.{SFits}
use Rattle.std.specs.Result.{is_ok}
use Rattle.train_file.specs.TrainText.{rows_of}
use Rattle.train_file.proofs.Reading.{rows_end, rows_more, rows_wrong}
use Rattle.train_file.proofs.values.rows_of.Goals as goal

pub returns-in_err-row : goal.returns-in_err-row
returns-in_err-row c other =
    let speed : SFits w64 (get_or c.args.pairs.now c.loop-pair.pair-index (pos 0, pos 0)).0 = search rules in
    let force : SFits w64 (get_or c.args.pairs.now c.loop-pair.pair-index (pos 0, pos 0)).1 = search rules in
    let row = simp to_z-of_z at (rw c.in_err-row.was at c.row_of.ensures) in
    let wrong = rows_wrong c.args.key c.args.pairs.now c.loop-pair.pair-index (pos 0, pos 0) c.loop-pair.rows.items c.in_err-row.field-0.0 (rows_of c.args.key c.args.pairs.now) c.loop-pair-test.true c.loop-pair.invariant row in
    rw wrong (search rules)

pub loop-pair-preserved : goal.loop-pair-preserved
loop-pair-preserved c =
    let speed : SFits w64 (get_or c.args.pairs.now c.loop-pair.pair-index (pos 0, pos 0)).0 = search rules in
    let force : SFits w64 (get_or c.args.pairs.now c.loop-pair.pair-index (pos 0, pos 0)).1 = search rules in
    let row = simp to_z-of_z at (rw c.in_ok-row.was at c.row_of.ensures) in
    let good : is_ok c.push.result ≡ true = search rules in
    let items = rw good at c.push.ensures.items in
    rw items (rows_more c.args.key c.args.pairs.now c.loop-pair.pair-index (pos 0, pos 0) c.loop-pair.rows.items c.in_ok-row.row (rows_of c.args.key c.args.pairs.now) c.loop-pair-test.true c.loop-pair.invariant row)

pub returns : goal.returns
returns c other =
    sym (rows_end c.args.key c.args.pairs.now c.loop-pair.pair-index c.loop-pair.rows.items (rows_of c.args.key c.args.pairs.now) c.loop-pair-test.false c.loop-pair.invariant)
