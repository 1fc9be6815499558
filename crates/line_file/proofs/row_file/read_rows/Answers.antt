use Rattle.std.proofs.Common.{◌∙◌, ap, sym, refl, Err, take}
use Rattle.std.proofs.lemmas.Result.{err_from_is_err_and}
use Rattle.csv.specs.Records.{fields_of}
use Rattle.line_file.proofs.RowFileLemmas.{adds, adds-bad, adds-none}
use Rattle.line_file.proofs.row_file.read_rows.Goals as goal

pub loop-read-preserved : goal.loop-read-preserved
loop-read-preserved g c =
    let m = c.loop-read.invariant in
    let all = c.args.rows.now in
    let row = fields_of c.next.new.row in
    let from = g.F.RowFile.from_rows in
    let taken = rw c.if-branch.true at c.in_ok-next.ensures in
    let a = adds from g.F.RowFile.row_fault all c.loop-read.n c.loop-read.read row c.next.new.self c.loop-read.rows m.within m.read m.left taken in
    let ok = c.in_ok-add_row.ensures.ok in
    record {
      few = c.in_ok-add_row.ensures.few;
      within = a.within;
      left = a.left;
      read = ok.1 ∙ ap (λ l. g.F.RowFile.with_row l row) m.read ∙ sym (ap from a.taken ∙ g.met.F.RowFile.adds (take c.loop-read.n all) row);
      fault = m.fault ∙ rw taken (a.fault ∙ rw ok.0 refl);
    }

pub returns-in_err-add_row : goal.returns-in_err-add_row
returns-in_err-add_row g c not_memory =
    let m = c.loop-read.invariant in
    let all = c.args.rows.now in
    let row = fields_of c.next.new.row in
    let taken = rw c.if-branch.true at c.in_ok-next.ensures in
    let a = adds g.F.RowFile.from_rows g.F.RowFile.row_fault all c.loop-read.n c.loop-read.read row c.next.new.self c.loop-read.rows m.within m.read m.left taken in
    let p = err_from_is_err_and c.from_residual-in_err-add_row.result c.from_residual-in_err-add_row.ensures.1 in
    let bad = c.in_err-add_row.ensures.fault (λ e. not_memory (p.1 ∙ ap Err (p.2 ∙ e))) in
    p.1 ∙ ap Err p.2 ∙ sym (adds-bad g.F.RowFile.from_rows g.F.RowFile.row_fault g.F.RowFile.whole_fault all c.loop-read.n c.loop-read.read row c.next.new.self c.loop-read.rows c.in_err-add_row.field-0.0 a taken m.fault bad)

pub returns-in-None : goal.returns-in-None
returns-in-None g c not_memory =
    let m = c.loop-read.invariant in
    let ended = rw c.if-branch.false at c.in_ok-next.ensures in
    let whole = adds-none g.F.RowFile.from_rows g.F.RowFile.row_fault g.F.RowFile.whole_fault c.args.rows.now c.loop-read.n c.loop-read.read c.loop-read.rows m.read m.left ended.0 m.fault in
    sym (whole ∙ rw (sym c.whole_fault.ensures ∙ c.in-None.is) refl)

pub returns-in-Some : goal.returns-in-Some
returns-in-Some g c not_memory =
    let m = c.loop-read.invariant in
    let ended = rw c.if-branch.false at c.in_ok-next.ensures in
    let whole = adds-none g.F.RowFile.from_rows g.F.RowFile.row_fault g.F.RowFile.whole_fault c.args.rows.now c.loop-read.n c.loop-read.read c.loop-read.rows m.read m.left ended.0 m.fault in
    sym (whole ∙ rw (sym c.whole_fault.ensures ∙ c.in-Some.is) refl)
