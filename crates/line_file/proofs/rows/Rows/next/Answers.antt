use Rattle.std.proofs.Common.{◌≡◌, ◌∙◌, sym, refl}
use Rattle.csv.specs.Records.{fields_of}
use Rattle.line_file.specs.Rows.{rows_left}
use Rattle.line_file.proofs.Reading.{after-blank, after-record, after-row, at-end, fewer-left}
use Rattle.line_file.proofs.rows.Rows.next.Goals as goal

pub returns-then-not-is_blank_row : goal.returns-then-not-is_blank_row
returns-then-not-is_blank_row c =
    let m = c.loop-row.invariant in
    let view : c.args.self.now ≡ rows_left c.self.inside.reader = sym (rw c.if-self.false at c.self.view_is) in
    let e = c.in-Ok-true.ensures in
    let read = rw c.in-Ok-true.field-0-test at (e.reads m.1.0 m.1.1) in
    let a = after-record c.loop-row.self-inside.reader c.read_byte_record.new.self (fields_of c.read_byte_record.new.row) m.1 read (e.ready m.1.0) e.flexible in
    rw m.0 (view ∙ m.2 ∙ after-row _ _ _ a (sym c.is_blank_row.ensures ∙ c.if-not-is_blank_row.true))

pub returns-in-Ok-false : goal.returns-in-Ok-false
returns-in-Ok-false c =
    let m = c.loop-row.invariant in
    let view : c.args.self.now ≡ rows_left c.self.inside.reader = sym (rw c.if-self.false at c.self.view_is) in
    let read = rw c.in-Ok-false.field-0-test at (c.in-Ok-false.ensures.reads m.1.0 m.1.1) in
    (view ∙ m.2 ∙ at-end c.loop-row.self-inside.reader c.read_byte_record.new.self (fields_of c.read_byte_record.new.row) m.1 read, refl)

pub loop-row-preserved : goal.loop-row-preserved
loop-row-preserved c =
    let m = c.loop-row.invariant in
    let e = c.in-Ok-true.ensures in
    let read = rw c.in-Ok-true.field-0-test at (e.reads m.1.0 m.1.1) in
    let a = after-record c.loop-row.self-inside.reader c.read_byte_record.new.self (fields_of c.read_byte_record.new.row) m.1 read (e.ready m.1.0) e.flexible in
    (m.0, a.reading, m.2 ∙ after-blank _ _ _ a (sym c.is_blank_row.ensures ∙ c.if-not-is_blank_row.false))

pub loop-row-smaller : goal.loop-row-smaller
loop-row-smaller c =
    let m = c.loop-row.invariant in
    let e = c.in-Ok-true.ensures in
    let read = rw c.in-Ok-true.field-0-test at (e.reads m.1.0 m.1.1) in
    fewer-left _ _ _ (after-record c.loop-row.self-inside.reader c.read_byte_record.new.self (fields_of c.read_byte_record.new.row) m.1 read (e.ready m.1.0) e.flexible)
