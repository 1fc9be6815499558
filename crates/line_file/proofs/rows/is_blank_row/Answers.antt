use Rattle.std.proofs.Common.{◌≡◌, ◌∙◌, ap, rules, false, nat_eq}
use Rattle.line_file.proofs.Blank.{blank-none, blank-one, blank-many}
use Rattle.csv.specs.Records.{fields_of}
use Rattle.line_file.specs.Rows.{is_empty}
use Rattle.line_file.proofs.rows.is_blank_row.Goals as goal

pub returns-in-None : goal.returns-in-None
returns-in-None c = blank-none _ (rw c.in-None.is at c.get.ensures.value)

pub returns-then-len-eq1 : goal.returns-then-len-eq1
returns-then-len-eq1 c =
    c.is_empty.ensures ∙ ap is_empty c.trim_spaces.ensures ∙ blank-one (fields_of c.args.row.now) c.in-Some.first.now (rw c.in-Some.is at c.get.ensures.value) (rw c.len.ensures at c.if-len-eq1.true)

pub returns-else-len-eq1 : goal.returns-else-len-eq1
returns-else-len-eq1 c =
    let no : nat_eq c.len.result 1 ≡ false = search rules in
    no ∙ blank-many (fields_of c.args.row.now) c.in-Some.first.now (rw c.in-Some.is at c.get.ensures.value) (rw c.len.ensures at c.if-len-eq1.false)
