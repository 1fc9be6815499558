use Rattle.std.proofs.Common.{refl, inl, inr}
use Rattle.std.specs.Str.{is_utf8}
use Rattle.std.proofs.lemmas.Str.{IsUtf8-from_is_utf8, is_utf8-from_IsUtf8}
use Rattle.std.proofs.lemmas.Bool.{cases_Bool}
use Rattle.train_file.proofs.read.read_table.Goals as goal

pub returns-in_default-clause-refused : goal.returns-in_default-clause-refused
returns-in_default-clause-refused c other =
    let no = c.in_default.ensures.cases.0 in (
      refl,
      elim (cases_Bool (is_utf8 c.args.text.now)) [
        | inl good ↦ absurd (no (IsUtf8-from_is_utf8 _ good))
        | inr bad ↦ rw bad refl
      ],
    )

pub returns-in-Ok-table_from_str-clause-ok : goal.returns-in-Ok-table_from_str-clause-ok
returns-in-Ok-table_from_str-clause-ok c =
    let text = c.in-Ok.ensures.cases in
    let yes = is_utf8-from_IsUtf8 c.args.text.now text.1 in
    rw (yes, ← text.0) c.in-Ok-table_from_str.ensures.ok
