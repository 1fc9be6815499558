use Rattle.std.proofs.Common.{◌≡◌, ◌∷◌, map, take, string_bytes, codes}
use Rattle.sheet_run.proofs.command_line.with_program.Given as goal

abbrev pub invariant-loop-word : goal.invariant-loop-word
invariant-loop-word l = l.all ≡ codes "sheet" ∷ map string_bytes (take l.word-index l.word-items)
