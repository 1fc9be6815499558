use Rattle.std.proofs.Common.{◌≡◌, ◌++◌, take, drop}
use Rattle.sheet_parts.specs.Names.{first_characters}
use Rattle.sheet_parts.proofs.names.characters_end.Given as goal

abbrev pub invariant-loop-i : goal.invariant-loop-i
invariant-loop-i l = first_characters l.most l.text ≡ take l.i l.text ++ first_characters l.left (drop l.i l.text)
