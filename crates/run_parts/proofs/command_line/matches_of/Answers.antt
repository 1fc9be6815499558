use Rattle.std.proofs.Common.{◌∙◌, inl, inr}
use Rattle.clap.specs.Words.{app_of, kind_of}
use Rattle.run_parts.proofs.WordsLemmas.{taken-none, taken-some}
use Rattle.run_parts.proofs.command_line.matches_of.Goals as goal

pub returns-in-Ok : goal.returns-in-Ok
returns-in-Ok c =
    let words = c.texts.ensures in
    taken-some (app_of c.args.command) _ c.args.words.now c.in-Ok.matches c.requires
    words (c.in-Ok.ensures.kinds c.requires) c.in-Ok.ensures.matches

pub returns : goal.returns
returns c =
    let words = c.texts.ensures in
    elim (c.in-Err.ensures.kinds c.requires) [
      | inl memory ↦ absurd (c.in_default.not-OutOfMemory (c.kind.ensures ∙ memory))
      | inr among ↦ taken-none (app_of c.args.command) _ c.args.words.now (kind_of c.in-Err.error) words among
    ]
