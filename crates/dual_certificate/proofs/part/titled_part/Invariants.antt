use Rattle.std.proofs.Common.{◌≡◌, true, length}
use Rattle.dual_certificate.specs.Part.{part_from, titled_part, title_words}
use Rattle.dual_certificate.proofs.part.titled_part.Given as goal

abbrev pub invariant-loop-line : goal.invariant-loop-line
invariant-loop-line l = titled_part l.fn.title l.report ≡ part_from (title_words l.fn.title) true l.rest

abbrev pub decreases-loop-line : goal.decreases-loop-line
decreases-loop-line l = length l.rest
