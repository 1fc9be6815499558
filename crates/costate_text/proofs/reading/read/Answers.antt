use Rattle.std.proofs.Common.{◌∙◌, ap, subst}
use Rattle.dual_certificate.specs.Grammar.{Gives}
use Rattle.costate_text.specs.Grammar.{certificate_of}
use Rattle.costate_text.proofs.TextLaws.{is_found, is_again}
use Rattle.costate_text.proofs.reading.read.Goals as goal

pub returns-clause-found : goal.returns-clause-found
returns-clause-found c = is_found c.args.text.now c.read_lines.result c.read_lines.ensures

pub returns-clause-again : goal.returns-clause-again
returns-clause-again c = λ d h e. subst (Gives (λ x. x) c.read_lines.result) (ap certificate_of e ∙ is_again d h) c.read_lines.ensures
