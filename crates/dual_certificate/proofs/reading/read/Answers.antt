use Rattle.std.proofs.Common.{◌∙◌, ap, subst}
use Rattle.dual_certificate.specs.Grammar.{Gives, certificate_in}
use Rattle.dual_certificate.proofs.WholeLaws.{is_found, is_again}
use Rattle.dual_certificate.proofs.reading.read.Goals as goal

pub returns-clause-found : goal.returns-clause-found
returns-clause-found c = is_found c.args.text.now c.read_whole.result c.read_whole.ensures

pub returns-clause-again : goal.returns-clause-again
returns-clause-again c = λ d h e. subst (Gives (λ x. x) c.read_whole.result) (ap certificate_in e ∙ is_again d h) c.read_whole.ensures
