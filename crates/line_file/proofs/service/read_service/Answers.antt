use Rattle.line_file.proofs.RowFileLemmas.{told}
use Rattle.line_file.proofs.ServiceShape.{service-IsService}
use Rattle.line_file.specs.Shape.{IsService}
use Rattle.line_file.specs.ServiceText.{service_of}
use Rattle.line_file.specs.declared.service.ServiceFault.TheVariants.{NoMemory}
use Rattle.line_file.proofs.service.read_service.Goals as goal

pub returns-clause-shape : goal.returns-clause-shape
returns-clause-shape c = told IsService NoMemory (service_of c.args.text.now) c.read_file.result (service-IsService c.args.text.now) c.read_file.ensures
