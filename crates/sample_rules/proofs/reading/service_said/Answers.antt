use Rattle.std.proofs.Common.{◌∙◌, ap}
use Rattle.line_file.specs.ServiceText.{service_of}
use Rattle.line_file.specs.declared.service.ServiceFault.TheVariants as fault
use Rattle.sample_rules.proofs.Answered.{never}
use Rattle.sample_rules.proofs.ServiceSays.{sample_service, service-says}
use Rattle.sample_rules.proofs.reading.service_said.Goals as goal

pub unreachable-requires : goal.unreachable-requires
unreachable-requires c =
    never c.read_service.result (service_of c.args.text.now) fault.NoMemory c.in-Err.fault sample_service c.read_service.ensures.answer c.in-Err.is
    c.in_default.not-NoMemory (ap service_of c.requires ∙ service-says)
