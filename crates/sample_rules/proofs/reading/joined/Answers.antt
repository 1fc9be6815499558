use Rattle.line_file.specs.LineText.{line_of}
use Rattle.line_file.specs.ServiceText.{service_of}
use Rattle.sample_lines.specs.Texts.{line_text, service_text}
use Rattle.plan_files.proofs.FreshLemmas.{fresh_is, fresh_joined}
use Rattle.sample_rules.proofs.Accepted.{never_refused}
use Rattle.sample_rules.proofs.Answered.{ok-is}
use Rattle.sample_rules.proofs.LinePasses.{line-says, sample_line}
use Rattle.sample_rules.proofs.ServiceSays.{sample_service, service-says}
use Rattle.sample_rules.proofs.TrainSays.{train-numbers}
use Rattle.sample_rules.proofs.reading.joined.Goals as goal

pub returns-in-Ok-clause-rules : goal.returns-in-Ok-clause-rules
returns-in-Ok-clause-rules g c =
    let f = c.fresh-setup.ensures in
    let fresh = fresh_is c.fresh-setup.result c.args.service.now 100 f.step f.place f.speed f.clock f.stretches in
    fresh_joined c.args.line.now c.args.train.now c.args.service.now 100 c.fresh-setup.result c.in-Ok.rules fresh c.in-Ok.ensures.joined

pub unreachable-requires : goal.unreachable-requires
unreachable-requires g c =
    let f = c.fresh-setup.ensures in
    let fresh = fresh_is c.fresh-setup.result c.args.service.now 100 f.step f.place f.speed f.clock f.stretches in
    let line = ok-is (line_of (line_text c.args.n)) c.args.line.now (sample_line c.args.n) c.requires.line (line-says c.args.n) in
    let service = ok-is (service_of service_text) c.args.service.now sample_service c.requires.service service-says in
    let numbers = train-numbers c.args.train.now c.requires.train in
    never_refused c.args.n c.args.line.now c.args.train.now c.args.service.now c.fresh-setup.result c.in-Err.fault line numbers.0 numbers.1 service fresh
    c.in-Err.ensures.refused c.in_default.not-NoMemory
