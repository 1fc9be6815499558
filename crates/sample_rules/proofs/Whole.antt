-- The rules of what a sample's files say.
use Rattle.std.proofs.Common.{ℕ, ◌≡◌, Result, Ok, Err, IfOk}
use Rattle.line_file.specs.LineText.{line_of}
use Rattle.line_file.specs.ServiceText.{service_of}
use Rattle.line_file.specs.declared.line.Line.{Line}
use Rattle.line_file.specs.declared.service.Service.{Service}
use Rattle.train_file.specs.TrainText.{train_of}
use Rattle.train_file.specs.declared.train.Train.{Train}
use Rattle.rail_specs.specs.Rules.{Rules}
use Rattle.plan_files.specs.FreshRules.{FreshRules}
use Rattle.sample_lines.specs.Texts.{line_text, service_text, train_text}
use Rattle.sample_rules.specs.SampleRules.{IsSampleRules}

pub sample_is : {E : Type 0} (n step : ℕ) (line : Line) (train : Train) (service : Service) (result : Result Rules E)
    → line_of (line_text n) ≡ Ok line → train_of train_text ≡ Ok train → service_of service_text ≡ Ok service
    → IfOk result (FreshRules line train service step) → IfOk result (IsSampleRules n step)
sample_is n step line train service (Ok r) l t s h = record { line = line; train = train; service = service; line_is = l; train_is = t; service_is = s; joined = h }
sample_is n step line train service (Err e) l t s h = tt
