-- The rules of a sample: those that its line, its train and its service give together.
use Rattle.std.specs.Prelude.{ℕ, ◌≡◌, Ok}
use Rattle.line_file.specs.LineText.{line_of}
use Rattle.line_file.specs.ServiceText.{service_of}
use Rattle.line_file.specs.declared.line.Line.{Line}
use Rattle.line_file.specs.declared.service.Service.{Service}
use Rattle.train_file.specs.TrainText.{train_of}
use Rattle.train_file.specs.declared.train.Train.{Train}
use Rattle.rail_specs.specs.Rules.{Rules}
use Rattle.plan_files.specs.FreshRules.{FreshRules}
use Rattle.sample_lines.specs.Texts.{line_text, service_text, train_text}

-- the rules of sample n, by a grid of this step in metres: of a train at rest at the first call
pub record IsSampleRules (n step : ℕ) (r : Rules) : Type 0 where
  pub line : Line
  pub train : Train
  pub service : Service
  pub line_is : line_of (line_text n) ≡ Ok line
  pub train_is : train_of train_text ≡ Ok train
  pub service_is : service_of service_text ≡ Ok service
  pub joined : FreshRules line train service step r
