-- The rules that a line, a train and a service give together, from a standstill at the first call.
use Rattle.std.specs.Prelude.{ℕ, ◌≢◌, List, [], codes}
use Rattle.line_file.specs.declared.line.Line.{Line}
use Rattle.line_file.specs.declared.service.Service.{Service}
use Rattle.train_file.specs.declared.train.Train.{Train}
use Rattle.joined_rules.specs.declared.setup.Setup.{Setup}
use Rattle.joined_rules.specs.declared.fault.RulesFault.{RulesFault}
use Rattle.joined_rules.specs.declared.fault.RulesFault.TheVariants.{NoMemory}
use Rattle.joined_rules.specs.Joined.{Joins, Refuses, first_place}
use Rattle.rail_specs.specs.Rules.{Rules}
use Rattle.command_files.specs.Answers.{IsRefusal}
use Rattle.plan_files.specs.FaultWords.{rules_fault_words}

-- at rest at the first call, with the clock at 0 and no stretch
abbrev pub fresh_setup : Service → ℕ → Setup
fresh_setup service step = record { step = step; place = first_place service.calls; speed = 0; clock = 0; stretches = [] }

-- the rules from there
abbrev pub FreshRules : Line → Train → Service → ℕ → Rules → Type 0
FreshRules line train service step r = Joins line train service (fresh_setup service step) r

-- they are refused, and the answer is their refusal
pub record IsRulesRefusal (line : Line) (train : Train) (service : Service) (step : ℕ) (status : ℕ) (text : List ℕ) : Type 0 where
  pub fault : RulesFault
  pub sound : fault ≢ NoMemory
  pub refused : Refuses line train service (fresh_setup service step) fault
  pub says : IsRefusal (codes "rules") (rules_fault_words fault) status text
