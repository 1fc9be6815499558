-- Joined rules from a standstill at the first call.
use Rattle.std.proofs.Common.{ℕ, ◌≡◌, [], subst}
use Rattle.joined_rules.specs.declared.setup.Setup.{Setup}
use Rattle.joined_rules.specs.Joined.{Joins, first_place}
use Rattle.rail_specs.specs.Rules.{Rules}
use Rattle.line_file.specs.declared.line.Line.{Line}
use Rattle.line_file.specs.declared.service.Service.{Service}
use Rattle.train_file.specs.declared.train.Train.{Train}
use Rattle.plan_files.specs.FreshRules.{FreshRules, fresh_setup}

-- a setup at rest at the first call
pub fresh_is : (s : Setup) (service : Service) (step : ℕ)
    → s.step ≡ step → s.place ≡ first_place service.calls → s.speed ≡ 0 → s.clock ≡ 0 → s.stretches ≡ [] → s ≡ fresh_setup service step
fresh_is s service step a b c d e = λ i. record { step = a i; place = b i; speed = c i; clock = d i; stretches = e i }

-- rules from there
pub fresh_joined : (line : Line) (train : Train) (service : Service) (step : ℕ) (s : Setup) (r : Rules) → s ≡ fresh_setup service step
    → Joins line train service s r → FreshRules line train service step r
fresh_joined line train service step s r e j = subst (λ (q : Setup). Joins line train service q r) e j
