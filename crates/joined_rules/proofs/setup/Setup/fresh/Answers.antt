use Rattle.std.proofs.Common.{◌≡◌, ◌<◌, ◌≤◌, ◌-◌, ℕ, List, [], length, arith, subst}
use Rattle.line_file.specs.declared.service.Service.{Service}
use Rattle.line_file.specs.Shape.{IsService}
use Rattle.joined_rules.specs.declared.setup.Stretch.{Stretch}
use Rattle.joined_rules.specs.Joined.{IsSetup, first_place}
use Rattle.joined_rules.proofs.JoinedRising.{calls_rise}
use Rattle.joined_rules.proofs.setup.Setup.fresh.Goals as goal

fresh_is : (service : Service) (step place : ℕ) (stretches : List Stretch) → IsService service → 10 ≤ step → step ≤ 1000 → place ≡ first_place service.calls → stretches ≡ [] →
    IsSetup service (record { step = step; place = place; speed = 0; clock = 0; stretches = stretches })
fresh_is service step place stretches s low high at none = record {
  step = (low, high);
  place = (omega (arith, at), omega (arith, at, calls_rise service.calls s.calls.rising 0 (length service.calls - 1) (omega (arith, s.some)) (omega (arith, s.some))));
  speed = omega arith;
  clock = omega arith;
  stretches = λ k l. absurd (let past : k < length {A = Stretch} [] = subst (λ (xs : List Stretch). k < length xs) none l in omega (arith, past));
}

pub returns-clause-setup : goal.returns-clause-setup
returns-clause-setup c = λ s low high. fresh_is c.args.service.now c.args.step _ c.new.result s low high (rw c.items.ensures) c.new.ensures
