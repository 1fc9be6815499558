use Rattle.std.proofs.Common.{arith, ◌+◌, ◌-◌, ◌≡◌, length, get_or, ℕ, subst}
use Rattle.joined_rules.specs.Joined.{IsFirst, IsTooClose}
use Rattle.joined_rules.proofs.JoinedStops.{first_close}
use Rattle.joined_rules.proofs.layout.check_stops.Goals as goal

pub returns-in-Some-clause-refused : goal.returns-in-Some-clause-refused
returns-in-Some-clause-refused c =
    let v : ℕ = get_or c.args.visits.now (c.in-Some.k + 1) 0 in
    let same : v ≡ v + 1 - 1 = omega arith in (
      omega arith,
      subst (λ (n : ℕ). IsFirst (IsTooClose c.args.calls.now c.args.speed c.args.places.now) (length c.args.calls.now) n) same
          (first_close c.args.calls.now c.args.places.now c.args.visits.now c.args.stops.now c.args.speed c.in-Some.k c.requires.calls c.requires.rising c.requires.stops c.in-Some.ensures.found c.in-Some.ensures.close c.in-Some.ensures.first),
    )
