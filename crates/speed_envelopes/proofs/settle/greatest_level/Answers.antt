use Rattle.std.proofs.Common.{arith, inl, inr}
use Rattle.std.proofs.lemmas.Bool.{cases_lt}
use Rattle.std.proofs.lemmas.Int.{ints}
use Rattle.speed_envelopes.proofs.Parts.{asks-rises}
use Rattle.speed_envelopes.proofs.settle.greatest_level.Goals as goal

pub loop-low-preserved : goal.loop-low-preserved
loop-low-preserved c =
    record {
      least = c.loop-low.invariant.least;
      ordered = omega arith;
      most = omega arith;
      enough = c.loop-low.invariant.enough;
      above = λ w l k. elim (cases_lt w c.probe-level.result) [
        | inl less ↦ omega arith
        | inr more ↦ (let h = asks-rises c.args.bounds.now c.args.end c.args.i c.probe-level.result w c.known.ensures more in absurd (omega (arith, ints)))
      ];
    }
