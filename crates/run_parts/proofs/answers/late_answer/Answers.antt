use Rattle.std.proofs.Common.{◌∙◌, ap, refl, ℕ, List, ◌≡◌, Result, Ok, Err}
use Rattle.std.specs.Prelude.{IfOk}
use Rattle.rail_specs.specs.Rules.{Rules}
use Rattle.drive_report.specs.Report.{late_text}
use Rattle.phase_composer.specs.Best.{IsLate}
use Rattle.run_parts.specs.Runs.{IsSomeLateAnswer}
use Rattle.run_parts.proofs.answers.late_answer.Goals as goal

late_so : (r : Rules) (text : List ℕ) (timing arrival : ℕ) → IsLate r timing arrival → text ≡ late_text r timing arrival → IsSomeLateAnswer r 5 text
late_so r text timing arrival late says =
    let (speeds, greatest, first, at) = late.greatest in (
      speeds,
      (
        timing,
        record {
          greatest = greatest;
          none = late.none;
          first = first;
          ends = refl;
          says = says ∙ ap (late_text r timing) at;
        },
      ),
    )

pub returns : goal.returns
returns c = late_so c.args.rules.now c.in_ok-text.text.items c.args.timing c.args.arrival c.requires c.in_ok-text.ensures
