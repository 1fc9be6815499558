-- What a run of the program may write, and with which status.
use Rattle.std.specs.Prelude.{ℕ, ◌≡◌, ◌++◌, ℤ, List, Option, None, codes, length, ◌⊎◌}
use Rattle.line_file.specs.declared.line.Line.{Line}
use Rattle.line_file.specs.declared.service.Service.{Service}
use Rattle.train_file.specs.declared.train.Train.{Train}
use Rattle.rail_specs.specs.Rules.{Rules}
use Rattle.rail_specs.specs.Cost.{regained_cost, traction_cost}
use Rattle.rail_base.specs.Texts.{line as text_line}
use Rattle.edge_io.specs.Faults.{Told}
use Rattle.command_files.specs.Files.{MayAnswer}
use Rattle.plan_files.specs.Kinds.{PlanEnds, PlanSays, RouteEnds, RouteSays}
use Rattle.plan_files.specs.FreshRules.{FreshRules, IsRulesRefusal}
use Rattle.run_parts.specs.Reports.{CheckEnds, CheckSays}
use Rattle.run_parts.specs.Runs.{regeneration_of}
use Rattle.costate_run.specs.Check.{IsReportAnswer}
use Rattle.costate_run.specs.Plan.{IsPlanAnswer}
use Rattle.costate_run.specs.Words.{Command, Usage, Plan, Route, Check}

-- the text about usage: a line for each command
abbrev pub usage_text : List ℕ
usage_text =
    text_line (codes "usage: costate plan LINE TRAIN SERVICE [--step N] [--tolerance N]")
    ++ text_line (codes "       costate route FILE [--tolerance N]")
    ++ text_line (codes "       costate check LINE TRAIN SERVICE REPORT [--step N]")

-- ---- answers to what files say

-- the answer to rules at this cost of work, where this share of braking work comes back, at this tolerance, where so many steps were counted:
-- as many as the rules have
abbrev pub IsRulesAnswer : (ℤ → ℤ) → ℕ → ℕ → Option ℕ → ℕ → Rules → ℕ → List ℕ → Type 0
IsRulesAnswer cost share tolerance regeneration counted r status text =
    (counted ≡ length r.steps) × IsPlanAnswer cost share r tolerance regeneration status text

-- the answer to a line, a train and a service, with a grid of this step, at this tolerance: that to their joined rules, or the refusal of
-- these
abbrev pub IsJoinedAnswer : Line → Train → Service → ℕ → ℕ → ℕ → ℕ → List ℕ → Type 0
IsJoinedAnswer line train service step tolerance counted =
    MayAnswer (IsRulesRefusal line train service step) (FreshRules line train service step)
    (IsRulesAnswer (regained_cost train.regeneration) train.regeneration tolerance (regeneration_of train) counted)

-- the answer to rules and a report at this cost of work, where this share comes back and so many steps were counted: as many as the rules have
abbrev pub IsRulesCheck : (ℤ → ℤ) → ℕ → List ℕ → ℕ → Rules → ℕ → List ℕ → Type 0
IsRulesCheck cost share report counted r status text = (counted ≡ length r.steps) × IsReportAnswer cost share r report status text

-- the answer to a line, a train, a service and a report, with a grid of this step: the check of the report against their joined rules, or
-- the refusal of these
abbrev pub IsJoinedCheck : Line → Train → Service → List ℕ → ℕ → ℕ → ℕ → List ℕ → Type 0
IsJoinedCheck line train service report step counted =
    MayAnswer (IsRulesRefusal line train service step) (FreshRules line train service step)
    (IsRulesCheck (regained_cost train.regeneration) train.regeneration report counted)

-- ---- a run

-- the run of a command may write this text and end with this status, where it counted so many steps: over a shelf that tells this, and
-- had these counts of faults before and has these now
abbrev pub MayWrite : Command → (List ℕ → Told) → (List ℕ → ℕ) → (List ℕ → ℕ) → ℕ → ℕ → List ℕ → Type 0
MayWrite Usage told before now counted status text = (counted ≡ 0) × (status ≡ 2) × (text ≡ usage_text)
MayWrite (Plan line train service step tolerance) told before now counted status text =
    MayAnswer (PlanEnds line train service told before now) (PlanSays line train service told)
    (λ said. IsJoinedAnswer said.0 said.1.0 said.1.1.0 step tolerance counted) status text
MayWrite (Route file tolerance) told before now counted status text =
    MayAnswer (RouteEnds file told before now) (RouteSays file told) (λ said. IsRulesAnswer traction_cost 0 tolerance None counted said.0) status text
MayWrite (Check line train service report step) told before now counted status text =
    MayAnswer (CheckEnds line train service report told before now) (CheckSays line train service report told)
    (λ said. IsJoinedCheck said.0 said.1.0 said.1.1.0 said.1.1.1.0 step counted) status text

-- the words name this file
abbrev pub Names : Command → List ℕ → Type 0
Names Usage name = ⊥
Names (Plan line train service step tolerance) name = (name ≡ line) ⊎ (name ≡ train) ⊎ (name ≡ service)
Names (Route file tolerance) name = name ≡ file
Names (Check line train service report step) name = (name ≡ line) ⊎ (name ≡ train) ⊎ (name ≡ service) ⊎ (name ≡ report)
