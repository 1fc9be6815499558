-- What a run of the program leaves: its status and what it writes, and when a fault may come.
use Rattle.std.specs.Prelude.{ℕ, ◌≡◌, ◌++◌, ℤ, List, Option, None, codes, length, ◌⊎◌}
use Rattle.line_file.specs.declared.line.Line.{Line}
use Rattle.line_file.specs.declared.service.Service.{Service}
use Rattle.train_file.specs.declared.train.Train.{Train}
use Rattle.rail_specs.specs.Rules.{Rules}
use Rattle.rail_specs.specs.Cost.{regained_cost, traction_cost}
use Rattle.rail_base.specs.Texts.{line as text_line}
use Rattle.edge_io.specs.Faults.{Told}
use Rattle.command_files.specs.Files.{MayAnswer}
use Rattle.plan_files.specs.Kinds.{PlanEnds, PlanSays, RouteEnds, RouteSays}
use Rattle.plan_files.specs.FreshRules.{FreshRules, IsRulesRefusal}
use Rattle.run_parts.specs.Reports.{CheckEnds, CheckSays}
use Rattle.run_parts.specs.Runs.{regeneration_of}
use Rattle.advice_run.specs.Check.{IsReportAnswer}
use Rattle.advice_run.specs.Plan.{IsPlanAnswer}
use Rattle.advice_run.specs.Sample.{IsSampleAnswer}
use Rattle.advice_run.specs.Session.{IsAdvice, IsSessionAnswer, SessionEnds, SessionSays, Starts}
use Rattle.event_file.specs.declared.event.Event.{Event}
use Rattle.advice_run.specs.Words.{Command, Usage, Route, Plan, Check, Session, Sample}

-- the text about usage: a line for each command
abbrev pub usage_text : List ℕ
usage_text =
    text_line (codes "usage: advice route FILE [--splits N] [--tolerance N]")
    ++ text_line (codes "       advice plan LINE TRAIN SERVICE [--step N] [--splits N] [--tolerance N]")
    ++ text_line (codes "       advice check LINE TRAIN SERVICE REPORT [--step N]")
    ++ text_line (codes "       advice session LINE TRAIN SERVICE EVENTS [--step N] [--splits N] [--tolerance N]")
    ++ text_line (codes "       advice sample N [--splits N] [--tolerance N]")

-- ---- answers to what files say

-- the answer to rules at this cost of work, with so many splits, at this tolerance, where so many steps were counted: as many as the rules
-- have
abbrev pub IsRulesAnswer : (ℤ → ℤ) → ℕ → ℕ → Option ℕ → ℕ → Rules → ℕ → List ℕ → Type 0
IsRulesAnswer cost splits tolerance regeneration counted r status text =
    (counted ≡ length r.steps) × IsPlanAnswer cost r splits tolerance regeneration status text

-- the answer to a line, a train and a service, with a grid of this step, with so many splits, at this tolerance: that to their joined
-- rules, or the refusal of these
abbrev pub IsJoinedAnswer : Line → Train → Service → ℕ → ℕ → ℕ → ℕ → ℕ → List ℕ → Type 0
IsJoinedAnswer line train service step splits tolerance counted =
    MayAnswer (IsRulesRefusal line train service step) (FreshRules line train service step)
    (IsRulesAnswer (regained_cost train.regeneration) splits tolerance (regeneration_of train) counted)

-- the answer to rules and a report at this cost of work, where so many steps were counted: as many as the rules have
abbrev pub IsRulesCheck : (ℤ → ℤ) → List ℕ → ℕ → Rules → ℕ → List ℕ → Type 0
IsRulesCheck cost report counted r status text = (counted ≡ length r.steps) × IsReportAnswer cost r report status text

-- the answer to a line, a train, a service and a report, with a grid of this step: the check of the report against their joined rules, or
-- the refusal of these
abbrev pub IsJoinedCheck : Line → Train → Service → List ℕ → ℕ → ℕ → ℕ → List ℕ → Type 0
IsJoinedCheck line train service report step counted =
    MayAnswer (IsRulesRefusal line train service step) (FreshRules line train service step)
    (IsRulesCheck (regained_cost train.regeneration) report counted)

-- the answer to a line, a train, a service and events, with a grid of this step, with so many splits for each advice, at this tolerance: what
-- the events print of a session that starts there, or the refusal of the joined rules
abbrev pub IsJoinedSession : Line → Train → Service → List Event → ℕ → ℕ → ℕ → ℕ → ℕ → List ℕ → Type 0
IsJoinedSession line train service events step splits tolerance counted =
    MayAnswer (IsRulesRefusal line train service step) (Starts line train service step)
    (λ s. IsSessionAnswer (IsAdvice (regained_cost train.regeneration) splits tolerance (regeneration_of train)) s events counted)

-- ---- a run

-- the run of a command may write this text and end with this status, where it counted so many steps: over a shelf that tells this, and
-- had these counts of faults before and has these now
abbrev pub MayWrite : Command → (List ℕ → Told) → (List ℕ → ℕ) → (List ℕ → ℕ) → ℕ → ℕ → List ℕ → Type 0
MayWrite Usage told before now counted status text = (counted ≡ 0) × (status ≡ 2) × (text ≡ usage_text)
MayWrite (Route file splits tolerance) told before now counted status text =
    MayAnswer (RouteEnds file told before now) (RouteSays file told) (λ said. IsRulesAnswer traction_cost splits tolerance None counted said.0) status text
MayWrite (Plan line train service step splits tolerance) told before now counted status text =
    MayAnswer (PlanEnds line train service told before now) (PlanSays line train service told)
    (λ said. IsJoinedAnswer said.0 said.1.0 said.1.1.0 step splits tolerance counted) status text
MayWrite (Check line train service report step) told before now counted status text =
    MayAnswer (CheckEnds line train service report told before now) (CheckSays line train service report told)
    (λ said. IsJoinedCheck said.0 said.1.0 said.1.1.0 said.1.1.1.0 step counted) status text
MayWrite (Session line train service events step splits tolerance) told before now counted status text =
    MayAnswer (SessionEnds line train service events told before now) (SessionSays line train service events told)
    (λ said. IsJoinedSession said.0 said.1.0 said.1.1.0 said.1.1.1.0 step splits tolerance counted) status text
MayWrite (Sample n splits tolerance) told before now counted status text = IsSampleAnswer n splits tolerance counted status text

-- the words name this file
abbrev pub Names : Command → List ℕ → Type 0
Names Usage name = ⊥
Names (Route file splits tolerance) name = name ≡ file
Names (Plan line train service step splits tolerance) name = (name ≡ line) ⊎ (name ≡ train) ⊎ (name ≡ service)
Names (Check line train service report step) name = (name ≡ line) ⊎ (name ≡ train) ⊎ (name ≡ service) ⊎ (name ≡ report)
Names (Session line train service events step splits tolerance) name = (name ≡ line) ⊎ (name ≡ train) ⊎ (name ≡ service) ⊎ (name ≡ events)
Names (Sample n splits tolerance) name = ⊥
