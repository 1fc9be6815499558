-- What a run of the program may write, and with which status.
use Rattle.std.specs.Prelude.{ℕ, ◌≡◌, ℤ, List, codes, length, ◌⊎◌}
use Rattle.line_file.specs.declared.line.Line.{Line}
use Rattle.train_file.specs.declared.train.Train.{Train}
use Rattle.rail_specs.specs.Rules.{Rules}
use Rattle.rail_specs.specs.Cost.{regained_cost}
use Rattle.rail_base.specs.Texts.{line as text_line}
use Rattle.edge_io.specs.Faults.{Told}
use Rattle.command_files.specs.Files.{MayAnswer}
use Rattle.plan_files.specs.FreshRules.{FreshRules, IsRulesRefusal}
use Rattle.sheet_run.specs.declared.command_line.Form.{Form}
use Rattle.sheet_run.specs.declared.named_service.NamedService.{NamedService}
use Rattle.sheet_run.specs.NamedServices.{SheetEnds, SheetSays}
use Rattle.sheet_run.specs.Shown.{IsReportAnswer}
use Rattle.sheet_run.specs.Words.{Command, Usage, Show}

-- the text about usage
abbrev pub usage_text : List ℕ
usage_text = text_line (codes "usage: sheet LINE TRAIN SERVICE REPORT [--step N] [--form timetable|points|svg]")

-- the answer to rules and a report at this cost of work, where so many steps were counted: as many as the rules have
abbrev pub IsRulesSheet : (ℤ → ℤ) → Form → NamedService → List ℕ → ℕ → Rules → ℕ → List ℕ → Type 0
IsRulesSheet cost form s report counted r status text = (counted ≡ length r.steps) × IsReportAnswer cost r form s report status text

-- the answer to a line, a train, a service and a report, with a grid of this step, in this form: that to their joined rules, or the refusal
-- of these
abbrev pub IsJoinedSheet : Line → Train → NamedService → List ℕ → ℕ → Form → ℕ → ℕ → List ℕ → Type 0
IsJoinedSheet line train s report step form counted =
    MayAnswer (IsRulesRefusal line train s.service step) (FreshRules line train s.service step)
    (IsRulesSheet (regained_cost train.regeneration) form s report counted)

-- a run may write this text and end with this status, where it counted so many steps: over a shelf that tells this, and had these counts of
-- faults before and has these now
abbrev pub MayWrite : Command → (List ℕ → Told) → (List ℕ → ℕ) → (List ℕ → ℕ) → ℕ → ℕ → List ℕ → Type 0
MayWrite Usage told before now counted status text = (counted ≡ 0) × (status ≡ 2) × (text ≡ usage_text)
MayWrite (Show line train service report step form) told before now counted status text =
    MayAnswer (SheetEnds line train service report told before now) (SheetSays line train service report told)
    (λ said. IsJoinedSheet said.0 said.1.0 said.1.1.0 said.1.1.1.0 step form counted) status text

-- the words name this file
abbrev pub Names : Command → List ℕ → Type 0
Names Usage name = ⊥
Names (Show line train service report step form) name = (name ≡ line) ⊎ (name ≡ train) ⊎ (name ≡ service) ⊎ (name ≡ report)
