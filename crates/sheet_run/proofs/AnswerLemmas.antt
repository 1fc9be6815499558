-- Answers over files and reports.
use Rattle.std.proofs.Common.{ℕ, ◌≡◌, ◌+◌, ◌-◌, List, subst, arith}
use Rattle.std.specs.Prelude.{Result, Ok, Err, IfOk}
use Rattle.line_file.specs.declared.line.Line.{Line}
use Rattle.train_file.specs.declared.train.Train.{Train}
use Rattle.sheet_run.specs.declared.command_line.Form.{Form}
use Rattle.sheet_run.specs.declared.named_service.NamedService.{NamedService}
use Rattle.sheet_run.specs.Outcome.{IsJoinedSheet}

-- what holds of an answer where there is one
pub ok_map : {A E : Type 0} (r : Result A E) (P Q : A → Type 0) → ((a : A) → P a → Q a) → IfOk r P → IfOk r Q
ok_map (Ok a) P Q f h = f a h
ok_map (Err e) P Q f h = tt

-- the sheet by joined rules, where the files counted no step
pub joined_shown : (line : Line) (train : Train) (named : NamedService) (report : List ℕ) (step : ℕ) (form : Form) (old mid new status : ℕ) (text : List ℕ)
    → mid ≡ old + (0 + (0 + (0 + (0 + 0))))
    → IsJoinedSheet line train named report step form (new - mid) status text
    → IsJoinedSheet line train named report step form (new - old) status text
joined_shown line train named report step form old mid new status text e h =
    let same : mid ≡ old = omega arith in
    subst (λ (m : ℕ). IsJoinedSheet line train named report step form (new - m) status text) same h
