-- The file of a report, the files of a check, and the answer that a certificate is refused.
use Rattle.std.specs.Prelude.{ℕ, ◌≡◌, List, [], ⊤, Ok, codes}
use Rattle.edge_io.specs.Faults.{Told}
use Rattle.command_files.specs.Answers.{refused_text}
use Rattle.command_files.specs.Files.{Kind, Says, first_ends}
use Rattle.line_file.specs.declared.line.Line.{Line}
use Rattle.line_file.specs.declared.service.Service.{Service}
use Rattle.train_file.specs.declared.train.Train.{Train}
use Rattle.plan_files.specs.Kinds.{line_kind, service_kind, train_kind}
use Rattle.run_parts.specs.declared.report_file.ReportFault.{ReportFault}

-- a report: any text
abbrev pub report_kind : Kind (List ℕ) ReportFault
report_kind = record { role = codes "report"; most = 8388608; read = λ text. Ok text; words = λ fault. [] }

-- a run may end at one of the files of a line, a train, a service and a report, read in this order
abbrev pub CheckEnds : List ℕ → List ℕ → List ℕ → List ℕ → (List ℕ → Told) → (List ℕ → ℕ) → (List ℕ → ℕ) → ℕ → List ℕ → Type 0
CheckEnds line train service report told before now =
    first_ends line_kind line told before now
    (first_ends train_kind train told before now
    (first_ends service_kind service told before now (first_ends report_kind report told before now (λ _ _. ⊥))))

-- what these files may say
abbrev pub CheckSays : List ℕ → List ℕ → List ℕ → List ℕ → (List ℕ → Told) → Line × (Train × (Service × (List ℕ × ⊤))) → Type 0
CheckSays line train service report told said =
    Says line_kind line told said.0
    × (Says train_kind train told said.1.0
    × (Says service_kind service told said.1.1.0 × (Says report_kind report told said.1.1.1.0 × ⊤)))

-- the certificate is refused in these words: status 9
pub record IsRefusedIn (words : List ℕ) (status : ℕ) (text : List ℕ) : Type 0 where
  pub ends : status ≡ 9
  pub says : text ≡ refused_text (codes "certificate") words
