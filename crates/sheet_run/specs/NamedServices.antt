-- A service with the names of its calls.
use Rattle.std.specs.Prelude.{ℕ, ⊤, List, Result, Ok, Err, codes}
use Rattle.edge_io.specs.Faults.{Told}
use Rattle.line_file.specs.declared.line.Line.{Line}
use Rattle.line_file.specs.declared.service.Service.{Service}
use Rattle.line_file.specs.declared.service.ServiceFault.{ServiceFault}
use Rattle.line_file.specs.Names.{names_of}
use Rattle.line_file.specs.ServiceText.{service_of}
use Rattle.train_file.specs.declared.train.Train.{Train}
use Rattle.command_files.specs.Files.{Kind, Says, first_ends}
use Rattle.plan_files.specs.FaultWords.{service_fault_words}
use Rattle.plan_files.specs.Kinds.{line_kind, most_bytes, train_kind}
use Rattle.run_parts.specs.Reports.{report_kind}
use Rattle.sheet_run.specs.declared.named_service.NamedService.{NamedService}

-- a service that is read, with the names in its text
abbrev pub with_names : Result Service ServiceFault → List ℕ → Result NamedService ServiceFault
with_names (Ok service) text = Ok (record { service = service; names = names_of text })
with_names (Err fault) text = Err fault

-- what the text of a service file says, the names with it
abbrev pub named_service_of : List ℕ → Result NamedService ServiceFault
named_service_of text = with_names (service_of text) text

-- a service file of which the names are read too
abbrev pub named_service_kind : Kind NamedService ServiceFault
named_service_kind = record { role = codes "service"; most = most_bytes; read = named_service_of; words = service_fault_words }

-- a run may end at one of the files of a line, a train, a service and a report, read in this order
abbrev pub SheetEnds : List ℕ → List ℕ → List ℕ → List ℕ → (List ℕ → Told) → (List ℕ → ℕ) → (List ℕ → ℕ) → ℕ → List ℕ → Type 0
SheetEnds line train service report told before now =
    first_ends line_kind line told before now
    (first_ends train_kind train told before now
    (first_ends named_service_kind service told before now (first_ends report_kind report told before now (λ _ _. ⊥))))

-- what these files may say
abbrev pub SheetSays : List ℕ → List ℕ → List ℕ → List ℕ → (List ℕ → Told) → Line × (Train × (NamedService × (List ℕ × ⊤))) → Type 0
SheetSays line train service report told said =
    Says line_kind line told said.0
    × (Says train_kind train told said.1.0
    × (Says named_service_kind service told said.1.1.0 × (Says report_kind report told said.1.1.1.0 × ⊤)))
