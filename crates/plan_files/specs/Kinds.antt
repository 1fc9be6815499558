-- The kinds of files from which rules come, and the three of a plan as a list.
use Rattle.std.specs.Prelude.{ℕ, ⊤, List, codes}
use Rattle.rail_specs.specs.Rules.{Rules}
use Rattle.edge_io.specs.Faults.{Told}
use Rattle.line_file.specs.declared.line.Line.{Line}
use Rattle.line_file.specs.declared.line.LineFault.{LineFault}
use Rattle.line_file.specs.declared.service.Service.{Service}
use Rattle.line_file.specs.declared.service.ServiceFault.{ServiceFault}
use Rattle.line_file.specs.LineText.{line_of}
use Rattle.line_file.specs.ServiceText.{service_of}
use Rattle.train_file.specs.declared.train.Train.{Train}
use Rattle.train_file.specs.declared.fault.TrainFault.{TrainFault}
use Rattle.train_file.specs.TrainText.{train_of}
use Rattle.route_file.specs.declared.fault.RouteFault.{RouteFault}
use Rattle.route_file.specs.Route.{rules_of_text}
use Rattle.command_files.specs.Files.{Kind, Says, first_ends}
use Rattle.plan_files.specs.FaultWords.{line_fault_words, route_fault_words, service_fault_words, train_fault_words}

-- the bytes of such a file, at most
abbrev pub most_bytes : ℕ
most_bytes = 1048576

-- a route
abbrev pub route_kind : Kind Rules RouteFault
route_kind = record { role = codes "route"; most = most_bytes; read = rules_of_text; words = route_fault_words }

-- a line
abbrev pub line_kind : Kind Line LineFault
line_kind = record { role = codes "line"; most = most_bytes; read = line_of; words = line_fault_words }

-- a train
abbrev pub train_kind : Kind Train TrainFault
train_kind = record { role = codes "train"; most = most_bytes; read = train_of; words = train_fault_words }

-- a service
abbrev pub service_kind : Kind Service ServiceFault
service_kind = record { role = codes "service"; most = most_bytes; read = service_of; words = service_fault_words }

-- a run may end at the file of a route
abbrev pub RouteEnds : List ℕ → (List ℕ → Told) → (List ℕ → ℕ) → (List ℕ → ℕ) → ℕ → List ℕ → Type 0
RouteEnds name told before now = first_ends route_kind name told before now (λ _ _. ⊥)

-- what the file of a route may say
abbrev pub RouteSays : List ℕ → (List ℕ → Told) → Rules × ⊤ → Type 0
RouteSays name told said = Says route_kind name told said.0 × ⊤

-- a run may end at one of the files of a line, a train and a service, read in this order
abbrev pub PlanEnds : List ℕ → List ℕ → List ℕ → (List ℕ → Told) → (List ℕ → ℕ) → (List ℕ → ℕ) → ℕ → List ℕ → Type 0
PlanEnds line train service told before now =
    first_ends line_kind line told before now
    (first_ends train_kind train told before now (first_ends service_kind service told before now (λ _ _. ⊥)))

-- what the files of a line, a train and a service may say
abbrev pub PlanSays : List ℕ → List ℕ → List ℕ → (List ℕ → Told) → Line × (Train × (Service × ⊤)) → Type 0
PlanSays line train service told said =
    Says line_kind line told said.0 × (Says train_kind train told said.1.0 × (Says service_kind service told said.1.1.0 × ⊤))
