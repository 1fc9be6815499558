-- The words of faults: why a file, or the rules that files give together, are refused.
use Rattle.std.specs.Prelude.{ℕ, ◌++◌, ◌∷◌, List, [], pos, codes}
use Rattle.route_file.specs.declared.fault.RouteFault.{RouteFault}
use Rattle.route_file.specs.declared.fault.RouteFault.TheVariants as route
use Rattle.line_file.specs.declared.line.LineFault.{LineFault}
use Rattle.line_file.specs.declared.line.LineFault.TheVariants as line
use Rattle.line_file.specs.declared.service.ServiceFault.{ServiceFault}
use Rattle.line_file.specs.declared.service.ServiceFault.TheVariants as service
use Rattle.train_file.specs.declared.fault.Key.{Key}
use Rattle.train_file.specs.declared.fault.Key.TheVariants as key
use Rattle.train_file.specs.declared.fault.TrainFault.{TrainFault}
use Rattle.train_file.specs.declared.fault.TrainFault.TheVariants as train
use Rattle.joined_rules.specs.declared.fault.RulesFault.{RulesFault}
use Rattle.joined_rules.specs.declared.fault.RulesFault.TheVariants as rules
use Rattle.rail_base.specs.Texts.{spaced}

-- the words of a fault of a route
abbrev pub route_fault_words : RouteFault → List ℕ
route_fault_words (route.Form n) = codes "form" ++ spaced (pos n)
route_fault_words (route.Range n) = codes "range" ++ spaced (pos n)
route_fault_words route.TooManySteps = codes "too-many-steps"
route_fault_words route.NoMemory = []

-- the words of a fault of a line file
abbrev pub line_fault_words : LineFault → List ℕ
line_fault_words line.BadHeader = codes "bad-header"
line_fault_words (line.BadRow n) = codes "bad-row" ++ spaced (pos n)
line_fault_words line.TooManyRows = codes "too-many-rows"
line_fault_words (line.BadKind n) = codes "bad-kind" ++ spaced (pos n)
line_fault_words (line.BadNumber n) = codes "bad-number" ++ spaced (pos n)
line_fault_words (line.OutOfRange n) = codes "out-of-range" ++ spaced (pos n)
line_fault_words (line.Gap n) = codes "gap" ++ spaced (pos n)
line_fault_words line.NoSections = codes "no-sections"
line_fault_words line.EndsDiffer = codes "ends-differ"
line_fault_words line.NoMemory = []

-- the words of a fault of a service file
abbrev pub service_fault_words : ServiceFault → List ℕ
service_fault_words service.BadHeader = codes "bad-header"
service_fault_words (service.BadRow n) = codes "bad-row" ++ spaced (pos n)
service_fault_words service.TooManyRows = codes "too-many-rows"
service_fault_words (service.BadNumber n) = codes "bad-number" ++ spaced (pos n)
service_fault_words (service.OutOfRange n) = codes "out-of-range" ++ spaced (pos n)
service_fault_words (service.NotRising n) = codes "not-rising" ++ spaced (pos n)
service_fault_words service.TooFew = codes "too-few"
service_fault_words service.NoFinalLatest = codes "no-final-latest"
service_fault_words service.TooManyLatest = codes "too-many-latest"
service_fault_words service.NoMemory = []

-- the keys of a train file, as they are spelled there
abbrev pub key_name : Key → List ℕ
key_name key.Version = codes "version"
key_name key.Mass = codes "mass"
key_name key.Inertia = codes "inertia"
key_name key.A = codes "a"
key_name key.B = codes "b"
key_name key.C = codes "c"
key_name key.Length = codes "length"
key_name key.Regeneration = codes "regeneration"
key_name key.Traction = codes "traction"
key_name key.Brake = codes "brake"

-- the words of a fault of a train file
abbrev pub train_fault_words : TrainFault → List ℕ
train_fault_words train.Text = codes "text"
train_fault_words (train.Missing k) = codes "missing" ++ 32 ∷ key_name k
train_fault_words (train.WrongKind k) = codes "wrong-kind" ++ 32 ∷ key_name k
train_fault_words (train.OutOfRange k) = codes "out-of-range" ++ 32 ∷ key_name k
train_fault_words (train.TableStart k) = codes "table-start" ++ 32 ∷ key_name k
train_fault_words (train.TableOrder k n) = codes "table-order" ++ 32 ∷ key_name k ++ spaced (pos n)
train_fault_words (train.TableRises k n) = codes "table-rises" ++ 32 ∷ key_name k ++ spaced (pos n)
train_fault_words train.TopsDiffer = codes "tops-differ"
train_fault_words train.NoMemory = []

-- the words of a fault of the rules that a line, a train and a service give together
abbrev pub rules_fault_words : RulesFault → List ℕ
rules_fault_words (rules.Outside n) = codes "outside" ++ spaced (pos n)
rules_fault_words rules.TooManySteps = codes "too-many-steps"
rules_fault_words (rules.StopsTooClose n) = codes "stops-too-close" ++ spaced (pos n)
rules_fault_words (rules.DragTooGreat i) = codes "drag-too-great" ++ spaced (pos i)
rules_fault_words rules.NoMemory = []
