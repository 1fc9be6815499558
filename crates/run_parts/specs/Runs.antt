-- What the runs of all programs leave: a text and a status, and when a fault may come.
use Rattle.std.specs.Prelude.{ℕ, ◌≡◌, ◌≤◌, ◌==◌, ℤ, List, [], Option, Some, None, Result, Ok, Err, String, string_bytes, drop, if◌then◌else◌, length, map, take}
use Rattle.std.specs.declared.alloc.Global.{Global}
use Rattle.rail_specs.specs.Rules.{Rules, IsGreatestDrive, NoDrive, timing_at}
use Rattle.rail_specs.specs.Times.{NoneOnTime, IsFirstLate, arrival_up}
use Rattle.train_file.specs.declared.train.Train.{Train}
use Rattle.edge_io.specs.Faults.{Appends}
use Rattle.drive_report.specs.Report.{no_drive_text, late_text}

-- ---- answers to the rules of a run

-- there is no drive: status 4
pub record IsNoDriveAnswer (r : Rules) (status : ℕ) (text : List ℕ) : Type 0 where
  pub none : NoDrive r
  pub ends : status ≡ 4
  pub says : text ≡ no_drive_text

-- there is a drive and none is on time: status 5, with the first timing point that the greatest drive reaches too late
pub record IsLateAnswer (r : Rules) (status : ℕ) (text : List ℕ) (speeds : List ℕ) (j : ℕ) : Type 0 where
  pub greatest : IsGreatestDrive r speeds
  pub none : NoneOnTime r
  pub first : IsFirstLate r speeds j
  pub ends : status ≡ 5
  pub says : text ≡ late_text r j (arrival_up r speeds (timing_at r j).point)

-- the same, with some drive and timing point
abbrev pub IsSomeLateAnswer : Rules → ℕ → List ℕ → Type 0
IsSomeLateAnswer r status text = (speeds : List ℕ) × ((j : ℕ) × IsLateAnswer r status text speeds j)

-- what a train's file says of the share that its brakes give back, in per mille: version 2 says one
abbrev pub regeneration_of : Train → Option ℕ
regeneration_of train = if train.version == 2 then Some train.regeneration else None

-- ---- what is written

-- a whole text that the run may write was written, with its own status
pub record Wrote (may_write : ℕ → List ℕ → Type 0) (was is : Option (List ℕ)) (status : ℕ) : Type 0 where
  pub text : List ℕ
  pub may : may_write status text
  pub appended : Appends was text is

-- the front of a text that the run may write, with a status of its own, was written
pub record WroteFront (may_write : ℕ → List ℕ → Type 0) (was is : Option (List ℕ)) : Type 0 where
  pub text : List ℕ
  pub status : ℕ
  pub may : may_write status text
  pub count : ℕ
  pub within : count ≤ length text
  pub appended : Appends was (take count text) is

-- ---- the words of the system

-- the words of a program's arguments: all behind the first, which is the program's name, and none where the arguments are no texts
abbrev pub words_behind : {A E : Type 0} → (A → List (String Global)) → Result A E → List (List ℕ)
words_behind items (Ok args) = drop 1 (map string_bytes (items args))
words_behind items (Err e) = []
