-- The data of a session: what its events change, and what always holds of it and of the rules that are kept with it.
use Rattle.std.specs.Prelude.{ℕ, ◌≡◌, ◌≤◌, ◌++◌, List, [], ◌∷◌, Option, Some, None, length}
use Rattle.std.specs.List.{remove}
use Rattle.rail_specs.specs.Rules.{Rules}
use Rattle.line_file.specs.declared.line.Line.{Line}
use Rattle.line_file.specs.declared.service.Service.{Service}
use Rattle.line_file.specs.Shape.{IsLine, IsService}
use Rattle.train_file.specs.declared.train.Train.{Train}
use Rattle.train_file.specs.Shape.{IsTrain}
use Rattle.joined_rules.specs.declared.setup.Stretch.{Stretch}
use Rattle.joined_rules.specs.declared.setup.Setup.{Setup}
use Rattle.joined_rules.specs.Joined.{IsSetup, Joins, first_place}
use Rattle.rule_changes.specs.Latest.{with_latest_in}

-- the data of a session
pub record Data : Type 0 where
  -- what it was started with; the service has the latest times that were set since
  pub line : Line
  pub train : Train
  pub service : Service
  -- the step, the train's place, speed and clock, and the restrictions that stand
  pub setup : Setup
  -- the names of the restrictions, in their order
  pub names : List (List ℕ)

-- a session: its data, and the rules that are kept
pub record State : Type 0 where
  pub data_is : Data
  pub rules_are : Rules

-- the rules are those of the data
abbrev pub AreRulesOf : Data → Rules → Type 0
AreRulesOf d r = Joins d.line d.train d.service d.setup r

-- the state of these parts
abbrev pub state_of : Line → Train → Service → ℕ → ℕ → ℕ → ℕ → List (List ℕ) → List Stretch → Rules → State
state_of line train service step place speed clock names stretches rules = record {
  data_is = record {
    line = line;
    train = train;
    service = service;
    setup = record { step = step; place = place; speed = speed; clock = clock; stretches = stretches };
    names = names;
  };
  rules_are = rules;
}

-- the data with which a session starts: the train stands at the first call, at the clock 0, and no restriction stands
abbrev pub started : Line → Train → Service → ℕ → Data
started line train service step = record {
  line = line;
  train = train;
  service = service;
  setup = record { step = step; place = first_place service.calls; speed = 0; clock = 0; stretches = [] };
  names = [];
}

-- what holds of every session
pub record IsSession (s : State) : Type 0 where
  pub line : IsLine s.data_is.line
  pub train : IsTrain s.data_is.train
  pub service : IsService s.data_is.service
  pub setup : IsSetup s.data_is.service s.data_is.setup
  pub names : length s.data_is.names ≡ length s.data_is.setup.stretches
  pub few : length s.data_is.names ≤ 64
  pub rules : AreRulesOf s.data_is s.rules_are

-- ---- what accepted events make of the data

-- the train goes on from another place, speed and clock
abbrev pub moved : Data → ℕ → ℕ → ℕ → Data
moved d place speed clock = record d { setup = record (d.setup) { place = place; speed = speed; clock = clock } }

-- one restriction more
abbrev pub restricted : Data → List ℕ → Stretch → Data
restricted d name stretch =
    record d { names = d.names ++ name ∷ []; setup = record (d.setup) { stretches = d.setup.stretches ++ stretch ∷ [] } }

-- the restriction of an index less
abbrev pub lifted : Data → ℕ → Data
lifted d i = record d { names = remove d.names i; setup = record (d.setup) { stretches = remove d.setup.stretches i } }

-- without the restriction of an index, where there is one
abbrev pub lifted_at : Data → Option ℕ → Data
lifted_at d None = d
lifted_at d (Some i) = lifted d i

-- the call of an index has another latest time
abbrev pub timed : Data → ℕ → ℕ → Data
timed d j seconds = record d { service = with_latest_in d.service j seconds }

-- the call of an index, where there is one, has another latest time
abbrev pub timed_at : Data → Option ℕ → ℕ → Data
timed_at d None seconds = d
timed_at d (Some j) seconds = timed d j seconds
