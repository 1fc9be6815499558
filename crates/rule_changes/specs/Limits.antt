-- The rules of a run whose limits are set anew.
use Rattle.std.specs.Prelude.{ℕ, ◌+◌, ◌<◌, ◌≤◌, ◌≡◌, List, length, slice_index}
use Rattle.rail_specs.specs.Rules.{Rules}
use Rattle.line_file.specs.declared.line.Line.{Line}
use Rattle.line_file.specs.LineText.{first_from, last_to}
use Rattle.joined_rules.specs.declared.setup.Stretch.{Stretch}
use Rattle.joined_rules.specs.Joined.{IsLeastLimit, IsStretch, stretch_at}

-- each of these has a length and a limit
abbrev pub AreStretches : List Stretch → Type 0
AreStretches stretches = (k : ℕ) → k < length stretches → IsStretch (stretch_at stretches k)

-- each point of the rules lies on the line
abbrev pub IsOnLine : Line → Rules → Type 0
IsOnLine line r = (k : ℕ) → k < length r.places → (first_from line.limits ≤ slice_index r.places k) × (slice_index r.places k ≤ last_to line.limits)

-- each step's limit is the least of the line's sections and of the stretches that meet the train there
pub record HasLeastLimits (line : Line) (stretches : List Stretch) (r : Rules) : Type 0 where
  pub count : length r.limits ≡ length r.steps
  pub each : (i : ℕ) → i < length r.steps →
      IsLeastLimit line.limits stretches r.train_length (slice_index r.places i) (slice_index r.places (i + 1)) (slice_index r.limits i)

-- the new rules have these limits, and are the old ones in all else
pub record IsLimited (line : Line) (stretches : List Stretch) (old new : Rules) : Type 0 where
  pub rest : new ≡ record old { limits = new.limits }
  pub limits : HasLeastLimits line stretches new
