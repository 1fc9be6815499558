-- The timing points of a run, with one of them set.
use Rattle.std.specs.Prelude.{ℕ, ℤ, ◌<◌, ◌≤◌, ◌≡◌, ◌≢◌, ◌⊎◌, ◌++◌, ◌∷◌, List, Some, length, nat_lt, slice_index, slice_index_or, slice_set}
use Rattle.std.specs.List.{filter}
use Rattle.rail_specs.specs.declared.Timing.{Timing}
use Rattle.rail_specs.specs.Rules.{Rules, no_timing}
use Rattle.line_file.specs.declared.calls.Call.{Call}
use Rattle.line_file.specs.declared.line.Line.{Line}
use Rattle.line_file.specs.declared.service.Service.{Service}
use Rattle.line_file.specs.ServiceText.{latest_count}
use Rattle.line_file.specs.Shape.{call_at, IsService}
use Rattle.train_file.specs.declared.train.Train.{Train}
use Rattle.joined_rules.specs.declared.setup.Setup.{Setup}
use Rattle.joined_rules.specs.Joined.{IsLatest, IsSetup, Joins}
use Rattle.rule_parts.specs.Shaped.{Rises}

-- the timing points before a point, this point with its latest time, and the timing points behind it
abbrev pub with_latest : List Timing → ℕ → ℤ → List Timing
with_latest timings point latest =
    filter (λ t. nat_lt t.point point) timings ++ (record { point = point; latest = latest }) ∷ filter (λ t. nat_lt point t.point) timings

-- the rules with the latest time of a point
abbrev pub with_latest_at : Rules → ℕ → ℤ → Rules
with_latest_at r point latest = record r { timings = with_latest r.timings point latest }

-- the new timing points are this one and the old ones of all other points, in order; so they are the old ones with this one in its place
pub record IsLatestSet (old : List Timing) (point : ℕ) (latest : ℤ) (new : List Timing) : Type 0 where
  pub rise : Rises new
  pub each : (h : ℕ) → h < length new →
      (slice_index_or new h no_timing ≡ (record { point = point; latest = latest }))
      ⊎ (((slice_index_or new h no_timing).point ≢ point)
      × (g : ℕ) × (g < length old) × (slice_index_or new h no_timing ≡ slice_index_or old g no_timing))
  pub set : (h : ℕ) × (h < length new) × (slice_index_or new h no_timing ≡ (record { point = point; latest = latest }))
  pub kept : (g : ℕ) → g < length old → (slice_index_or old g no_timing).point ≢ point →
      (h : ℕ) × (h < length new) × (slice_index_or new h no_timing ≡ slice_index_or old g no_timing)

-- h is the place of a point among timing points: those before it lie before the point, and no other does
pub record IsPlaceOf (timings : List Timing) (point h : ℕ) : Type 0 where
  pub within : h ≤ length timings
  pub before : (k : ℕ) → k < h → (slice_index_or timings k no_timing).point < point
  pub from : (k : ℕ) → h ≤ k → k < length timings → point ≤ (slice_index_or timings k no_timing).point

-- ---- joined rules

-- calls of which one has another latest time, in s
abbrev pub with_latest_call : List Call → ℕ → ℕ → List Call
with_latest_call calls j seconds = slice_set calls j (record (call_at calls j) { latest = Some seconds })

-- the service with these calls
abbrev pub with_latest_in : Service → ℕ → ℕ → Service
with_latest_in service j seconds = record { calls = with_latest_call service.calls j seconds }

-- these are the rules of a train that keeps to a service from a setup on, and call j, which is behind the start, stands at this point
pub record IsCallPoint (line : Line) (train : Train) (service : Service) (setup : Setup) (r : Rules) (j point : ℕ) : Type 0 where
  pub joined : Joins line train service setup r
  pub service_is : IsService service
  pub setup_is : IsSetup service setup
  pub call : j < length service.calls
  pub behind : setup.place < (call_at service.calls j).place
  pub at : slice_index r.places point ≡ (call_at service.calls j).place

-- where the old rules are those of a train that keeps to a service, of which a call stands at this point, and so many s on the service's
-- clock are this latest time, the new ones are those of the same service with that latest time at the call
abbrev pub StaysJoined : ℕ → ℤ → Rules → Rules → Type 0
StaysJoined point latest old new = (line : Line) (train : Train) (service : Service) (setup : Setup) (j seconds : ℕ) →
    IsCallPoint line train service setup old j point → IsLatest (Some seconds) setup.clock latest → Joins line train (with_latest_in service j seconds) setup new

-- such rules have room for the latest time where at most 64 calls after the first of that service have one
abbrev pub HasRoom : Rules → ℕ → ℤ → Type 0
HasRoom r point latest = (line : Line) (train : Train) (service : Service) (setup : Setup) (j seconds : ℕ) →
    IsCallPoint line train service setup r j point → IsLatest (Some seconds) setup.clock latest →
    latest_count (with_latest_in service j seconds).calls ≤ 64 → length (with_latest r.timings point latest) ≤ 64
