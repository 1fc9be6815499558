-- The points of a session's rules lie on its line.
use Rattle.std.proofs.Common.{ℕ, ◌<◌, ◌≤◌, ◌-◌, List, length, get_or, arith, inl, inr, Contains}
use Rattle.std.proofs.lemmas.Bool.{cases_lt}
use Rattle.std.proofs.lemmas.List.{get_or_default}
use Rattle.rail_specs.specs.Grid.{IsPlace}
use Rattle.line_file.specs.declared.line.Line.{Line}
use Rattle.line_file.specs.declared.calls.Call.{Call}
use Rattle.line_file.specs.LineText.{first_from, last_to}
use Rattle.line_file.specs.Shape.{call_at}
use Rattle.joined_rules.specs.Joined.{IsOutside, ForNone}
use Rattle.advice_session.specs.Data.{State, IsSession}
use Rattle.rule_changes.specs.Limits.{IsOnLine}

-- a place of the list is one of its members
pub member : (places : List ℕ) (k : ℕ) → k < length places → Contains places (get_or places k 0)
member places k l = (k, l, get_or_default places k (get_or places k 0) 0 l)

-- a call lies on the line
called : (line : Line) (calls : List Call) (j : ℕ) → ForNone (IsOutside line calls) (length calls) → j < length calls →
    (first_from line.limits ≤ (call_at calls j).place) × ((call_at calls j).place ≤ last_to line.limits)
called line calls j none l = (
  elim (cases_lt (call_at calls j).place (first_from line.limits)) [ inl out ↦ absurd (none j l (inl out)) | inr on ↦ on ],
  elim (cases_lt (last_to line.limits) (call_at calls j).place) [ inl out ↦ absurd (none j l (inr out)) | inr on ↦ on ],
)

-- a place of the grid lies between its ends
pub within : (marks : List ℕ) (step from to p : ℕ) → from < to → IsPlace marks step from to p → (from ≤ p) × (p ≤ to)
within marks step from to p span (inl e) = (omega (arith, e), omega (arith, e, span))
within marks step from to p span (inr (inl e)) = (omega (arith, e, span), omega (arith, e))
within marks step from to p span (inr (inr (a, b, c))) = (omega (arith, a), omega (arith, b))

pub on_line : (s : State) → IsSession s → IsOnLine s.data_is.line s.rules_are
on_line s h k l =
    let grid = h.rules.joined.grid in
    let ends = within _ _ _ _ (get_or s.rules_are.places k 0) h.setup.place.1 ((grid.members (get_or s.rules_are.places k 0)).0 (member s.rules_are.places k l)) in
    let some = h.service.some in
    let first = called s.data_is.line s.data_is.service.calls 0 h.rules.accepted.on_line (omega (arith, some)) in
    let last = called s.data_is.line s.data_is.service.calls (length s.data_is.service.calls - 1) h.rules.accepted.on_line (omega (arith, some)) in
    (omega (arith, first.0, h.setup.place.0, ends.0), omega (arith, last.1, ends.1))
