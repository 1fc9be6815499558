-- What holds of every line and every service that is read.
use Rattle.std.specs.Prelude.{◌≡◌, ◌+◌, ◌<◌, ◌≤◌, ℕ, ℤ, pos, negsuc, ◌≤ℤ◌, List, length, slice_index_or, IfSome, IsSome}
use Rattle.line_file.specs.declared.sections.Section.{Section}
use Rattle.line_file.specs.declared.calls.Call.{Call}
use Rattle.line_file.specs.declared.line.Line.{Line}
use Rattle.line_file.specs.declared.service.Service.{Service}
use Rattle.line_file.specs.LineText.{first_from, last_to, no_section}
use Rattle.line_file.specs.ServiceText.{last_call, latest_count, no_call}

-- the section and the call of an index
abbrev pub section_at : List Section → ℕ → Section
section_at sections k = slice_index_or sections k no_section

abbrev pub call_at : List Call → ℕ → Call
call_at calls k = slice_index_or calls k no_call

-- a section lies on the first 1,000,000 m, and its value is from low to high
pub record IsSection (low high : ℤ) (s : Section) : Type 0 where
  pub long : s.from < s.to
  pub near : s.to ≤ 1000000
  pub value : (low ≤ℤ s.value) × (s.value ≤ℤ high)

-- sections of which each begins where the one before it ends
pub record AreSections (low high : ℤ) (sections : List Section) : Type 0 where
  pub each : (k : ℕ) → k < length sections → IsSection low high (section_at sections k)
  pub follow : (k : ℕ) → k + 1 < length sections → (section_at sections (k + 1)).from ≡ (section_at sections k).to

-- a line: limits of 1 to 12,000 cm/s and gradients of -1,000 to 1,000 tenths of a per mille, over the same stretch
pub record IsLine (line : Line) : Type 0 where
  pub limits : AreSections (pos 1) (pos 12000) line.limits
  pub gradients : AreSections (negsuc 999) (pos 1000) line.gradients
  pub some : (0 < length line.limits) × (0 < length line.gradients)
  pub few : length line.limits + length line.gradients ≤ 20000
  pub starts : first_from line.limits ≡ first_from line.gradients
  pub ends : last_to line.limits ≡ last_to line.gradients

-- a call's numbers are in their ranges
pub record IsCall (c : Call) : Type 0 where
  pub place : c.place ≤ 1000000
  pub dwell : IfSome c.dwell (λ s. s ≤ 7200)
  pub latest : IfSome c.latest (λ s. s ≤ 172800)

-- calls at rising places
pub record AreCalls (calls : List Call) : Type 0 where
  pub each : (k : ℕ) → k < length calls → IsCall (call_at calls k)
  pub rising : (k : ℕ) → k + 1 < length calls → (call_at calls k).place < (call_at calls (k + 1)).place

-- a service: at least two calls, the last with a latest time, and at most 64 after the first with one
pub record IsService (service : Service) : Type 0 where
  pub calls : AreCalls service.calls
  pub some : 2 ≤ length service.calls
  pub few : length service.calls ≤ 1000
  pub final : IsSome (last_call service.calls).latest
  pub latest : latest_count service.calls ≤ 64
