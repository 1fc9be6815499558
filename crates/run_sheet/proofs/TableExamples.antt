-- The definitions, computed on a worked drive: 100 m from rest to a place that is passed, and 100 m more to a stop.
use Rattle.std.specs.Prelude.{◌≡◌, ℕ, pos, List, [], ◌∷◌, true, false, codes}
use Rattle.std.proofs.Common.{refl}
use Rattle.std.specs.Fmt.{digits}
use Rattle.std.specs.Str.{is_utf8, chars}
use lib.Utf8.{encode}
use Rattle.rail_base.specs.Texts.{line}
use Rattle.rail_specs.specs.declared.StepNumbers.{StepNumbers}
use Rattle.rail_specs.specs.Rules.{Rules}
use Rattle.rail_specs.specs.Cost.{traction_cost}
use Rattle.drive_report.specs.Phase.{phase_at}
use Rattle.sheet_parts.specs.Fill.{filled}
use Rattle.sheet_parts.specs.Decimals.{digits_text, decimals_text}
use Rattle.sheet_parts.specs.Clock.{clock_text}
use Rattle.sheet_parts.specs.Names.{shown_name}
use Rattle.run_sheet.specs.Timetable.{arrival_text, departure_text, latest_at, latest_text, slack_text, call_row, call_line, line_of_call}
use Rattle.run_sheet.specs.Points.{speed_fields, step_fields, next_fields, place_fields, point_line, line_of_point}

-- a level step of 100 m, driven by a train of 100 tonnes with a constant resistance of 1,000 N
abbrev level : StepNumbers
level = record { mass = 1000; inertia = 1000; a = 1000; b = 0; c = 0; metres = 100; gradient = pos 0 }

-- two of them, the last point with a latest time of 49 s
abbrev two_steps : Rules
two_steps = record {
  start = 0;
  top = 1000;
  traction = [];
  brake = [];
  train_length = 0;
  steps = level ∷ level ∷ [];
  limits = 1000 ∷ 900 ∷ [];
  places = 0 ∷ 100 ∷ 200 ∷ [];
  stops = true ∷ false ∷ true ∷ [];
  dwells = 0 ∷ 0 ∷ 0 ∷ [];
  timings = record { point = 2; latest = pos 49000 } ∷ [];
}

abbrev speeds : List ℕ
speeds = 0 ∷ 800 ∷ 0 ∷ []

abbrev names : List (List ℕ)
names = codes "Alder" ∷ codes "Birch" ∷ []

call-at_the_start : line_of_call two_steps speeds (0 ∷ 1 ∷ 2 ∷ []) names 0 ≡ line (codes "    0.000              00:00:00                        Alder")
unfolding digits is_utf8 chars encode filled digits_text decimals_text clock_text shown_name arrival_text departure_text latest_at latest_text slack_text call_row call_line
call-at_the_start = refl

call-passed : line_of_call two_steps speeds (0 ∷ 1 ∷ 2 ∷ []) names 1 ≡ line (codes "    0.100   00:00:25       pass                        Birch")
unfolding digits is_utf8 chars encode filled digits_text decimals_text clock_text shown_name arrival_text departure_text latest_at latest_text slack_text call_row call_line
call-passed = refl

-- a second late, and without a name
call-late : line_of_call two_steps speeds (0 ∷ 1 ∷ 2 ∷ []) names 2 ≡ line (codes "    0.200   00:00:50              00:00:49  -00:00:01")
unfolding digits is_utf8 chars encode filled digits_text decimals_text clock_text shown_name arrival_text departure_text latest_at latest_text slack_text call_row call_line
call-late = refl

point-before_a_step : line_of_point traction_cost two_steps speeds 1 ≡ line (codes "100,800,28.800,25.000,900,32.400,0.0,brake,0.92")
unfolding digits filled digits_text decimals_text phase_at speed_fields step_fields next_fields place_fields point_line
point-before_a_step = refl

point-at_the_end : line_of_point traction_cost two_steps speeds 2 ≡ line (codes "200,0,0.000,50.000,,,,,0.92")
unfolding digits filled digits_text decimals_text phase_at speed_fields step_fields next_fields place_fields point_line
point-at_the_end = refl
