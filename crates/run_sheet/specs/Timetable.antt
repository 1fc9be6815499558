-- The timetable of a drive: a line for each call, and what the whole drive is. Times are shown as hh:mm:ss.
use Rattle.std.specs.Prelude.{ℕ, ◌+◌, ◌==◌, ◌||◌, ℤ, pos, ◌-ℤ◌, List, [], ◌∷◌, ◌++◌, Option, Some, None, codes, length, slice_index, slice_index_or, if◌then◌else◌}
use Rattle.std.specs.Fmt.{signed_decimal}
use Rattle.rail_specs.specs.Rules.{Rules, is_stop, timing_at}
use Rattle.rail_specs.specs.Times.{arrival_up}
use Rattle.rail_base.specs.First.{first_below}
use Rattle.rail_base.specs.Numbers.{before_spaces}
use Rattle.rail_base.specs.Texts.{line}
use Rattle.drive_report.specs.declared.kinds.Phase.{Phase}
use Rattle.drive_report.specs.declared.kinds.Phase.TheVariants.{Hold, Power, Coast, Brake, Part}
use Rattle.sheet_parts.specs.Fill.{filled, joined_below}
use Rattle.sheet_parts.specs.Decimals.{decimals_text}
use Rattle.sheet_parts.specs.Clock.{clock_text, seconds_up, seconds_down}
use Rattle.sheet_parts.specs.Energy.{kilowatt_hours_up, kilowatt_hours_down, kilojoules_up, kilojoules_down, saving_of}
use Rattle.sheet_parts.specs.Names.{shown_name}
use Rattle.run_sheet.specs.Phases.{phase_metres}

-- the latest time at point k in ms, where timing point j is that point
abbrev pub latest_of : Rules → ℕ → ℕ → Option ℤ
latest_of r k j = if (timing_at r j).point == k then Some (timing_at r j).latest else None

-- the latest time at point k in ms, where it has one
unfoldable pub latest_at : Rules → ℕ → Option ℤ
latest_at r k = first_below (latest_of r k) (length r.timings)

-- the time of arrival at point k, rounded up to seconds; none at the first point, where the drive begins
unfoldable pub arrival_text : ℕ → ℕ → List ℕ
arrival_text k arrival = if k == 0 then [] else clock_text (seconds_up (pos arrival))

-- the time of departure from point k, behind the time that the train stands there, rounded up to seconds; none at the last point, where the
-- drive ends, and the word `pass` where the train doesn't stop
unfoldable pub departure_text : Rules → ℕ → ℕ → List ℕ
departure_text r k arrival =
    if k == length r.steps then []
    else if k == 0 || is_stop r k then clock_text (seconds_up (pos (arrival + slice_index r.dwells k)))
    else codes "pass"

-- a latest time, rounded down to seconds
unfoldable pub latest_text : Option ℤ → List ℕ
latest_text None = []
latest_text (Some latest) = clock_text (seconds_down latest)

-- how long before its latest time the train arrives, rounded down to seconds
unfoldable pub slack_text : Option ℤ → ℕ → List ℕ
slack_text None arrival = []
slack_text (Some latest) arrival = clock_text (seconds_down (latest -ℤ pos arrival))

-- the columns of the call at point k, which the train reaches at this time: the place in km, the arrival, the departure, the latest time and
-- the slack, each at the right end of its column, and the name
unfoldable pub call_row : Rules → ℕ → ℕ → List ℕ → List ℕ
call_row r k arrival name =
    filled 32 9 (decimals_text 3 (pos (slice_index r.places k)))
    ++ (filled 32 11 (arrival_text k arrival)
    ++ (filled 32 11 (departure_text r k arrival)
    ++ (filled 32 11 (latest_text (latest_at r k)) ++ (filled 32 11 (slack_text (latest_at r k) arrival) ++ 32 ∷ 32 ∷ shown_name name))))

-- the line of the call at point k, which the train reaches at this time: its columns, without spaces at the end
unfoldable pub call_line : Rules → ℕ → ℕ → List ℕ → List ℕ
call_line r k arrival name = line (before_spaces (call_row r k arrival name))

-- the line above the calls
unfoldable pub column_names : List ℕ
column_names = line (codes "       km    arrival  departure     latest      slack  call")

-- the line of call j, where calls are points with names in the same order; one without a name has none
abbrev pub line_of_call : Rules → List ℕ → List ℕ → List (List ℕ) → ℕ → List ℕ
line_of_call r speeds calls names j =
    call_line r (slice_index calls j) (arrival_up r speeds (slice_index calls j)) (slice_index_or names j [])

-- the lines of all calls
abbrev pub call_lines : Rules → List ℕ → List ℕ → List (List ℕ) → List ℕ
call_lines r speeds calls names = joined_below (line_of_call r speeds calls names) (length calls)

-- the line of a figure: a label, the figure at the right end of its column, and its unit
abbrev pub figure_line : List ℕ → List ℕ → List ℕ → List ℕ
figure_line label figure unit = line (label ++ (filled 32 10 figure ++ unit))

-- the time of the whole drive, rounded up to seconds
unfoldable pub running_line : ℕ → List ℕ
running_line arrival = figure_line (codes "running time  ") (clock_text (seconds_up (pos arrival))) []

-- a number of kilojoules at the right end of its column, behind an energy in kWh
abbrev pub kilojoules_text : ℤ → List ℕ
kilojoules_text kilojoules = codes " kWh" ++ (filled 32 12 (signed_decimal kilojoules) ++ codes " kJ")

-- what the drive costs, rounded up
unfoldable pub energy_line : ℤ → List ℕ
energy_line energy =
    figure_line (codes "energy        ") (decimals_text 2 (kilowatt_hours_up energy)) (kilojoules_text (kilojoules_up energy))

-- what every drive on time costs at least, rounded down
unfoldable pub bound_line : ℤ → List ℕ
bound_line bound =
    figure_line (codes "bound         ") (decimals_text 2 (kilowatt_hours_down bound)) (kilojoules_text (kilojoules_down bound))

-- what another drive could save at most, in hundredths of a per cent
unfoldable pub share_line : ℤ → List ℕ
share_line share = figure_line (codes "could be saved") (decimals_text 2 share) (codes " per cent at most")

-- the same where the drive costs something, and else no line
unfoldable pub saving_line : Option ℤ → List ℕ
saving_line None = []
saving_line (Some share) = share_line share

-- how far the train goes in a phase
unfoldable pub phase_line : Rules → List ℕ → List ℕ → Phase → List ℕ
phase_line r speeds label phase = figure_line label (decimals_text 3 (pos (phase_metres r speeds phase))) (codes " km")

-- how far it goes in each phase
unfoldable pub phases_text : Rules → List ℕ → List ℕ
phases_text r speeds =
    phase_line r speeds (codes "hold          ") Hold
    ++ (phase_line r speeds (codes "power         ") Power
    ++ (phase_line r speeds (codes "coast         ") Coast
    ++ (phase_line r speeds (codes "brake         ") Brake ++ phase_line r speeds (codes "part          ") Part)))

-- the timetable: the calls, an empty line, and the figures of the whole drive
unfoldable pub timetable_text : Rules → List ℕ → List ℕ → List (List ℕ) → ℤ → ℤ → List ℕ
timetable_text r speeds calls names energy bound =
    column_names
    ++ (call_lines r speeds calls names
    ++ (line []
    ++ (running_line (arrival_up r speeds (length r.steps))
    ++ (energy_line energy ++ (bound_line bound ++ (saving_line (saving_of energy bound) ++ phases_text r speeds))))))
