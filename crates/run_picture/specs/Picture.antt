-- The picture of a drive: a text of scalable vector graphics.
use Rattle.std.specs.Prelude.{ℕ, ◌-◌, List, ◌++◌, codes, length, ℤ, pos}
use Rattle.rail_specs.specs.Rules.{Rules}
use Rattle.rail_specs.specs.Times.{arrival_up}
use Rattle.sheet_parts.specs.Clock.{clock_text, seconds_up}
use Rattle.sheet_parts.specs.Decimals.{decimals_text}
use Rattle.sheet_parts.specs.Energy.{kilowatt_hours_up}
use Rattle.drive_report.specs.declared.kinds.Phase.TheVariants.{Hold, Power, Coast, Brake, Part}
use Rattle.run_picture.specs.declared.scale.Scale.{Scale}
use Rattle.run_picture.specs.Ticks.{place_ticks, speed_ticks, gradient_ticks}
use Rattle.run_picture.specs.Calls.{call_name, call_lines, time_marks, labels}
use Rattle.run_picture.specs.Curve.{phase_curve}
use Rattle.run_picture.specs.Scale.{scale_of}
use Rattle.run_picture.specs.Stairs.{limit_line, gradient_area}

-- how a picture begins: its size, and how what is of each class looks. Each phase has a colour of its own, and of its own darkness
unfoldable pub begin_text : List ℕ
begin_text =
    codes "<svg xmlns='http://www.w3.org/2000/svg' viewBox='0 0 12000 8480' width='100%' role='img'>\n<style>\n"
    ++ codes "text{font-family:sans-serif;font-size:170px;fill:#222}\n.h{font-size:230px;font-weight:bold}\n.u{font-size:150px;text-anchor:end}\n"
    ++ codes ".e{text-anchor:end}\n.m{text-anchor:middle}\n.k{font-size:150px;text-anchor:end}\n.b{font-weight:bold}\n"
    ++ codes ".g{stroke:#ddd;stroke-width:8}\n.a{stroke:#444;stroke-width:14;fill:none}\n.s{stroke:#888;stroke-width:12;fill:none}\n"
    ++ codes ".q{stroke:#999;stroke-width:9;fill:none;stroke-dasharray:60 50}\n.t{fill:#222}\n.l{stroke:#555;stroke-width:22;fill:none}\n.n{fill:#b5b5b5}\n"
    ++ codes ".c{fill:none;stroke-width:50;stroke-linecap:round}\n.hold{stroke:#2f66a8}\n.power{stroke:#8b0f2e}\n.coast{stroke:#85cc8a}\n.brake{stroke:#111}\n.part{stroke:#d2691e}\n</style>\n"

-- the white ground
unfoldable pub ground_text : List ℕ
ground_text = codes "<rect width='12000' height='8480' fill='#fff'/>\n"

-- what the colours and marks mean, and the units of the axes
unfoldable pub legend_text : List ℕ
legend_text =
    codes "<path class='c power' d='M300 650h350'/><text x='730' y='705'>full power</text>\n"
    ++ codes "<path class='c hold' d='M1850 650h350'/><text x='2280' y='705'>hold</text>\n"
    ++ codes "<path class='c part' d='M2950 650h350'/><text x='3380' y='705'>part</text>\n"
    ++ codes "<path class='c coast' d='M4000 650h350'/><text x='4430' y='705'>coast</text>\n"
    ++ codes "<path class='c brake' d='M5200 650h350'/><text x='5630' y='705'>brake</text>\n"
    ++ codes "<path class='l' d='M6450 650h350'/><text x='6880' y='705'>limit</text>\n"
    ++ codes "<path class='n' d='M7600 580h350v140h-350z'/><text x='8030' y='705'>gradient</text>\n"
    ++ codes "<path class='t' d='M9140 710l-80-120h160z'/><text x='9290' y='705'>latest time</text>\n"
    ++ codes "<path class='q' d='M10500 650h350'/><text x='10930' y='705'>pass</text>\n"
    ++ codes "<text class='u' x='820' y='910'>km/h</text><text class='u' x='820' y='5120'>&#8240;</text><text class='u' x='620' y='5540'>km</text>\n"

-- the left axis, and the lines of standstill and of level track
unfoldable pub frame_text : List ℕ
frame_text = codes "<path class='a' d='M900 1050V5340M900 4250H11700M900 4900H11700'/>\n"

-- the ends of a run: the names of the first and the last call
unfoldable pub ends_text : List (List ℕ) → List ℕ → List ℕ
ends_text names calls = call_name names 0 ++ codes " - " ++ call_name names (length calls - 1)

-- the length of a run in km
unfoldable pub length_text : Scale → List ℕ
length_text s = codes ", " ++ decimals_text 3 (pos s.span) ++ codes " km"

-- the time of a run, rounded up to seconds
unfoldable pub time_text : Rules → List ℕ → List ℕ
time_text r speeds = codes ", " ++ clock_text (seconds_up (pos (arrival_up r speeds (length r.steps))))

-- an energy in kWh, rounded up to a hundredth
unfoldable pub energy_text : ℤ → List ℕ
energy_text energy = codes ", " ++ decimals_text 2 (kilowatt_hours_up energy) ++ codes " kWh"

-- the heading
unfoldable pub heading : Scale → Rules → List ℕ → List ℕ → List (List ℕ) → ℤ → List ℕ
heading s r speeds calls names energy = ends_text names calls ++ length_text s ++ time_text r speeds ++ energy_text energy

-- the heading of a picture, for those who hear it and for those who see it
unfoldable pub head_text : List ℕ → List ℕ
head_text text =
    codes "<title>" ++ text ++ codes "</title>\n" ++ ground_text ++ codes "<text class='h' x='300' y='370'>" ++ text ++ codes "</text>\n"

-- the axes, and what lies under the curve: the gradient, the lines of calls, and the limit
unfoldable pub back_text : Scale → Rules → List ℕ → List ℕ
back_text s r calls =
    legend_text ++ place_ticks s ++ speed_ticks s ++ gradient_ticks s ++ gradient_area s r ++ frame_text ++ call_lines s r calls ++ limit_line s r

-- the curve, each phase in its colour
unfoldable pub curves : Scale → Rules → List ℕ → List ℕ
curves s r speeds =
    phase_curve s r speeds Hold ++ phase_curve s r speeds Power ++ phase_curve s r speeds Coast ++ phase_curve s r speeds Brake ++ phase_curve s r speeds Part

-- a picture by its scale and heading
unfoldable pub drawn : Scale → List ℕ → Rules → List ℕ → List ℕ → List (List ℕ) → List ℕ
drawn s text r speeds calls names =
    begin_text ++ head_text text ++ back_text s r calls ++ curves s r speeds ++ time_marks s r calls ++ labels s r speeds calls names ++ codes "</svg>\n"

-- the picture of a drive, with the calls of its service, which are points of the rules, their names, and the energy in 0.5 microjoule
abbrev pub picture_text : Rules → List ℕ → List ℕ → List (List ℕ) → ℤ → List ℕ
picture_text r speeds calls names energy =
    drawn (scale_of r speeds) (heading (scale_of r speeds) r speeds calls names energy) r speeds calls names
