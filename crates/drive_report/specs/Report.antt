-- The texts that the program prints. Each line ends with a line feed, numbers are in their shortest decimal spelling.
use Rattle.std.specs.Prelude.{ℕ, zero, suc, ◌+◌, ◌/◌, ◌==◌, ◌||◌, not, List, [], ◌∷◌, ◌++◌, ℤ, pos, negsuc, neg_ℤ, Option, None, Some}
use Rattle.std.specs.Prelude.{codes, length, slice_index, Bool, true, false, if◌then◌else◌}
use Rattle.std.specs.Int.{div_ceil}
use Rattle.std.specs.List.{flat_map}
use Rattle.rail_base.specs.Texts.{line, spaced, number_line}
use Rattle.rail_specs.specs.declared.Timing.{Timing}
use Rattle.rail_specs.specs.Rules.{Rules, timing_at}
use Rattle.rail_specs.specs.Cost.{cost_of, traction_cost}
use Rattle.rail_specs.specs.Times.{arrival_up}
use Rattle.dual_certificate.specs.declared.certificate.Certificate.{Certificate}
use Rattle.dual_certificate.specs.Contents.{speeds_of}
use Rattle.dual_certificate.specs.Text.{cells_in, text_of}
use Rattle.drive_report.specs.declared.figures.Counts.{Counts}
use Rattle.drive_report.specs.declared.figures.Figures.{Figures}
use Rattle.drive_report.specs.Phase.{phase_at, phase_name, is_same}

-- the first line of each answer
unfoldable pub head_line : List ℕ
head_line = line (codes "advice 1")

-- the text where there is no drive
abbrev pub no_drive_text : List ℕ
no_drive_text = head_line ++ line (codes "no drive")

-- the line of the timing point of index j, where the drive that arrives at this time is the first to be late: its place in
-- metres, the arrival and the latest time in ms
abbrev pub late_line : Rules → ℕ → ℕ → List ℕ
late_line r j arrival =
    line (codes "late" ++ spaced (pos (slice_index r.places (timing_at r j).point))
    ++ spaced (pos arrival) ++ spaced (timing_at r j).latest)

-- the text where no drive is on time
abbrev pub late_text : Rules → ℕ → ℕ → List ℕ
late_text r j arrival = head_line ++ late_line r j arrival

-- whether the bound is within the tolerance
unfoldable pub gap_line : Bool → List ℕ
gap_line true = line (codes "gap met")
gap_line false = line (codes "gap open")

-- the least whole number of kilojoules that is at least an energy in 0.5 microjoule
abbrev pub kilojoules_of : ℤ → ℤ
kilojoules_of (pos n) = pos (div_ceil n 2000000000)
kilojoules_of (negsuc n) = neg_ℤ (pos ((n + 1) / 2000000000))

-- the first step of the run of steps of one phase that ends with step i
abbrev pub run_start : Rules → List ℕ → ℕ → ℕ
run_start r speeds zero = 0
run_start r speeds (suc i) = if is_same (phase_at r speeds i) (phase_at r speeds (i + 1)) then run_start r speeds i else i + 1

-- step i is the last of its run
unfoldable pub ends_run : Rules → List ℕ → ℕ → Bool
ends_run r speeds i = i + 1 == length r.steps || not (is_same (phase_at r speeds i) (phase_at r speeds (i + 1)))

-- the line of the steps from `from` to i, which have one phase: the places of its ends in metres, the phase, and the speeds there in cm/s
unfoldable pub phase_line : Rules → List ℕ → ℕ → ℕ → List ℕ
phase_line r speeds from i =
    line (codes "phase" ++ spaced (pos (slice_index r.places from)) ++ spaced (pos (slice_index r.places (i + 1)))
    ++ 32 ∷ phase_name (phase_at r speeds i) ++ spaced (pos (slice_index speeds from)) ++ spaced (pos (slice_index speeds (i + 1))))

-- the lines of the runs that end among the first n steps
abbrev pub phase_lines : Rules → List ℕ → ℕ → List ℕ
phase_lines r speeds zero = []
phase_lines r speeds (suc i) = phase_lines r speeds i ++ (if ends_run r speeds i then phase_line r speeds (run_start r speeds i) i else [])

-- the line of a timing point: its place in metres, the arrival, step times rounded up, and the latest time, in ms
unfoldable pub time_line : Rules → List ℕ → Timing → List ℕ
time_line r speeds t =
    line (codes "time" ++ spaced (pos (slice_index r.places t.point)) ++ spaced (pos (arrival_up r speeds t.point)) ++ spaced t.latest)

-- the lines of the energy, also in kilojoules
abbrev pub energy_lines : ℤ → List ℕ
energy_lines energy = number_line (codes "energy") energy ++ number_line (codes "kilojoules") (kilojoules_of energy)

-- of a train that regains energy, the lines of the share that its brakes give back, in per mille, and of the energy that the traction alone
-- takes
abbrev pub regained_lines : Rules → List ℕ → Option ℕ → List ℕ
regained_lines r speeds None = []
regained_lines r speeds (Some share) =
    number_line (codes "regeneration") (pos share) ++ number_line (codes "traction") (cost_of traction_cost r speeds)

-- the line of the bound
abbrev pub bound_line : ℤ → List ℕ
bound_line bound = number_line (codes "bound") bound

-- where a bound comes from cells, the lines of their number and of the splits that made them
abbrev pub count_lines : Option Counts → List ℕ
count_lines None = []
count_lines (Some c) = number_line (codes "cells") (pos c.cells) ++ number_line (codes "splits") (pos c.splits)

-- the advice part of a report: whether the gap is met, the energy, what a train regains, the bound, the counts, the drive's phases, and its
-- times
unfoldable pub advice_text : Rules → List ℕ → Figures → List ℕ
advice_text r speeds f =
    head_line
    ++ (gap_line f.met
    ++ (energy_lines f.energy
    ++ (regained_lines r speeds f.regeneration
    ++ (bound_line f.bound
    ++ (count_lines f.counts ++ (phase_lines r speeds (length r.steps) ++ flat_map (time_line r speeds) r.timings))))))

-- what a report says of a certificate
abbrev pub figures_of : Certificate → Bool → ℕ → Option ℕ → Figures
figures_of c met splits regeneration =
    record {
      energy = c.energy;
      bound = c.bound;
      met = met;
      counts = Some (record { cells = cells_in c.points; splits = splits });
      regeneration = regeneration;
    }

-- the report of a certificate's drive: the advice part, and the certificate
abbrev pub report_text : Rules → Certificate → Bool → ℕ → Option ℕ → List ℕ
report_text r c met splits regeneration = advice_text r (speeds_of c) (figures_of c met splits regeneration) ++ text_of c
