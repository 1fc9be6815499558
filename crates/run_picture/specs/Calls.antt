-- The calls of a service in its picture.
use Rattle.std.specs.Prelude.{ℕ, zero, suc, ◌≤◌, ◌+◌, ◌-◌, ◌==◌, ◌&&◌, ◌||◌, nat_le, Bool, if◌then◌else◌, List, [], ◌∷◌, ◌++◌, codes, decimal, length, slice_index, slice_index_or, pos, All}
use Rattle.std.specs.List.{list_any}
use Rattle.rail_specs.specs.Rules.{Rules, is_stop}
use Rattle.rail_specs.specs.Times.{arrival_up}
use Rattle.sheet_parts.specs.Fill.{joined_below}
use Rattle.sheet_parts.specs.Clock.{clock_text, seconds_up}
use Rattle.sheet_parts.specs.Names.{shown_name, clipped, escaped}
use Rattle.run_picture.specs.declared.scale.Scale.{Scale}
use Rattle.run_picture.specs.Scale.{place_x}

-- each call is a point of the rules
abbrev pub AreCalls : Rules → List ℕ → Type 0
AreCalls r calls = All (λ k. k ≤ length r.steps) calls

-- the name of call j as the picture shows it: at most 20 characters of it, as xml
unfoldable pub call_name : List (List ℕ) → ℕ → List ℕ
call_name names j = escaped (clipped 20 (shown_name (slice_index_or names j [])))

-- where the point lies, from the left
unfoldable pub point_x : Scale → Rules → ℕ → ℕ
point_x s r k = place_x s (slice_index r.places k)

-- whether there is a latest time at the point
unfoldable pub is_timed : Rules → ℕ → Bool
is_timed r k = list_any (λ t. t.point == k) r.timings

-- the upright line of a call at a point
unfoldable pub call_line : Scale → Rules → ℕ → List ℕ
call_line s r k = 77 ∷ decimal (point_x s r k) ++ codes " 1050V5340"

-- the line of call j, if it is a stop
unfoldable pub stop_line : Scale → Rules → List ℕ → ℕ → List ℕ
stop_line s r calls j = if is_stop r (slice_index calls j) then call_line s r (slice_index calls j) else []

-- the line of call j, if the train passes there
unfoldable pub pass_line : Scale → Rules → List ℕ → ℕ → List ℕ
pass_line s r calls j = if is_stop r (slice_index calls j) then [] else call_line s r (slice_index calls j)

-- the lines of all calls: drawn through at stops, broken at passes
unfoldable pub call_lines : Scale → Rules → List ℕ → List ℕ
call_lines s r calls =
    codes "<path class='s' d='" ++ joined_below (stop_line s r calls) (length calls) ++ codes "'/>\n<path class='q' d='"
    ++ joined_below (pass_line s r calls) (length calls) ++ codes "'/>\n"

-- the mark above call j, if it has a latest time
unfoldable pub time_mark : Scale → Rules → List ℕ → ℕ → List ℕ
time_mark s r calls j =
    if is_timed r (slice_index calls j) then codes "M" ++ decimal (point_x s r (slice_index calls j)) ++ codes " 1050l-80-120h160z" else []

-- the marks of all calls with latest times
unfoldable pub time_marks : Scale → Rules → List ℕ → List ℕ
time_marks s r calls = codes "<path class='t' d='" ++ joined_below (time_mark s r calls) (length calls) ++ codes "'/>\n"

-- the class of heavy labels, if there is a latest time at a point
unfoldable pub weight : Rules → ℕ → List ℕ
weight r k = if is_timed r k then codes " b" else []

-- the class of the label of a call at a point
unfoldable pub label_class : Rules → ℕ → List ℕ
label_class r k = codes "<text class='k" ++ weight r k ++ codes "' transform='translate("

-- where the label of a call at a point begins: below its line, upright
unfoldable pub label_place : Scale → Rules → ℕ → List ℕ
label_place s r k = decimal (point_x s r k + 50) ++ codes " 5640)rotate(-90)'>"

-- how the label of a call at a point ends: with the arrival, rounded up to seconds
unfoldable pub label_time : Rules → List ℕ → ℕ → List ℕ
label_time r speeds k = 32 ∷ clock_text (seconds_up (pos (arrival_up r speeds k))) ++ codes "</text>\n"

-- the label of call j: its name and the arrival, rounded up to seconds
unfoldable pub label : Scale → Rules → List ℕ → List ℕ → List (List ℕ) → ℕ → List ℕ
label s r speeds calls names j =
    label_class r (slice_index calls j) ++ label_place s r (slice_index calls j) ++ call_name names j ++ label_time r speeds (slice_index calls j)

-- whether call j has a label, where there is room from `free` on: the first and the last have one, and each other for which there is room
-- also before the last. A label is 200 units wide
unfoldable pub has_label : Scale → Rules → List ℕ → ℕ → ℕ → Bool
has_label s r calls j free =
    j == 0 || j + 1 == length calls
    || (nat_le free (point_x s r (slice_index calls j))
    && nat_le (point_x s r (slice_index calls j) + 200) (point_x s r (slice_index calls (length calls - 1))))

-- from where on there is room after the first j calls: behind the last of them that has a label
abbrev pub free_from : Scale → Rules → List ℕ → ℕ → ℕ
free_from s r calls zero = 0
free_from s r calls (suc j) =
    if has_label s r calls j (free_from s r calls j) then point_x s r (slice_index calls j) + 200 else free_from s r calls j

-- the label of call j, if it has one
unfoldable pub label_if : Scale → Rules → List ℕ → List ℕ → List (List ℕ) → ℕ → List ℕ
label_if s r speeds calls names j = if has_label s r calls j (free_from s r calls j) then label s r speeds calls names j else []

-- the labels of all calls that have one
unfoldable pub labels : Scale → Rules → List ℕ → List ℕ → List (List ℕ) → List ℕ
labels s r speeds calls names = joined_below (label_if s r speeds calls names) (length calls)
