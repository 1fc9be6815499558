use Rattle.std.proofs.Common.{rules, ℕ, List, ◌≡◌, ◌∙◌, Ok, Err, ap, sym, subst, arith, drop, ◌≤◌, ◌+◌, count_by}
use Rattle.std.specs.Str.Lines.{lines}
use Rattle.route_file.specs.Route.{is_step_line, row_counts, rows_on}
use Rattle.rule_parts.specs.declared.Parts.{Parts}
use Rattle.route_file.specs.declared.data.Heading.{Heading}
use Rattle.route_file.specs.declared.data.StepLists.{StepLists}
use Rattle.route_file.specs.declared.fault.RouteFault.TheVariants.{NoMemory}
use Rattle.route_file.proofs.RouteCounts.{counts_refused, counts_passed_on, counted_within, row_counts-most}
use Rattle.rule_parts.specs.Shaped.{IsShaped}
use Rattle.route_file.proofs.RouteWhole.{heading_refused, entries_refused, makes, count_behind, rows_refused, rows_behind, rules_on, IsBehind}
use Rattle.route_file.proofs.read_parts.Goals as goal

pub returns-in_err-heading-clause-refused : goal.returns-in_err-heading-clause-refused
returns-in_err-heading-clause-refused g c =
    let r : c.from_residual.result ≡ Err c.in_err-heading.field-0.0 = search rules in
    let ls = c.text_lines-lines.result in
    rw r (λ other. heading_refused ls c.in_err-heading.field-0.0 c.in_err-heading.ensures.value ∙ ap rules_on c.text_lines-lines.ensures)

pub returns-in_err-lists-clause-refused : goal.returns-in_err-lists-clause-refused
returns-in_err-lists-clause-refused g c =
    let r : c.from_residual-in_err-lists.result ≡ Err c.in_err-lists.field-0.0 = search rules in
    let ls = c.text_lines-lines.result in
    let h = c.in_ok-heading.heading in
    let left = c.read_heading.new.lines in
    let b : IsBehind ls h left = record { heading = c.in_ok-heading.ensures.value; in_range = c.in_ok-heading.ensures.heading; taken = c.in_ok-heading.ensures.rest } in
    rw r (λ other. entries_refused ls h left c.in_err-lists.field-0.0 b c.in_err-lists.ensures.fault other ∙ ap rules_on c.text_lines-lines.ensures)

pub make_parts-requires-clause-few : goal.make_parts-requires-clause-few
make_parts-requires-clause-few g c =
    let ls = c.text_lines-lines.result in
    let h = c.in_ok-heading.heading in
    let left = c.read_heading.new.lines in
    let b : IsBehind ls h left = record { heading = c.in_ok-heading.ensures.value; in_range = c.in_ok-heading.ensures.heading; taken = c.in_ok-heading.ensures.rest } in
    (makes ls h left c.in_ok-lists.lists b c.in_ok-lists.ensures.fault c.in_ok-lists.ensures.read).few

pub returns-clause-rules : goal.returns-clause-rules
returns-clause-rules g c =
    let ls = c.text_lines-lines.result in
    let h = c.in_ok-heading.heading in
    let left = c.read_heading.new.lines in
    let b : IsBehind ls h left = record { heading = c.in_ok-heading.ensures.value; in_range = c.in_ok-heading.ensures.heading; taken = c.in_ok-heading.ensures.rest } in
    let m = makes ls h left c.in_ok-lists.lists b c.in_ok-lists.ensures.fault c.in_ok-lists.ensures.read in
    ap (λ x. Ok x) c.in_ok-parts.ensures ∙ m.rules ∙ ap rules_on c.text_lines-lines.ensures

pub returns-clause-shaped : goal.returns-clause-shaped
returns-clause-shaped g c =
    let ls = c.text_lines-lines.result in
    let h = c.in_ok-heading.heading in
    let left = c.read_heading.new.lines in
    let b : IsBehind ls h left = record { heading = c.in_ok-heading.ensures.value; in_range = c.in_ok-heading.ensures.heading; taken = c.in_ok-heading.ensures.rest } in
    subst IsShaped (sym c.in_ok-parts.ensures) (makes ls h left c.in_ok-lists.lists b c.in_ok-lists.ensures.fault c.in_ok-lists.ensures.read).shaped

-- the rows of the lines behind the heading are those of the text
behind : (ls all : List (List ℕ)) (h : Heading) (left : List (List ℕ)) → ls ≡ all → IsBehind ls h left → rows_on all ≡ row_counts h.train.inertia h.train.c 7 left
behind ls all h left same b = ap rows_on (sym same) ∙ rows_behind ls h left b

pub returns-in_err-heading-clause-made : goal.returns-in_err-heading-clause-made
returns-in_err-heading-clause-made g c =
    let r : c.from_residual.result ≡ Err c.in_err-heading.field-0.0 = search rules in
    let ls = c.text_lines-lines.result in
    let none : rows_on (lines c.args.text.now) ≡ 0 = ap rows_on (sym c.text_lines-lines.ensures) ∙ rows_refused ls c.in_err-heading.field-0.0 c.in_err-heading.ensures.value in
    rw r (counts_refused Parts c.in_err-heading.field-0.0 (rows_on (lines c.args.text.now)) c.args.steps.now c.args.steps.now (omega (arith, none)))

pub returns-in_err-lists-clause-made : goal.returns-in_err-lists-clause-made
returns-in_err-lists-clause-made g c =
    let r : c.from_residual-in_err-lists.result ≡ Err c.in_err-lists.field-0.0 = search rules in
    let ls = c.text_lines-lines.result in
    let h = c.in_ok-heading.heading in
    let left = c.read_heading.new.lines in
    let b : IsBehind ls h left = record { heading = c.in_ok-heading.ensures.value; in_range = c.in_ok-heading.ensures.heading; taken = c.in_ok-heading.ensures.rest } in
    rw r (counts_passed_on StepLists Parts c.in_err-lists.field-0.0 (row_counts h.train.inertia h.train.c 7 left) (rows_on (lines c.args.text.now)) c.args.steps.now c.read_steps.new.steps
    (behind ls (lines c.args.text.now) h left c.text_lines-lines.ensures b) c.in_err-lists.ensures.made)

pub returns-clause-made : goal.returns-clause-made
returns-clause-made g c =
    let ls = c.text_lines-lines.result in
    let h = c.in_ok-heading.heading in
    let left = c.read_heading.new.lines in
    let b : IsBehind ls h left = record { heading = c.in_ok-heading.ensures.value; in_range = c.in_ok-heading.ensures.heading; taken = c.in_ok-heading.ensures.rest } in
    let same = behind ls (lines c.args.text.now) h left c.text_lines-lines.ensures b in
    omega (arith, same, c.in_ok-lists.ensures.made)

pub returns-in_err-parts-clause-made : goal.returns-in_err-parts-clause-made
returns-in_err-parts-clause-made g c =
    let r : c.from_residual-in_err-parts.result ≡ Err NoMemory = search rules in
    let ls = c.text_lines-lines.result in
    let h = c.in_ok-heading.heading in
    let left = c.read_heading.new.lines in
    let b : IsBehind ls h left = record { heading = c.in_ok-heading.ensures.value; in_range = c.in_ok-heading.ensures.heading; taken = c.in_ok-heading.ensures.rest } in
    let same = behind ls (lines c.args.text.now) h left c.text_lines-lines.ensures b in
    rw r (omega (arith, c.in_ok-lists.ensures.made), omega (arith, same, c.in_ok-lists.ensures.made))

-- so many rows are among the step lines of the text
among : (all ls left : List (List ℕ)) (inertia c old new : ℕ) → ls ≡ all → left ≡ drop 6 ls → new ≤ old + row_counts inertia c 7 left → new ≤ old + count_by is_step_line all
among all ls left inertia c old new e d h =
    count_behind is_step_line all ls left 6 old new e d (omega (arith, h, row_counts-most inertia c 7 left))

pub returns-in_err-lists-clause-most : goal.returns-in_err-lists-clause-most
returns-in_err-lists-clause-most g c =
    let t = c.in_ok-heading.heading.train in
    among (lines c.args.text.now) c.text_lines-lines.result c.read_heading.new.lines t.inertia t.c c.args.steps.now c.read_steps.new.steps c.text_lines-lines.ensures c.in_ok-heading.ensures.rest
    (counted_within {A = StepLists} (Err c.in_err-lists.field-0.0) (row_counts t.inertia t.c 7 c.read_heading.new.lines) c.args.steps.now c.read_steps.new.steps c.in_err-lists.ensures.made).1

pub returns-in_err-parts-clause-most : goal.returns-in_err-parts-clause-most
returns-in_err-parts-clause-most g c =
    let t = c.in_ok-heading.heading.train in
    among (lines c.args.text.now) c.text_lines-lines.result c.read_heading.new.lines t.inertia t.c c.args.steps.now c.read_steps.new.steps c.text_lines-lines.ensures c.in_ok-heading.ensures.rest
    (omega (arith, c.in_ok-lists.ensures.made))

pub returns-clause-most : goal.returns-clause-most
returns-clause-most g c =
    let t = c.in_ok-heading.heading.train in
    among (lines c.args.text.now) c.text_lines-lines.result c.read_heading.new.lines t.inertia t.c c.args.steps.now c.read_steps.new.steps c.text_lines-lines.ensures c.in_ok-heading.ensures.rest
    (omega (arith, c.in_ok-lists.ensures.made))
