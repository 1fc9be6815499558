-- The rules of a whole text, from those of its parts.
use Rattle.std.proofs.Common.{ℕ, ◌≡◌, ◌≤◌, ◌+◌, ◌∙◌, Bool, true, false, if◌then◌else◌, List, [], ◌∷◌, ◌++◌, length, cond, drop, map, count_by, Option, Some, None, Result, Ok, Err, refl, ap, sym, arith, subst}
use Rattle.std.specs.Prelude.{is_none}
use Rattle.std.proofs.lemmas.List.{append-nil, length-map}
use Rattle.std.proofs.lemmas.List.Sums.{sum_by-take-drop}
use Rattle.route_file.specs.declared.fault.RouteFault.{RouteFault}
use Rattle.route_file.specs.declared.fault.RouteFault.TheVariants.{Form, Range, TooManySteps, NoMemory}
use Rattle.std.specs.Option.{option_or}
use Rattle.rail_base.specs.First.{first_in}
use Rattle.rail_base.specs.Lines.{size}
use Rattle.route_file.specs.Route.{Route, entry_faults, ends_from, heading_faults, line_faults, route_in, row_counts, rows_on, rules_of_read, rules_of_route, step_numbers, steps_on, train_line, unless}
use Rattle.rail_specs.specs.Rules.{Rules}
use Rattle.route_file.specs.declared.data.Heading.{Heading}
use Rattle.route_file.specs.declared.data.StepLists.{StepLists}
use Rattle.route_file.specs.RouteParts.{heading_of, rules_with, AnswersFault, HasSteps, IsHeading}
use Rattle.rule_parts.specs.Shaped.{IsShaped}
use Rattle.route_file.proofs.RouteHeading.{unless-err, unless-ok}
use Rattle.route_file.proofs.RouteFaultless.{faultless}
use Rattle.route_file.proofs.RouteShaped.{shaped, IsRoute}

option_or-option_or : {X : Type 0} (a b c : Option X) → option_or a (option_or b c) ≡ option_or (option_or a b) c
option_or-option_or None b c = refl
option_or-option_or (Some x) b c = refl

first_in-append : {X : Type 0} (xs ys : List (Option X)) → first_in (xs ++ ys) ≡ option_or (first_in xs) (first_in ys)
first_in-append [] ys = refl
first_in-append (x ∷ xs) ys = ap (λ (o : Option _). option_or x o) (first_in-append xs ys) ∙ option_or-option_or x (first_in xs) (first_in ys)

-- the first fault of the lines behind the heading
abbrev pub entries_fault : List (List ℕ) → Option RouteFault
entries_fault ls = first_in (entry_faults (size (train_line ls) 1) (size (train_line ls) 4) 7 (drop 6 ls))

-- the rules that lines give, or their refusal
abbrev pub rules_on : List (List ℕ) → Result Rules RouteFault
rules_on ls = rules_of_read (unless (first_in (line_faults ls)) (route_in ls))

text_fault : (ls : List (List ℕ)) → first_in (line_faults ls) ≡ option_or (first_in (heading_faults ls)) (entries_fault ls)
text_fault ls = first_in-append (heading_faults ls) (entry_faults (size (train_line ls) 1) (size (train_line ls) 4) 7 (drop 6 ls))

with_fault : (ls : List (List ℕ)) (o : Option RouteFault) → option_or (first_in (heading_faults ls)) (entries_fault ls) ≡ o → rules_of_read (unless o (route_in ls)) ≡ rules_on ls
with_fault ls o h = sym (ap (λ (f : Option RouteFault). rules_of_read (unless f (route_in ls))) (text_fault ls ∙ h))

-- a fault of the heading is that of the text
pub heading_refused : (ls : List (List ℕ)) (e : RouteFault) → Err e ≡ unless (first_in (heading_faults ls)) (heading_of ls) → Err e ≡ rules_on ls
heading_refused ls e h =
    with_fault ls (Some e) (ap (λ (o : Option RouteFault). option_or o (entries_fault ls)) (unless-err (first_in (heading_faults ls)) (heading_of ls) e h))

behind_heading : (ls : List (List ℕ)) (h : Heading) → Ok h ≡ unless (first_in (heading_faults ls)) (heading_of ls) → option_or (first_in (heading_faults ls)) (entries_fault ls) ≡ entries_fault ls
behind_heading ls h e = ap (λ (o : Option RouteFault). option_or o (entries_fault ls)) (unless-ok (first_in (heading_faults ls)) (heading_of ls) h e).0

answer_is : (e : RouteFault) (fault : Option RouteFault) → AnswersFault {A = StepLists} (Err e) fault → (e ≡ NoMemory → ⊥) → fault ≡ Some e
answer_is (Form n) fault h other = h
answer_is (Range n) fault h other = h
answer_is TooManySteps fault h other = h
answer_is NoMemory fault h other = absurd (other refl)

-- what the parts say of the text behind its heading
pub record IsBehind (ls : List (List ℕ)) (h : Heading) (left : List (List ℕ)) : Type 0 where
  pub heading : Ok h ≡ unless (first_in (heading_faults ls)) (heading_of ls)
  pub in_range : IsHeading h
  pub taken : left ≡ drop 6 ls

fault_behind : (ls : List (List ℕ)) (h : Heading) (left : List (List ℕ)) → IsBehind ls h left → first_in (entry_faults h.train.inertia h.train.c 7 left) ≡ entries_fault ls
fault_behind ls h left b =
    let same : h ≡ heading_of ls = (unless-ok (first_in (heading_faults ls)) (heading_of ls) h b.heading).1 in
    rw (same, b.taken) refl

-- a fault behind the heading is that of the text
pub entries_refused : (ls : List (List ℕ)) (h : Heading) (left : List (List ℕ)) (e : RouteFault) → IsBehind ls h left →
    AnswersFault {A = StepLists} (Err e) (first_in (entry_faults h.train.inertia h.train.c 7 left)) → (e ≡ NoMemory → ⊥) → Err e ≡ rules_on ls
entries_refused ls h left e b a other =
    with_fault ls (Some e) (behind_heading ls h b.heading ∙ sym (fault_behind ls h left b) ∙ answer_is e (first_in (entry_faults h.train.inertia h.train.c 7 left)) a other)

-- the route of a text without a fault is in range
route_good : (ls : List (List ℕ)) (h : Heading) (left : List (List ℕ)) → IsBehind ls h left → entries_fault ls ≡ None → IsRoute (route_in ls)
route_good ls h left b none =
    let same : h ≡ heading_of ls = (unless-ok (first_in (heading_faults ls)) (heading_of ls) h b.heading).1 in
    let i : IsHeading (heading_of ls) = subst IsHeading same b.in_range in
    let g = faultless (size (train_line ls) 1) (size (train_line ls) 4) 7 (drop 6 ls) (omega arith) none in
    record {
      train = i.train;
      top = i.top;
      traction = i.traction;
      brake = i.brake;
      latest = i.latest;
      good = g.good;
      some = omega (arith, g.some);
      few = omega (arith, g.few);
    }

-- the lists of the steps, and what they give
rules_same : (ls : List (List ℕ)) (lists : StepLists) → HasSteps (heading_of ls).train (steps_on (drop 6 ls)) [] lists → rules_with (heading_of ls) lists ≡ rules_of_route (route_in ls)
rules_same ls lists h =
    let r : Route = route_in ls in
    let rows : lists.rows.items ≡ map (step_numbers r.train) r.steps = sym (h.rows ∙ append-nil lists.rows.items) in
    let limits : lists.limits.items ≡ map (λ s. s.limit) r.steps = sym (h.limits ∙ append-nil lists.limits.items) in
    let places : lists.places.items ≡ 0 ∷ ends_from 0 (map (λ s. s.metres) r.steps) = sym (h.places ∙ append-nil lists.places.items) in
    rw (rows, limits, places, length-map r.steps (step_numbers r.train)) refl

-- the heading and the steps that were read make the rules of these lines
pub record Makes (ls : List (List ℕ)) (h : Heading) (lists : StepLists) : Type 0 where
  pub few : length lists.rows.items ≤ 4000
  pub shaped : IsShaped (rules_with h lists)
  pub rules : Ok (rules_with h lists) ≡ rules_on ls

pub makes : (ls : List (List ℕ)) (h : Heading) (left : List (List ℕ)) (lists : StepLists) → IsBehind ls h left →
    AnswersFault {A = StepLists} (Ok lists) (first_in (entry_faults h.train.inertia h.train.c 7 left)) → HasSteps h.train (steps_on left) [] lists → Makes ls h lists
makes ls h left lists b a read =
    let same : h ≡ heading_of ls = (unless-ok (first_in (heading_faults ls)) (heading_of ls) h b.heading).1 in
    let none : entries_fault ls ≡ None = sym (fault_behind ls h left b) ∙ a in
    let good = route_good ls h left b none in
    let steps : HasSteps (heading_of ls).train (steps_on (drop 6 ls)) [] lists = rw (same, b.taken) at read in
    let rules : rules_with h lists ≡ rules_of_route (route_in ls) = ap (λ (x : Heading). rules_with x lists) same ∙ rules_same ls lists steps in
    let rows : lists.rows.items ≡ map (step_numbers (route_in ls).train) (route_in ls).steps = sym (steps.rows ∙ append-nil lists.rows.items) in
    record {
      few = omega (arith, ap length rows, length-map (route_in ls).steps (step_numbers (route_in ls).train), good.few);
      shaped = subst IsShaped (sym rules) (shaped (route_in ls) good);
      rules = ap (λ (x : Rules). Ok x) rules ∙ with_fault ls None (behind_heading ls h b.heading ∙ none);
    }

-- a number where a test holds, and none where it doesn't
where_true : (b : Bool) (x : ℕ) → b ≡ true → ◌≡◌ {A = ℕ} (if b then x else 0) x
where_true b x h = rw h refl

where_false : (b : Bool) (x : ℕ) → b ≡ false → ◌≡◌ {A = ℕ} (if b then x else 0) 0
where_false b x h = rw h refl

-- no row is made where a line before the steps has a fault
pub rows_refused : (ls : List (List ℕ)) (e : RouteFault) → Err e ≡ unless (first_in (heading_faults ls)) (heading_of ls) → rows_on ls ≡ 0
rows_refused ls e h = where_false (is_none (first_in (heading_faults ls))) _ (ap is_none (unless-err (first_in (heading_faults ls)) (heading_of ls) e h))

-- else those of the lines behind the heading
pub rows_behind : (ls : List (List ℕ)) (h : Heading) (left : List (List ℕ)) → IsBehind ls h left → rows_on ls ≡ row_counts h.train.inertia h.train.c 7 left
rows_behind ls h left b =
    let read = unless-ok (first_in (heading_faults ls)) (heading_of ls) h b.heading in
    rw (read.1, b.taken) (where_true (is_none (first_in (heading_faults ls))) _ (ap is_none read.0))

count_by-drop : (p : List ℕ → Bool) (n : ℕ) (xs : List (List ℕ)) → count_by p (drop n xs) ≤ count_by p xs
count_by-drop p n xs = omega (arith, sum_by-take-drop (λ x. cond (p x) 1 0) xs n)

-- the steps that were counted are among the lines
pub count_behind : (p : List ℕ → Bool) (all ls left : List (List ℕ)) (n old new : ℕ) → ls ≡ all → left ≡ drop n ls → new ≤ old + count_by p left → new ≤ old + count_by p all
count_behind p all ls left n old new e d h =
    let some : count_by p (drop n all) ≤ count_by p all = count_by-drop p n all in
    let same : count_by p left ≡ count_by p (drop n all) = ap (λ (l : List (List ℕ)). count_by p l) (d ∙ ap (λ (l : List (List ℕ)). drop n l) e) in
    omega arith
