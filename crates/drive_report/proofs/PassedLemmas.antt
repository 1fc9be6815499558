-- No line of an advice part is the first line of a certificate.
use Rattle.std.proofs.Common.{◌≡◌, ◌<◌, ◌+◌, ◌^◌, ◌∷◌, ◌++◌, ◌∙◌, ℕ, ℤ, pos, negsuc, List, [], Bool, true, false, refl, sym, ap, subst, arith, add-one, codes}
use Rattle.std.specs.Prelude.{slice_index, if◌then◌else◌}
use Rattle.std.specs.Int.RustNames.{unsigned_abs}
use Rattle.std.proofs.lemmas.Int.{ints}
use Rattle.rail_base.specs.Lines.{begins}
use Rattle.rail_base.specs.Texts.{line, spaced, number_line}
use Rattle.rail_specs.specs.declared.Timing.{Timing}
use Rattle.rail_specs.specs.Rules.{Rules}
use Rattle.rail_specs.specs.Times.{arrival_up}
use Rattle.dual_certificate.specs.declared.certificate.Certificate.{Certificate}
use Rattle.dual_certificate.specs.declared.part.Title.TheVariants as title
use Rattle.dual_certificate.specs.Part.{IsPassed, certificate_part}
use Rattle.dual_certificate.specs.Text.{text_of}
use Rattle.dual_certificate.proofs.Numerals.{Lacks, lacks-append}
use Rattle.dual_certificate.proofs.PartLaws.{part_of_text, passed_append, passed_line, spaced_lacks}
use Rattle.drive_report.specs.declared.kinds.Phase.{Phase}
use Rattle.drive_report.specs.declared.kinds.Phase.TheVariants.{Hold, Power, Coast, Brake, Part}
use Rattle.drive_report.specs.Phase.{phase_at, phase_name}
use Rattle.drive_report.specs.Report.{head_line, gap_line, kilojoules_of, energy_lines, bound_line, ends_run, run_start, phase_line, phase_lines, time_line}

-- a line of a word and a number
pub number_passed : (word : List ℕ) (n : ℤ) → Lacks 10 word → ((r : List ℕ) → begins (line (codes "certificate 1")) ((word ++ spaced n) ++ 10 ∷ r) ≡ false)
    → ((r : List ℕ) → begins (line (codes "costate 1")) ((word ++ spaced n) ++ 10 ∷ r) ≡ false) → unsigned_abs n < 10 ^ 64 → IsPassed (number_line word n)
unfolding number_line
number_passed word n lacks other more small = passed_line (word ++ spaced n) (lacks-append 10 word (spaced n) lacks (spaced_lacks n small)) other more

pub head_passed : IsPassed head_line
unfolding head_line
head_passed = passed_line (codes "advice 1") (refl, (refl, (refl, (refl, (refl, (refl, (refl, (refl, tt)))))))) (λ r. refl) (λ r. refl)

pub gap_passed : (met : Bool) → IsPassed (gap_line met)
unfolding gap_line
gap_passed true = passed_line (codes "gap met") (refl, (refl, (refl, (refl, (refl, (refl, (refl, tt))))))) (λ r. refl) (λ r. refl)
gap_passed false = passed_line (codes "gap open") (refl, (refl, (refl, (refl, (refl, (refl, (refl, (refl, tt)))))))) (λ r. refl) (λ r. refl)

kilojoules_small : (e : ℤ) → unsigned_abs e < 2 ^ 128 → unsigned_abs (kilojoules_of e) < 10 ^ 64
kilojoules_small (pos n) h = omega (arith, h)
kilojoules_small (negsuc n) h = omega (arith, ints, h)

pub energy_passed : (e : ℤ) → unsigned_abs e < 2 ^ 128 → IsPassed (energy_lines e)
energy_passed e h =
    passed_append (number_line (codes "energy") e) (number_line (codes "kilojoules") (kilojoules_of e))
    (number_passed (codes "energy") e (refl, (refl, (refl, (refl, (refl, (refl, tt)))))) (λ r. refl) (λ r. refl) (omega (arith, h)))
    (number_passed (codes "kilojoules") (kilojoules_of e) (refl, (refl, (refl, (refl, (refl, (refl, (refl, (refl, (refl, (refl, tt)))))))))) (λ r. refl) (λ r. refl) (kilojoules_small e h))

pub regained_passed : (share : ℕ) (traction : ℤ) → share < 2 ^ 128 → unsigned_abs traction < 2 ^ 128
    → IsPassed (number_line (codes "regeneration") (pos share) ++ number_line (codes "traction") traction)
regained_passed share traction h g =
    passed_append (number_line (codes "regeneration") (pos share)) (number_line (codes "traction") traction)
    (number_passed (codes "regeneration") (pos share) (refl, (refl, (refl, (refl, (refl, (refl, (refl, (refl, (refl, (refl, (refl, (refl, tt)))))))))))) (λ r. refl) (λ r. refl) (omega (arith, h)))
    (number_passed (codes "traction") traction (refl, (refl, (refl, (refl, (refl, (refl, (refl, (refl, tt)))))))) (λ r. refl) (λ r. refl) (omega (arith, g)))

pub bound_passed : (b : ℤ) → unsigned_abs b < 2 ^ 128 → IsPassed (bound_line b)
bound_passed b h = number_passed (codes "bound") b (refl, (refl, (refl, (refl, (refl, tt))))) (λ r. refl) (λ r. refl) (omega (arith, h))

pub counts_passed : (cells splits : ℕ) → cells < 2 ^ 128 → splits < 2 ^ 128 → IsPassed (number_line (codes "cells") (pos cells) ++ number_line (codes "splits") (pos splits))
counts_passed cells splits h g =
    passed_append (number_line (codes "cells") (pos cells)) (number_line (codes "splits") (pos splits))
    (number_passed (codes "cells") (pos cells) (refl, (refl, (refl, (refl, (refl, tt))))) (λ r. refl) (λ r. refl) (omega (arith, h)))
    (number_passed (codes "splits") (pos splits) (refl, (refl, (refl, (refl, (refl, (refl, tt)))))) (λ r. refl) (λ r. refl) (omega (arith, g)))

name_lacks : (p : Phase) → Lacks 10 (phase_name p)
name_lacks Hold = (refl, (refl, (refl, (refl, tt))))
name_lacks Power = (refl, (refl, (refl, (refl, (refl, tt)))))
name_lacks Coast = (refl, (refl, (refl, (refl, (refl, tt)))))
name_lacks Brake = (refl, (refl, (refl, (refl, (refl, tt)))))
name_lacks Part = (refl, (refl, (refl, (refl, tt))))

natural_lacks : (n : ℕ) → n < 2 ^ 128 → Lacks 10 (spaced (pos n))
natural_lacks n h = spaced_lacks (pos n) (omega (arith, h))

pub phase_passed : (r : Rules) (speeds : List ℕ) (from i : ℕ) → slice_index r.places from < 2 ^ 128 → slice_index r.places (i + 1) < 2 ^ 128 → slice_index speeds from < 2 ^ 128
    → slice_index speeds (i + 1) < 2 ^ 128 → IsPassed (phase_line r speeds from i)
unfolding phase_line
phase_passed r speeds from i a b v w =
    let begins_at : List ℕ = spaced (pos (slice_index r.places from)) in
    let ends_at : List ℕ = spaced (pos (slice_index r.places (i + 1))) in
    let name : List ℕ = 32 ∷ phase_name (phase_at r speeds i) in
    let entry : List ℕ = spaced (pos (slice_index speeds from)) in
    let exit : List ℕ = spaced (pos (slice_index speeds (i + 1))) in
    let named : Lacks 10 name = (refl, name_lacks (phase_at r speeds i)) in
    let one : Lacks 10 (codes "phase" ++ begins_at) = (refl, (refl, (refl, (refl, (refl, natural_lacks (slice_index r.places from) a))))) in
    let two = lacks-append 10 (codes "phase" ++ begins_at) ends_at one (natural_lacks (slice_index r.places (i + 1)) b) in
    let three = lacks-append 10 (codes "phase" ++ begins_at ++ ends_at) name two named in
    let four = lacks-append 10 (codes "phase" ++ begins_at ++ ends_at ++ name) entry three (natural_lacks (slice_index speeds from) v) in
    let five = lacks-append 10 (codes "phase" ++ begins_at ++ ends_at ++ name ++ entry) exit four (natural_lacks (slice_index speeds (i + 1)) w) in
    passed_line (codes "phase" ++ begins_at ++ ends_at ++ name ++ entry ++ exit) five (λ rest. refl) (λ rest. refl)

pub time_passed : (r : Rules) (speeds : List ℕ) (t : Timing) → slice_index r.places t.point < 2 ^ 128 → arrival_up r speeds t.point < 2 ^ 128 → unsigned_abs t.latest < 2 ^ 128
    → IsPassed (time_line r speeds t)
unfolding time_line
time_passed r speeds t a b v =
    let place : List ℕ = spaced (pos (slice_index r.places t.point)) in
    let arrival : List ℕ = spaced (pos (arrival_up r speeds t.point)) in
    let one : Lacks 10 (codes "time" ++ place) = (refl, (refl, (refl, (refl, natural_lacks (slice_index r.places t.point) a)))) in
    let two = lacks-append 10 (codes "time" ++ place) arrival one (natural_lacks (arrival_up r speeds t.point) b) in
    let three = lacks-append 10 (codes "time" ++ place ++ arrival) (spaced t.latest) two (spaced_lacks t.latest (omega (arith, v))) in
    passed_line (codes "time" ++ place ++ arrival ++ spaced t.latest) three (λ rest. refl) (λ rest. refl)

-- one step more
pub more_phases_passed : (r : Rules) (speeds : List ℕ) (i from : ℕ) → run_start r speeds i ≡ from → IsPassed (phase_lines r speeds i)
    → IsPassed (if ends_run r speeds i then phase_line r speeds from i else []) → IsPassed (phase_lines r speeds (i + 1))
more_phases_passed r speeds i from start before own =
    subst (λ (n : ℕ). IsPassed (phase_lines r speeds n)) (sym (add-one i))
    (passed_append (phase_lines r speeds i) (if ends_run r speeds i then phase_line r speeds (run_start r speeds i) i else []) before
    (subst (λ (s : ℕ). IsPassed (if ends_run r speeds i then phase_line r speeds s i else [])) (sym start) own))

-- eight texts
pub eight_passed : (a b c d e f g h : List ℕ) → IsPassed a → IsPassed b → IsPassed c → IsPassed d → IsPassed e → IsPassed f → IsPassed g → IsPassed h
    → IsPassed (a ++ (b ++ (c ++ (d ++ (e ++ (f ++ (g ++ h)))))))
eight_passed a b c d e f g h pa pb pc pd pe pf pg ph =
    passed_append a (b ++ (c ++ (d ++ (e ++ (f ++ (g ++ h)))))) pa
    (passed_append b (c ++ (d ++ (e ++ (f ++ (g ++ h))))) pb
    (passed_append c (d ++ (e ++ (f ++ (g ++ h)))) pc (passed_append d (e ++ (f ++ (g ++ h))) pd (passed_append e (f ++ (g ++ h)) pe (passed_append f (g ++ h) pf (passed_append g h pg ph))))))

-- a certificate behind an advice part
pub part_behind : (out advice : List ℕ) (c : Certificate) → out ≡ advice ++ text_of c → IsPassed advice → certificate_part out ≡ text_of c
part_behind out advice c e passed = ap certificate_part e ∙ passed title.Certificate (text_of c) ∙ part_of_text c

-- a text that is begun with one that is passed
pub begun_passed : (o n x : List ℕ) → o ≡ [] → n ≡ o ++ x → IsPassed x → IsPassed n
begun_passed o n x e f h = subst IsPassed (sym (f ∙ ap (λ (t : List ℕ). t ++ x) e)) h
