use Rattle.std.proofs.Common.{ℕ, ◌≡◌, ◌<◌, length, arith, inl, inr, ap, List}
use Rattle.std.proofs.lemmas.Bool.{cases_lt, cases_eq}
use Rattle.line_file.specs.declared.calls.Call.{Call}
use Rattle.line_file.specs.Shape.{call_at}
use Rattle.joined_rules.specs.JoinedParts.{CallsRise}
use Rattle.joined_rules.proofs.JoinedRising.{calls_rise}
use Rattle.joined_rules.proofs.points.call_at_place.Goals as goal
use Rattle.joined_rules.proofs.points.call_at_place.Goals.{else-next-calls-via-then-next-calls+else-calls-next, else-next-calls-via-else-next-calls}

none_at : (calls : List Call) (next place : ℕ) → CallsRise calls → ((j : ℕ) → j < next → (call_at calls j).place < place) → (next < length calls → place < (call_at calls next).place) →
    (i : ℕ) → i < length calls → (call_at calls i).place ≡ place → ⊥
none_at calls next place rise before from i l e = elim (cases_lt i next) [
  | inl b ↦ omega (arith, before i b, e)
  | inr g ↦ (let there : next < length calls = omega arith in elim (cases_eq i next) [
    | inl same ↦ (let s : (call_at calls i).place ≡ (call_at calls next).place = ap (λ (k : ℕ). (call_at calls k).place) same in omega (arith, from there, e, s))
    | inr ne ↦ omega (arith, from there, e, calls_rise calls rise next i (omega arith) l)
  ])
]

pub returns-else-next-calls-clause-none : goal.returns-else-next-calls-clause-none
returns-else-next-calls-clause-none c = λ m i l e.
    none_at c.args.calls.now c.args.next c.args.place c.requires.calls c.requires.before (λ n. elim c.else-next-calls.branch [
      | else-next-calls-via-then-next-calls+else-calls-next w ↦ omega (arith, w.if-calls-next.false, c.requires.from n)
      | else-next-calls-via-else-next-calls w ↦ omega (arith, w.if-next-calls.false, n)
    ]) i l e
