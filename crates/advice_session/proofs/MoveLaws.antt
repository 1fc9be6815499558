-- A session whose train comes to another place.
use Rattle.std.proofs.Common.{ℕ, ℤ, pos, ◌≡◌, ◌<◌, ◌≤◌, ◌-◌, ◌*◌, ◌-ℤ◌, ◌≤ℤ◌, ◌&&◌, ◌||◌, ◌==◌, ◌∙◌, Bool, true, false, List, Option, Some, None, refl, ap, arith, sym, subst, ◌*ℤ◌, to_z, of_z, w64, nat_lt, nat_le, if◌then◌else◌}
use Rattle.std.proofs.lemmas.Bool.Decides.{nat_tests}
use Rattle.std.proofs.lemmas.Int.{ints}
use Rattle.rail_specs.specs.Rules.{Rules, is_stop}
use Rattle.line_file.specs.declared.line.Line.{Line}
use Rattle.line_file.specs.declared.service.Service.{Service}
use Rattle.train_file.specs.declared.train.Train.{Train}
use Rattle.joined_rules.specs.declared.setup.Stretch.{Stretch}
use Rattle.joined_rules.specs.Joined.{IsLatest, Joins, last_place}
use Rattle.rule_changes.specs.Advance.{GoesOnJoined, IsLater, IsNoStopNext, StayInRange}
use Rattle.advice_session.specs.declared.fault.SessionFault.TheVariants.{OutOfRange, Outside, Behind, ClockBack, StopsTooClose}
use Rattle.advice_session.specs.Data.{State, IsSession, state_of}
use Rattle.advice_session.specs.Faults.{at_fault, is_stop_next}
use Rattle.advice_session.proofs.PlaceLaws.{behind_last}

-- the train may come there
pub record Accepts (s : State) (place speed clock : ℕ) : Type 0 where
  pub speed_is : speed ≤ 12000
  pub clock_is : clock ≤ 172800
  pub ends : place < last_place s.data_is.service.calls
  pub begun : s.data_is.setup.place ≤ place
  pub on : s.data_is.setup.clock ≤ clock
  pub moves : speed ≡ 0 → is_stop_next s.rules_are place ≡ false

none_of : (a b c d e : Bool) →
    (if a then Some OutOfRange else if b then Some Outside else if c then Some Behind else if d then Some ClockBack else if e then Some StopsTooClose else None) ≡ None →
    (a ≡ false) × (b ≡ false) × (c ≡ false) × (d ≡ false) × (e ≡ false)
none_of true b c d e h = absurd (cc h)
none_of false true c d e h = absurd (cc h)
none_of false false true d e h = absurd (cc h)
none_of false false false true e h = absurd (cc h)
none_of false false false false true h = absurd (cc h)
none_of false false false false false h = (refl, refl, refl, refl, refl)

neither : (a b : Bool) → (a || b) ≡ false → (a ≡ false) × (b ≡ false)
neither true b h = absurd (cc h)
neither false b h = (refl, h)

not_less : (a b : ℕ) → nat_lt a b ≡ false → b ≤ a
not_less a b h = grind (arith, nat_tests)

not_most : (a b : ℕ) → nat_le a b ≡ false → b < a
not_most a b h = grind (arith, nat_tests)

second : (a b : Bool) → a ≡ true → (a && b) ≡ false → b ≡ false
second true b e h = h
second false b e h = absurd (cc e)

is_zero : (n : ℕ) → n ≡ 0 → (n == 0) ≡ true
is_zero n e = rw e refl

pub accepted : (s : State) (place speed clock : ℕ) → None ≡ at_fault s place speed clock → Accepts s place speed clock
accepted s place speed clock h =
    let n = none_of (nat_lt 12000 speed || nat_lt 172800 clock) (nat_le (last_place s.data_is.service.calls) place) (nat_lt place s.data_is.setup.place) (nat_lt clock s.data_is.setup.clock)
    (speed == 0 && is_stop_next s.rules_are place) (sym h) in
    let r = neither (nat_lt 12000 speed) (nat_lt 172800 clock) n.0 in
    record {
      speed_is = not_less 12000 speed r.0;
      clock_is = not_less 172800 clock r.1;
      ends = not_most (last_place s.data_is.service.calls) place n.1;
      begun = not_less place s.data_is.setup.place n.2;
      on = not_less clock s.data_is.setup.clock n.3;
      moves = λ e. second (speed == 0) (is_stop_next s.rules_are place) (is_zero speed e) n.4;
    }

-- no stop is next where the train comes to stand
pub no_stop_next : (s : State) (place speed clock : ℕ) → IsSession s → Accepts s place speed clock → IsNoStopNext s.rules_are place speed
no_stop_next s place speed clock h a e k last =
    ap (λ (n : ℕ). is_stop s.rules_are n) (behind_last s.rules_are place k h.rules.joined.grid.rises last) ∙ a.moves e

-- how many ms pass, as they are computed
pub later_is : (old clock : ℕ) (x : ℤ) → x ≡ pos (clock - old) → old ≤ clock → clock ≤ 172800 → IsLater old clock (to_z w64 (of_z w64 (pos 1000 *ℤ to_z w64 (of_z w64 x))))
later_is old clock x e on few =
    let inner : to_z w64 (of_z w64 x) ≡ x = omega (arith, ints, e) in
    let outer : to_z w64 (of_z w64 (pos 1000 *ℤ x)) ≡ pos 1000 *ℤ x = omega (arith, ints, e) in
    rw (inner, outer) (omega (arith, ints, e))

latest_low : (o : Option ℕ) (clock : ℕ) (t : ℤ) → IsLatest o clock t → (pos 0 -ℤ pos (1000 * clock)) ≤ℤ t
latest_low None clock t h = absurd h
latest_low (Some s) clock t h = omega (arith, ints, h)

-- the latest times stay within their range
pub stay_in_range : (s : State) (place speed clock : ℕ) (later : ℤ) → IsSession s → Accepts s place speed clock → IsLater s.data_is.setup.clock clock later → StayInRange s.rules_are.timings later
stay_in_range s place speed clock later h a is k l =
    let (j, there, after, point, latest) = h.rules.joined.timings_are.each k l in
    omega (arith, ints, is, a.clock_is, latest_low _ s.data_is.setup.clock _ latest)

-- the session goes on from there
pub goes_on : (line : Line) (train : Train) (service : Service) (step place speed clock : ℕ) (names : List (List ℕ)) (stretches given : List Stretch) (r new : Rules) (p v t : ℕ) (later : ℤ) →
    IsSession (state_of line train service step place speed clock names stretches r) → Accepts (state_of line train service step place speed clock names stretches r) p v t →
    given ≡ stretches → IsLater clock t later → GoesOnJoined line given p v later r new →
    IsSession (state_of line train service step p v t names stretches new)
goes_on line train service step place speed clock names stretches given r new p v t later h a same is goes = record {
  line = h.line;
  train = h.train;
  service = h.service;
  setup = record { step = h.setup.step; place = (omega (arith, h.setup.place.0, a.begun), a.ends); speed = a.speed_is; clock = a.clock_is; stretches = h.setup.stretches };
  names = h.names;
  few = h.few;
  rules = subst (λ (ss : List Stretch). Joins line train service (record { step = step; place = p; speed = v; clock = t; stretches = ss }) new) same
      (goes train service (record { step = step; place = place; speed = speed; clock = clock; stretches = stretches }) t h.service h.rules is);
}
