-- How the parts of a step's rules depend on the speed.
use Rattle.std.proofs.Common.{ℕ, ◌≤◌, ◌-◌, ◌*◌, ◌≡◌, arith, true, false}
use Rattle.std.specs.Prelude.{ℤ, pos, ◌≤ℤ◌, neg_ℤ, Bool, if◌then◌else◌}
use Rattle.std.proofs.lemmas.Int.{ints}
use Rattle.std.proofs.Math.Nat.{mul-le-mul_left}
use Rattle.rail_specs.specs.declared.Narrow.{Narrow}
use Rattle.rail_specs.specs.Rules.{Rules, step_at, traction_work, brake_work}
use Rattle.rail_specs.proofs.WorkLemmas.{work_up_rises, work_down_rises}
use Rattle.rule_parts.specs.Shaped.{IsShaped}
use Rattle.speed_envelopes.specs.Bounds.{Setting, asks, gives, asked, given, traction_asks, brakes_ask, is_idle, IsLevelPair, IsStepDriven}
use Rattle.speed_envelopes.specs.declared.bounds.Side.{Side}
use Rattle.speed_envelopes.specs.declared.bounds.Side.TheVariants.{Greatest, Least}
use Rattle.speed_envelopes.specs.declared.bounds.End.{End}
use Rattle.speed_envelopes.specs.declared.bounds.End.TheVariants.{Exit, Entry}

traction_work-falls : (r : Rules) (i v w : ℕ) → IsShaped r → v ≤ w → traction_work r i w ≤ traction_work r i v
traction_work-falls r i v w s h = mul-le-mul_left (2000000 * (step_at r i).metres) (s.traction.never_rises v w h)

brake_work-falls : (r : Rules) (i v w : ℕ) → IsShaped r → v ≤ w → brake_work r i w ≤ brake_work r i v
brake_work-falls r i v w s h = mul-le-mul_left (2000000 * (step_at r i).metres) (s.brake.never_rises v w h)

most_of-falls : (b : Bool) (x y : ℕ) → y ≤ x → (if b then 0 else y) ≤ (if b then 0 else x)
most_of-falls true x y h = omega arith
most_of-falls false x y h = h

traction_asks-rises : (r : Rules) (n : Narrow) (i v w : ℕ) → IsShaped r → v ≤ w → traction_asks r n i v ≤ℤ traction_asks r n i w
traction_asks-rises r n i v w s h =
    omega (arith, ints, work_up_rises (step_at r i) v w h, most_of-falls (is_idle n i) (traction_work r i v) (traction_work r i w) (traction_work-falls r i v w s h))

brakes_ask-rises : (r : Rules) (i v w : ℕ) → IsShaped r → v ≤ w → brakes_ask r i v ≤ℤ brakes_ask r i w
brakes_ask-rises r i v w s h = omega (arith, ints, work_down_rises (step_at r i) v w h, brake_work-falls r i v w s h)

neg-falls : (a b : ℤ) → a ≤ℤ b → neg_ℤ b ≤ℤ neg_ℤ a
neg-falls a b h = omega (arith, ints)

pos-rises : (a b : ℕ) → a ≤ b → pos a ≤ℤ pos b
pos-rises a b h = omega (arith, ints)

-- a higher level asks for no less
pub asked-rises : (side : Side) (end : End) (r : Rules) (n : Narrow) (i a b : ℕ) → IsShaped r → a ≤ b → asked side end r n i a ≤ℤ asked side end r n i b
asked-rises Greatest Exit r n i a b s h = traction_asks-rises r n i a b s h
asked-rises Greatest Entry r n i a b s h = brakes_ask-rises r i a b s h
asked-rises Least Exit r n i a b s h = neg-falls _ _ (work_up_rises (step_at r i) (r.top - b) (r.top - a) (omega arith))
asked-rises Least Entry r n i a b s h = neg-falls _ _ (pos-rises _ _ (work_down_rises (step_at r i) (r.top - b) (r.top - a) (omega arith)))

-- and gives no less
pub given-rises : (side : Side) (end : End) (r : Rules) (n : Narrow) (i a b : ℕ) → IsShaped r → a ≤ b → given side end r n i a ≤ℤ given side end r n i b
given-rises Greatest Exit r n i a b s h = pos-rises _ _ (work_down_rises (step_at r i) a b h)
given-rises Greatest Entry r n i a b s h = work_up_rises (step_at r i) a b h
given-rises Least Exit r n i a b s h = neg-falls _ _ (brakes_ask-rises r i (r.top - b) (r.top - a) s (omega arith))
given-rises Least Entry r n i a b s h = neg-falls _ _ (traction_asks-rises r n i (r.top - b) (r.top - a) s (omega arith))

pub asks-rises : (s : Setting) (end : End) (i a b : ℕ) → IsShaped s.rules → a ≤ b → asks s end i a ≤ℤ asks s end i b
asks-rises s end i a b h l = asked-rises s.side end s.rules s.narrow i a b h l

pub gives-rises : (s : Setting) (end : End) (i a b : ℕ) → IsShaped s.rules → a ≤ b → gives s end i a ≤ℤ gives s end i b
gives-rises s end i a b h l = given-rises s.side end s.rules s.narrow i a b h l

-- ---- a step of levels, as a step of speeds

neg-rises : (a b : ℤ) → neg_ℤ b ≤ℤ neg_ℤ a → a ≤ℤ b
neg-rises a b h = omega (arith, ints)

pub pair_from_driven : (s : Setting) (i a b : ℕ) → s.side ≡ Least → IsStepDriven s.rules s.narrow i (s.rules.top - a) (s.rules.top - b) → IsLevelPair s i a b
pair_from_driven s i a b e h = record { exit = rw e (neg-falls _ _ h.brake); entry = rw e (neg-falls _ _ h.traction) }

pub driven_from_pair : (s : Setting) (i a b : ℕ) → s.side ≡ Least → IsLevelPair s i a b → IsStepDriven s.rules s.narrow i (s.rules.top - a) (s.rules.top - b)
driven_from_pair s i a b e h = record { traction = neg-rises _ _ (rw e at h.entry); brake = neg-rises _ _ (rw e at h.exit) }
