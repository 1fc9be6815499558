-- Which links are possible where cells rise.
use Rattle.std.proofs.Common.{ℕ, ◌+◌, ◌*◌, ◌<◌, ◌≤◌, ◌≡◌, Bool, true, false, List, length, refl, sym, arith, inl, inr, ◌∙◌}
use Rattle.std.specs.Prelude.{pos, neg_ℤ, ◌&&◌, nat_le, slice_index, slice_index_or, IsTrue, IsFalse}
use Rattle.std.specs.Int.RustNames.{int_le}
use Rattle.std.proofs.lemmas.Int.{ints}
use Rattle.std.proofs.lemmas.Bool.{and_parts, cases_lt}
use Rattle.std.proofs.lemmas.Bool.Decides.{nat_tests}
use Rattle.std.proofs.Math.Nat.{mul-le-mul_left}
use Rattle.bound_specs.specs.declared.Cell.{Cell}
use Rattle.bound_specs.specs.Cells.{no_cell}
use Rattle.bound_specs.specs.Links.{can_link}
use Rattle.rail_specs.specs.Rules.{Rules, step_at, traction_work, brake_work}
use Rattle.rail_specs.specs.Step.{work}
use Rattle.rail_specs.proofs.WorkLemmas.{work_rises}
use Rattle.rule_parts.specs.Shaped.{IsShaped}
use Rattle.link_windows.specs.Windows.{AreRising, IsWindow, can_begin, is_reached, is_held}

-- the tests of a link, parted
parted : (a b c d e f g : Bool) → ((a && b) && (c && d) && e && f && g) ≡ ((a && c) && (b && d && f) && (e && g))
parted false b c d e f g = refl
parted true false true d e f g = refl
parted true false false d e f g = refl
parted true true false d e f g = refl
parted true true true false e f g = refl
parted true true true true false true g = refl
parted true true true true false false g = refl
parted true true true true true true g = refl
parted true true true true true false g = refl

pub link_parts : (r : Rules) (i : ℕ) (a b : Cell) → can_link r i a b ≡ (can_begin r i a && is_reached r i a b && is_held r i a b)
link_parts r i a b =
    parted (nat_le a.first (slice_index r.limits i)) (nat_le b.first (slice_index r.limits i)) (nat_le a.first r.top) (nat_le b.first r.top)
    (nat_le 1 (a.last + b.last)) (int_le (work (step_at r i) a.last b.first) (pos (traction_work r i b.first)))
    (int_le (neg_ℤ (pos (brake_work r i a.first))) (work (step_at r i) a.first b.last))

-- faster cells are held where slower ones are
pub held_rises : (r : Rules) (i : ℕ) (a b c : Cell) → b.last ≤ c.last → IsTrue (is_held r i a b) → IsTrue (is_held r i a c)
held_rises r i a b c h t =
    let rise = work_rises (step_at r i) a.first b.last c.last h in
    grind (arith, nat_tests, ints)

-- slower cells are reached where faster ones are
pub reached_falls : (r : Rules) (i : ℕ) (a b c : Cell) → IsShaped r → b.first ≤ c.first → IsTrue (is_reached r i a c) → IsTrue (is_reached r i a b)
reached_falls r i a b c s h t =
    let rise = work_rises (step_at r i) a.last b.first c.first h in
    let force = mul-le-mul_left (2000000 * (step_at r i).metres) (s.traction.never_rises b.first c.first h) in
    grind (arith, nat_tests, ints)

isnt : (x : Bool) → (IsTrue x → ⊥) → IsFalse x
isnt true h = absurd (h refl)
isnt false h = refl

never : (x : Bool) → IsFalse x → IsTrue x → ⊥
never true h t = absurd (cc h)
never false h t = cc t

-- ---- the two ends

pub held_behind : (r : Rules) (i : ℕ) (a : Cell) (cells : List Cell) (m : ℕ) → AreRising cells → IsTrue (is_held r i a (slice_index_or cells m no_cell))
    → (b : ℕ) → m ≤ b → b < length cells → IsTrue (is_held r i a (slice_index_or cells b no_cell))
held_behind r i a cells m rise t b le lt = held_rises r i a (slice_index_or cells m no_cell) (slice_index_or cells b no_cell) (rise.lasts m b le lt) t

pub unheld_before : (r : Rules) (i : ℕ) (a : Cell) (cells : List Cell) (m : ℕ) → AreRising cells → m < length cells → IsFalse (is_held r i a (slice_index_or cells m no_cell))
    → (b : ℕ) → b < m + 1 → IsFalse (is_held r i a (slice_index_or cells b no_cell))
unheld_before r i a cells m rise l f b lt =
    isnt (is_held r i a (slice_index_or cells b no_cell))
    (λ t. never (is_held r i a (slice_index_or cells m no_cell)) f (held_behind r i a cells b rise t m (omega arith) l))

pub reached_before : (r : Rules) (i : ℕ) (a : Cell) (cells : List Cell) (m : ℕ) → IsShaped r → AreRising cells → m < length cells
    → IsTrue (is_reached r i a (slice_index_or cells m no_cell)) → (b : ℕ) → b < m + 1 → IsTrue (is_reached r i a (slice_index_or cells b no_cell))
reached_before r i a cells m s rise l t b lt =
    reached_falls r i a (slice_index_or cells b no_cell) (slice_index_or cells m no_cell) s (rise.firsts b m (omega arith) l) t

pub unreached_behind : (r : Rules) (i : ℕ) (a : Cell) (cells : List Cell) (m : ℕ) → IsShaped r → AreRising cells
    → IsFalse (is_reached r i a (slice_index_or cells m no_cell)) → (b : ℕ) → m ≤ b → b < length cells → IsFalse (is_reached r i a (slice_index_or cells b no_cell))
unreached_behind r i a cells m s rise f b le lt =
    isnt (is_reached r i a (slice_index_or cells b no_cell))
    (λ t. never (is_reached r i a (slice_index_or cells m no_cell)) f (reached_before r i a cells b s rise lt t m (omega arith)))

-- where cells up to one place are reached, and those from another on are held, the possible ones are between the two
pub window_is : (r : Rules) (i : ℕ) (a : Cell) (cells : List Cell) (from beyond to : ℕ) → IsTrue (can_begin r i a) → from ≤ length cells → beyond ≤ length cells
    → ((b : ℕ) → b < from → IsFalse (is_held r i a (slice_index_or cells b no_cell)))
    → ((b : ℕ) → from ≤ b → b < length cells → IsTrue (is_held r i a (slice_index_or cells b no_cell)))
    → ((b : ℕ) → b < beyond → IsTrue (is_reached r i a (slice_index_or cells b no_cell)))
    → ((b : ℕ) → beyond ≤ b → b < length cells → IsFalse (is_reached r i a (slice_index_or cells b no_cell)))
    → from ≤ to → beyond ≤ to → (from < to → to ≤ beyond) → to ≤ length cells → IsWindow (can_link r i a) cells from to
window_is r i a cells from beyond to begins lf lb unheld held reached unreached ft bt most within = record {
  ordered = ft;
  within = within;
  exact = λ b l.
      let c : Cell = slice_index_or cells b no_cell in
      let same = link_parts r i a c in (
        λ t.
            let all = and_parts (can_begin r i a && is_reached r i a c) (is_held r i a c) (sym same ∙ t) in
            let some = and_parts (can_begin r i a) (is_reached r i a c) all.0 in (
              elim (cases_lt b from) [
                | inl before ↦ absurd (never (is_held r i a c) (unheld b before) all.1)
                | inr behind ↦ behind
              ],
              elim (cases_lt b beyond) [
                | inl before ↦ omega (arith, before, bt)
                | inr behind ↦ absurd (never (is_reached r i a c) (unreached b behind l) some.1)
              ],
            ),
        λ h.
            let far : b < beyond = omega (arith, h.0, h.1, most (omega (arith, h.0, h.1))) in
            same ∙ rw (begins, reached b far, held b h.0 l) refl,
      );
}
