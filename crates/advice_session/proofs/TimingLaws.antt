-- How many timing points there are, also with one of them set.
use Rattle.std.proofs.Common.{ℕ, zero, suc, ℤ, ◌≡◌, ◌<◌, ◌≤◌, ◌+◌, List, [], ◌∷◌, length, get_or, arith, inl, inr, nat_lt, length-append}
use Rattle.std.specs.List.{filter}
use Rattle.std.proofs.lemmas.Bool.{cases_lt, lt-ltb, le-ltb}
use Rattle.rail_specs.specs.declared.Timing.{Timing}
use Rattle.rail_specs.specs.Rules.{no_timing}
use Rattle.rule_changes.specs.Latest.{with_latest}

-- those before a point and those behind it are together no more than all
sides : (ts : List Timing) (point : ℕ) → length (filter (λ t. nat_lt t.point point) ts) + length (filter (λ t. nat_lt point t.point) ts) ≤ length ts
sides [] point = omega arith
sides (t ∷ ts) point = elim (cases_lt t.point point) [
  | inl below ↦ rw (lt-ltb t.point point below, le-ltb point t.point (omega (arith, below))) (omega (arith, sides ts point))
  | inr above ↦ elim (cases_lt point t.point) [
    | inl behind ↦ rw (le-ltb t.point point above, lt-ltb point t.point behind) (omega (arith, sides ts point))
    | inr at ↦ rw (le-ltb t.point point above, le-ltb point t.point at) (omega (arith, sides ts point))
  ]
]

-- and one fewer where one of them stands at the point
sides_beside : (ts : List Timing) (point h : ℕ) → h < length ts → (get_or ts h no_timing).point ≡ point →
    length (filter (λ t. nat_lt t.point point) ts) + length (filter (λ t. nat_lt point t.point) ts) + 1 ≤ length ts
sides_beside [] point h l e = absurd (omega (arith, l))
sides_beside (t ∷ ts) point zero l e = rw (le-ltb t.point point (omega (arith, e)), le-ltb point t.point (omega (arith, e))) (omega (arith, sides ts point))
sides_beside (t ∷ ts) point (suc h) l e = elim (cases_lt t.point point) [
  | inl below ↦ rw (lt-ltb t.point point below, le-ltb point t.point (omega (arith, below))) (omega (arith, sides_beside ts point h (omega (arith, l)) e))
  | inr above ↦ elim (cases_lt point t.point) [
    | inl behind ↦ rw (le-ltb t.point point above, lt-ltb point t.point behind) (omega (arith, sides_beside ts point h (omega (arith, l)) e))
    | inr at ↦ rw (le-ltb t.point point above, le-ltb point t.point at) (omega (arith, sides_beside ts point h (omega (arith, l)) e))
  ]
]

count_with : (ts : List Timing) (point : ℕ) (latest : ℤ) → length (with_latest ts point latest) ≡ length (filter (λ t. nat_lt t.point point) ts) + length (filter (λ t. nat_lt point t.point) ts) + 1
count_with ts point latest = omega (arith, length-append (filter (λ t. nat_lt t.point point) ts) (record { point = point; latest = latest } ∷ filter (λ t. nat_lt point t.point) ts))

-- one timing point more at most, and none where one stands at the point
pub one_more : (ts : List Timing) (point : ℕ) (latest : ℤ) → length (with_latest ts point latest) ≤ length ts + 1
one_more ts point latest = omega (arith, count_with ts point latest, sides ts point)

pub none_more : (ts : List Timing) (point : ℕ) (latest : ℤ) (h : ℕ) → h < length ts → (get_or ts h no_timing).point ≡ point → length (with_latest ts point latest) ≤ length ts
none_more ts point latest h l e = omega (arith, count_with ts point latest, sides_beside ts point h l e)
