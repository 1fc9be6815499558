-- The rules of a route.
use Rattle.std.proofs.Common.{ℕ, ◌≡◌, ◌<◌, ◌≤◌, ◌+◌, ◌-◌, ◌*◌, ◌∙◌, List, [], ◌∷◌, replicate, None, refl, ap, sym, arith, inl, inr}
use Rattle.std.proofs.Math.Nat.{mul-div_cancel}
use Rattle.std.proofs.lemmas.Bool.{cases_lt, lt-ltb, le-ltb, lt-leb}
use Rattle.std.proofs.lemmas.List.{same_lists, get_or_default, get_or-replicate, length-replicate}
use Rattle.rail_specs.specs.Table.{force, IsTableOf}
use Rattle.force_table.specs.Fault.{table_fault}

-- the force of a table whose two rows have the same force
force-constant : (top f v : ℕ) → 1 ≤ top → v ≤ top → force ((0, f) ∷ (top, f) ∷ []) v ≡ f
force-constant top f v some h = elim (cases_lt v top) [
  | inl below ↦ (let same : f * (top - v) + f * (v - 0) ≡ f * top = (let e : (top - v) + (v - 0) ≡ top = omega arith in omega (arith, ap (λ (t : ℕ). f * t) e)) in
      let whole : top - 0 ≡ top = omega arith in
      rw (lt-ltb v top below, same, whole) (mul-div_cancel f (let p : 0 < top = omega arith in p)))
  | inr at ↦ rw (le-ltb v top at) refl
]

-- the speeds of its rows rise from 0 on, and their force stays the same
pub constant-faultless : (top f : ℕ) → 1 ≤ top → table_fault ((0, f) ∷ (top, f) ∷ []) ≡ None
constant-faultless top f some = rw (lt-leb top 0 (omega (arith, some)), le-ltb f f (omega arith)) refl

pub table-constant : (top f : ℕ) (forces : List ℕ) → 1 ≤ top → IsTableOf ((0, f) ∷ (top, f) ∷ []) forces → forces ≡ replicate (top + 1) f
table-constant top f forces some t =
    same_lists forces (replicate (top + 1) f) (t.top ∙ sym (length-replicate (top + 1) f))
    (λ k d h. get_or_default forces k d 0 h ∙ t.at k (omega (arith, t.top)) ∙ force-constant top f k some (omega (arith, t.top)) ∙ sym (get_or-replicate (top + 1) k f d (omega (arith, t.top))))
