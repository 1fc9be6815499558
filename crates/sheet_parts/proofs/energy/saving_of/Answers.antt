use Rattle.std.proofs.Common.{arith, ◌≡◌, ◌∙◌, ap, ℕ, ℤ, pos, ◌-ℤ◌, ◌*ℤ◌, to_z, of_z, Some}
use Rattle.std.specs.Int.RustNames.{unsigned_abs}
use Rattle.std.proofs.lemmas.Bool.{ne_eqb}
use Rattle.std.proofs.lemmas.Int.{ints}
use mir.Syntax.{w128}
use Rattle.sheet_parts.specs.Rounded.{rounded_up}
use Rattle.sheet_parts.specs.Energy.{saving_of}
use Rattle.sheet_parts.proofs.energy.saving_of.Goals as goal

saved : (energy bound w r : ℤ) (size : ℕ) → size ≡ unsigned_abs energy → (size ≡ 0 → ⊥) → w ≡ pos 10000 *ℤ (energy -ℤ bound) → r ≡ rounded_up size w
    → Some r ≡ saving_of energy bound
saved energy bound w r size s n p e =
    rw (ne_eqb (unsigned_abs energy) 0 (λ z. n (s ∙ z))) (ap (λ (x : ℤ). Some x) (e ∙ ap (λ (k : ℕ). rounded_up k w) s ∙ ap (rounded_up (unsigned_abs energy)) p))

pub returns : goal.returns
returns c =
    let narrow : to_z w128 (of_z w128 c.args.energy) ≡ c.args.energy = omega (arith, ints) in
    let back : to_z w128 (of_z w128 c.rounded_up.result) ≡ c.rounded_up.result = omega (arith, ints) in
    saved c.args.energy c.args.bound _ _ c.unsigned_abs-size.result (c.unsigned_abs-size.ensures.value ∙ ap unsigned_abs narrow) c.if-size-eq0.false (omega (arith, ints, c.requires.energy, c.requires.bound)) (back ∙ c.rounded_up.ensures.value)
