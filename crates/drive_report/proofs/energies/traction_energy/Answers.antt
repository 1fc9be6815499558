use Rattle.std.proofs.Common.{arith, ℕ, ℤ, ◌+ℤ◌, ◌+◌, ◌≡◌, ◌≤◌, ◌^◌, ◌*◌, ◌∙◌, sym, to_z, of_z}
use Rattle.std.specs.Int.RustNames.{unsigned_abs}
use Rattle.std.proofs.lemmas.Int.{ints}
use mir.Syntax.{w128}
use Rattle.rail_specs.specs.Rules.{work_at}
use Rattle.rail_specs.specs.Cost.{int_sum_below, traction_cost}
use Rattle.drive_rules.proofs.VerdictLemmas.{int_sum_below-next}
use Rattle.drive_report.proofs.energies.traction_energy.Goals as goal

-- a sum with one more number
more : (s x a b : ℤ) (i : ℕ) → i ≤ 4000 → unsigned_abs s ≤ 2 ^ 62 * i → unsigned_abs x ≤ 2 ^ 62 → s ≡ a → x ≡ b
    → (to_z w128 (of_z w128 (s +ℤ to_z w128 (of_z w128 x))) ≡ a +ℤ b) × (unsigned_abs (to_z w128 (of_z w128 (s +ℤ to_z w128 (of_z w128 x)))) ≤ 2 ^ 62 * (i + 1))
more s x a b i few small less p q = (omega (arith, ints, few, small, less, p, q), omega (arith, ints, few, small, less))

pub loop-i-preserved : goal.loop-i-preserved
loop-i-preserved c =
    let f : ℕ → ℤ = λ i. traction_cost (work_at c.args.rules.now c.args.speeds.now i) in
    let step = c.step_traction-sum in
    let m = more (to_z w128 c.loop-i.sum-bits) step.result (int_sum_below f c.loop-i.i) (f c.loop-i.i) c.loop-i.i (omega arith) c.loop-i.invariant.small step.ensures.small c.loop-i.invariant.value step.ensures.value in
    record { value = m.0 ∙ sym (int_sum_below-next f c.loop-i.i); small = m.1 }
