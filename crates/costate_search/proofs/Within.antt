-- Costates that are moved into their range.
use Rattle.std.proofs.Common.{ℕ, ℤ, pos, negsuc, ◌≡◌, ◌≤◌, ◌^◌, List, [], ◌∷◌, map, length, ap, subst, sym, arith, ◌∙◌}
use Rattle.std.specs.List.{AllByRecursion, All}
use Rattle.std.specs.Int.RustNames.{unsigned_abs}
use Rattle.std.proofs.lemmas.Int.{ints, clamps}
use Rattle.std.proofs.lemmas.List.{length-map}
use Rattle.std.proofs.lemmas.List.Elements.{All-from_recursion}
use Rattle.costate_search.specs.Course.{within_range}

small_within : (s : ℤ) → unsigned_abs (within_range s) ≤ 2 ^ 22
small_within s = omega (arith, ints, clamps)

each_within : (ss : List ℤ) → AllByRecursion (λ s. unsigned_abs s ≤ 2 ^ 22) (map within_range ss)
each_within [] = tt
each_within (s ∷ ss) = (small_within s, each_within ss)

pub within_small : (kept costates : List ℤ) → kept ≡ map within_range costates → All (λ s. unsigned_abs s ≤ 2 ^ 22) kept
within_small kept costates e = All-from_recursion (λ s. unsigned_abs s ≤ 2 ^ 22) kept (subst (AllByRecursion (λ s. unsigned_abs s ≤ 2 ^ 22)) (sym e) (each_within costates))

pub within_count : (kept costates : List ℤ) → kept ≡ map within_range costates → length kept ≡ length costates
within_count kept costates e = ap length e ∙ length-map costates within_range
