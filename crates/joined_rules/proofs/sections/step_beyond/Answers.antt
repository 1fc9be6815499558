use Rattle.std.proofs.Common.{ℕ, ◌+◌, leb, leb-true, arith, rules}
use Rattle.std.proofs.lemmas.Bool.{leb-false}
use Rattle.std.proofs.lemmas.List.Sorted.{IsNonDecreasingBy-from_default, IsPartitionPoint-from_clause, IsPartitionedBy-leb}
use Rattle.joined_rules.proofs.JoinedRising.{places_not_above}
use Rattle.joined_rules.proofs.sections.step_beyond.Goals as goal

pub returns-clause-before : goal.returns-clause-before
returns-clause-before c =
    let places = c.args.places.now in
    let place = c.args.place in
    let rise = IsNonDecreasingBy-from_default (λ (p : ℕ). p) places 0 (λ i j l m. places_not_above places c.requires i j l m) in
    let point = IsPartitionPoint-from_clause (λ (p : ℕ). leb p place) _ _ c.partition_point-below.ensures.partitioned (IsPartitionedBy-leb (λ (p : ℕ). p) places place rise) (λ a r q k. search rules) in
    λ i l. leb-true _ _ (point.0 (i + 1) 0 (omega arith) (omega arith))

pub returns-clause-from : goal.returns-clause-from
returns-clause-from c =
    let places = c.args.places.now in
    let place = c.args.place in
    let rise = IsNonDecreasingBy-from_default (λ (p : ℕ). p) places 0 (λ i j l m. places_not_above places c.requires i j l m) in
    let point = IsPartitionPoint-from_clause (λ (p : ℕ). leb p place) _ _ c.partition_point-below.ensures.partitioned (IsPartitionedBy-leb (λ (p : ℕ). p) places place rise) (λ a r q k. search rules) in
    λ i l m. leb-false _ _ (point.1 (i + 1) 0 (omega arith) m)
