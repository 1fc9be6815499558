use Rattle.std.proofs.Common.{nat_lt, ltb-true, arith, rules}
use Rattle.std.proofs.lemmas.Bool.{ltb-false}
use Rattle.std.proofs.lemmas.List.Sorted.{IsPartitionPoint-from_clause, IsPartitionedBy-ltb}
use Rattle.rail_specs.specs.declared.Timing.{Timing}
use Rattle.rail_specs.specs.Rules.{no_timing}
use Rattle.rule_changes.proofs.LatestLists.{points_rise}
use Rattle.rule_changes.proofs.latest.place_of.Goals as goal

pub returns : goal.returns
returns c =
    let timings = c.args.timings.now in
    let point = c.args.point in
    let split = IsPartitionPoint-from_clause (λ (t : Timing). nat_lt t.point point) _ _ c.partition_point.ensures.partitioned
    (IsPartitionedBy-ltb (λ (t : Timing). t.point) timings point (points_rise timings c.requires)) (λ a r q k. search rules) in
    record {
      within = c.partition_point.ensures.bound;
      before = λ k l. ltb-true _ _ (split.0 k no_timing (omega arith) l);
      from = λ k a l. ltb-false _ _ (split.1 k no_timing a l);
    }
