use Rattle.std.proofs.Common.{◌≡◌, ◌<◌, ◌∙◌, length, get_or, arith, sym, ap}
use Rattle.std.proofs.lemmas.List.{get_or_default}
use Rattle.rail_specs.specs.declared.Timing.{Timing}
use Rattle.rail_specs.specs.Rules.{no_timing}
use Rattle.rule_changes.proofs.LatestLists.{replaced, replaced_is, inserted, inserted_is}
use Rattle.rule_changes.proofs.latest.put.Goals as goal
use Rattle.rule_changes.proofs.latest.put.Goals.{else-h-len-via-then-h-len+else-index-timing, else-h-len-via-else-h-len}

pub returns-then-index-timing-clause-set : goal.returns-then-index-timing-clause-set
returns-then-index-timing-clause-set c =
    let ts = c.args.timings.now.items in
    let h = c.place_of-h.result in
    let at = rw c.deref.ensures.value at c.place_of-h.ensures in
    let there : h < length ts = omega (arith, c.if-h-len.true) in
    let read : c.index.result.now ≡ get_or ts h no_timing = c.index.ensures ∙ get_or_default ts h c.index.result.now no_timing there in
    let is : (get_or ts h no_timing).point ≡ c.args.timing.point = sym (ap (λ (t : Timing). t.point) read) ∙ c.if-index-timing.true in
    sym (replaced ts c.args.timing.point h c.args.timing.latest c.requires at there is)

pub returns-then-index-timing-clause-others : goal.returns-then-index-timing-clause-others
returns-then-index-timing-clause-others c =
    let ts = c.args.timings.now.items in
    let h = c.place_of-h.result in
    let at = rw c.deref.ensures.value at c.place_of-h.ensures in
    let there : h < length ts = omega (arith, c.if-h-len.true) in
    let read : c.index.result.now ≡ get_or ts h no_timing = c.index.ensures ∙ get_or_default ts h c.index.result.now no_timing there in
    let is : (get_or ts h no_timing).point ≡ c.args.timing.point = sym (ap (λ (t : Timing). t.point) read) ∙ c.if-index-timing.true in
    replaced_is ts c.args.timing.point h c.args.timing.latest c.requires at there is

pub returns-in_ok-insert-clause-set : goal.returns-in_ok-insert-clause-set
returns-in_ok-insert-clause-set c =
    let ts = c.args.timings.now.items in
    let h = c.place_of-h.result in
    let at = rw c.deref.ensures.value at c.place_of-h.ensures in
    let absent : h < length ts → c.args.timing.point < (get_or ts h no_timing).point = λ l. elim c.else-h-len.branch [
      | else-h-len-via-then-h-len+else-index-timing w ↦ (
          let read = ap (λ (t : Timing). t.point) (w.index.ensures ∙ get_or_default ts h w.index.result.now no_timing l) in
          let from = at.from h (omega arith) l in
          let apart = w.if-index-timing.false in
          omega (arith, read, from, apart))
      | else-h-len-via-else-h-len w ↦ absurd (let past = w.if-h-len.false in omega (arith, past, l))
    ] in
    c.in_ok-insert.ensures.items ∙ sym (inserted ts c.args.timing.point h c.args.timing.latest c.requires at absent)

pub returns-in_ok-insert-clause-others : goal.returns-in_ok-insert-clause-others
returns-in_ok-insert-clause-others c =
    let ts = c.args.timings.now.items in
    let h = c.place_of-h.result in
    let at = rw c.deref.ensures.value at c.place_of-h.ensures in
    let absent : h < length ts → c.args.timing.point < (get_or ts h no_timing).point = λ l. elim c.else-h-len.branch [
      | else-h-len-via-then-h-len+else-index-timing w ↦ (
          let read = ap (λ (t : Timing). t.point) (w.index.ensures ∙ get_or_default ts h w.index.result.now no_timing l) in
          let from = at.from h (omega arith) l in
          let apart = w.if-index-timing.false in
          omega (arith, read, from, apart))
      | else-h-len-via-else-h-len w ↦ absurd (let past = w.if-h-len.false in omega (arith, past, l))
    ] in
    rw c.in_ok-insert.ensures.items (inserted_is ts c.args.timing.point h c.args.timing.latest c.requires at absent)
