use Rattle.std.proofs.Common.{ℕ, ◌≡◌, ◌<◌, ◌+◌, length, get_or, arith}
use Rattle.line_file.specs.Shape.{call_at}
use Rattle.joined_rules.specs.Joined.{IsCallAt}
use Rattle.joined_rules.proofs.JoinedLists.{pushed}
use Rattle.joined_rules.proofs.points.calls_of_points.Goals as goal

pub loop-k-preserved : goal.loop-k-preserved
loop-k-preserved c =
    let calls = c.args.calls.now in
    let places = c.args.places.now in
    let k = c.loop-k.k in
    let n : length c.loop-k.visits.items ≡ k = c.loop-k.invariant.count in
    let next : get_or places k 0 < get_or places (k + 1) 0 → (j : ℕ) → j < c.call_from-next.result → (call_at calls j).place < get_or places (k + 1) 0 = λ r j l. omega (arith, r, c.call_from-next.ensures.before j l) in
    record {
      count = omega (arith, n, c.in_ok-push-2.ensures.len);
      within = c.call_from-next.ensures.within;
      before = λ j l m. next (c.requires.rising k m) j l;
      each = pushed (λ i j. IsCallAt calls places i j) c.loop-k.visits.items c.push-in-loop-k.new.self.items c.call_at_place.result 0 c.in_ok-push-2.ensures.items c.loop-k.invariant.each
          (rw n record {
            call = λ l. (omega (arith, c.loop-k.auto.k), c.call_at_place.ensures.call l);
            none = λ l m. c.call_at_place.ensures.none l;
            index = c.call_at_place.ensures.within;
          });
    }
