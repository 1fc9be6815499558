use Rattle.std.proofs.Common.{◌≡◌, ◌<◌, ◌+◌, length, get_or, min, arith, inl, inr}
use Rattle.std.proofs.lemmas.Bool.{cases_lt}
use Rattle.joined_rules.specs.Joined.{MeetsStretch}
use Rattle.joined_rules.proofs.JoinedRising.{places_not_above}
use Rattle.joined_rules.proofs.sections.lower.Goals as goal

pub returns-else-places-i-clause-each : goal.returns-else-places-i-clause-each
returns-else-places-i-clause-each c = λ i l.
    let places = c.args.places.now in
    let stretch = c.args.stretch.now in
    let count = c.requires.count in
    let h = c.loop-i.invariant in
    let there : i + 1 < length places = omega (arith, l, count) in
    elim (cases_lt i c.step_beyond-i.result) [
      | inl b ↦ (let same : get_or c.loop-i.limits.items i 0 ≡ get_or c.args.limits.now.items i 0 = h.before i b in
          let behind = c.step_beyond-i.ensures.before i b in
          record { below = omega (arith, same); under = λ m. (let ahead = m.0 in omega (arith, ahead, behind)); reached = inl same })
      | inr g ↦ elim (cases_lt i c.loop-i.i) [
        | inl b ↦ (let is : get_or c.loop-i.limits.items i 0 ≡ min (get_or c.args.limits.now.items i 0) stretch.limit = h.lowered i g b in
            let meets : MeetsStretch c.args.metres stretch (get_or places i 0) (get_or places (i + 1) 0) = (c.step_beyond-i.ensures.from i g there, (let met = h.met i g b in omega (arith, met))) in
            record {
              below = omega (arith, is);
              under = λ m. omega (arith, is);
              reached = elim (cases_lt stretch.limit (get_or c.args.limits.now.items i 0)) [ inl low ↦ inr (meets, omega (arith, is, low)) | inr high ↦ inl (omega (arith, is, high)) ];
            })
        | inr past ↦ (let same : get_or c.loop-i.limits.items i 0 ≡ get_or c.args.limits.now.items i 0 = h.rest i past in
            let up = places_not_above places c.requires.rising c.loop-i.i i past (omega (arith, there)) in
            let left = c.if-places-i.false in
            record { below = omega (arith, same); under = λ m. (let tail = m.1 in omega (arith, tail, up, left)); reached = inl same })
      ]
    ]
