use Rattle.std.proofs.Common.{◌≡◌, ◌<◌, ◌-◌, ◌/◌, ◌%◌, ◌+◌, ◌∙◌, arith, refl, sym, ap, ◌∷◌, ◌++◌, [], map, length, rules}
use Rattle.std.specs.List.{range_with_len}
use Rattle.proposers.specs.Offers.{early}
use Rattle.proposers.proofs.Lists.{get-any, images-first, images-more}
use Rattle.proposers.proofs.early_braking.EarlyBrakingProposer.next.Goals as goal

pub returns-clause-taken : goal.returns-clause-taken
returns-clause-taken c =
    let s = c.args.self.now in
    let f = early s.given.items s.stops.items in
    let more : s.at < s.count = omega (arith, c.if-self.false) in
    let within : s.at / 16 < length s.stops.items = first_of (search rules, omega (arith, more), grind (arith, rules)) in
    let stop = get-any s.stops.items (s.at / 16) c.index.result.now within c.index.ensures in
    let here : c.in_ok-drive.drive ≡ f s.at = rw (c.as_slice.ensures.value, stop) at c.in_ok-drive.ensures in (
      images-first f s.at s.count more ∙ ap (λ d. d ∷ map f (range_with_len (s.at + 1) (s.count - (s.at + 1)))) (sym here),
      sym (images-more f (map f (range_with_len 0 s.at)) s.at c.in_ok-drive.drive refl here),
      refl,
    )
