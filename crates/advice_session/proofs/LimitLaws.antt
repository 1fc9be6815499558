-- The rules of a session whose restrictions changed, and at its start.
use Rattle.std.proofs.Common.{ℕ, ◌≡◌, ◌<◌, ◌≤◌, ◌+◌, List, [], ◌∷◌, ◌++◌, length, get_or, arith, inl, inr, sym, subst, ap, length-append, refl, ◌∙◌}
use Rattle.std.specs.List.{remove}
use Rattle.std.proofs.lemmas.List.Edits.{get_or-remove_below, get_or-remove_above, length-remove}
use Rattle.std.proofs.lemmas.Bool.{cases_lt}
use Rattle.std.proofs.Math.ListN.{get_or-append}
use Rattle.std.proofs.Math.Seq.{get_or-append_seam}
use Rattle.rail_specs.specs.Rules.{Rules}
use Rattle.line_file.specs.declared.line.Line.{Line}
use Rattle.line_file.specs.declared.service.Service.{Service}
use Rattle.line_file.specs.Shape.{IsLine, IsService}
use Rattle.train_file.specs.declared.train.Train.{Train}
use Rattle.train_file.specs.Shape.{IsTrain}
use Rattle.joined_rules.specs.declared.setup.Stretch.{Stretch}
use Rattle.joined_rules.specs.declared.setup.Setup.{Setup}
use Rattle.joined_rules.specs.Joined.{IsLeastLimit, IsSetup, IsStretch, Joins, first_place, no_stretch, stretch_at}
use Rattle.advice_session.specs.Data.{IsSession, state_of, started}
use Rattle.rule_changes.specs.Limits.{AreStretches, HasLeastLimits, IsLimited}

-- one stretch more
pub stretches_pushed : (ss : List Stretch) (s : Stretch) → AreStretches ss → IsStretch s → AreStretches (ss ++ s ∷ [])
stretches_pushed ss s h here k l = elim (cases_lt k (length ss)) [
  | inl b ↦ subst IsStretch (sym (get_or-append ss (s ∷ []) no_stretch k b)) (h k b)
  | inr g ↦ (let same : length ss ≡ k = omega (arith, g, l, length-append ss (s ∷ [])) in
      subst (λ (n : ℕ). IsStretch (stretch_at (ss ++ s ∷ []) n)) same (subst IsStretch (sym (get_or-append_seam ss s [] no_stretch)) here))
]

-- one stretch less
pub stretches_removed : (ss : List Stretch) (i : ℕ) → i < length ss → AreStretches ss → AreStretches (remove ss i)
stretches_removed ss i there h k l =
    let fewer : length (remove ss i) + 1 ≡ length ss = length-remove ss i there in
    elim (cases_lt k i) [
      | inl b ↦ subst IsStretch (sym (get_or-remove_below ss i no_stretch k b there)) (h k (omega (arith, b, there)))
      | inr g ↦ subst IsStretch (sym (get_or-remove_above ss i no_stretch k g there)) (h (k + 1) (omega (arith, l, fewer)))
    ]

-- the rules with other limits are those of the data with other stretches, where the limits are theirs
relimited_rules : (line : Line) (train : Train) (service : Service) (step place speed clock : ℕ) (old new : List Stretch) (r : Rules) (limits : List ℕ) →
    Joins line train service (record { step = step; place = place; speed = speed; clock = clock; stretches = old }) r →
    HasLeastLimits line new (record r { limits = limits }) →
    Joins line train service (record { step = step; place = place; speed = speed; clock = clock; stretches = new }) (record r { limits = limits })
relimited_rules line train service step place speed clock old new r limits h least =
    let j = h.joined in
    record {
      joined = record {
        grid = j.grid;
        start_is = j.start_is;
        top_is = j.top_is;
        traction_is = j.traction_is;
        brake_is = j.brake_is;
        length_is = j.length_is;
        steps_are = j.steps_are;
        each_step = j.each_step;
        limits_are = least.count;
        each_limit = λ i l. subst (λ (n : ℕ). IsLeastLimit line.limits new n (get_or r.places i 0) (get_or r.places (i + 1) 0) (get_or limits i 0)) j.length_is (least.each i l);
        stops_are = j.stops_are;
        dwells_are = j.dwells_are;
        each_point = j.each_point;
        timings_are = j.timings_are;
      };
      accepted = record { on_line = h.accepted.on_line; grid = h.accepted.grid; apart = h.accepted.apart };
      light = h.light;
    }

-- a session whose restrictions changed, and the limits with them
pub relimited : (line : Line) (train : Train) (service : Service) (step place speed clock : ℕ) (names others : List (List ℕ)) (old new given : List Stretch) (r q : Rules) →
    IsSession (state_of line train service step place speed clock names old r) →
    AreStretches new → length others ≡ length new → length others ≤ 64 → given ≡ new → IsLimited line given r q →
    IsSession (state_of line train service step place speed clock others new q)
relimited line train service step place speed clock names others old new given r q h stretches counts few same set =
    let limited : IsLimited line new r q = subst (λ (ss : List Stretch). IsLimited line ss r q) same set in
    let least : HasLeastLimits line new (record r { limits = q.limits }) = subst (λ (x : Rules). HasLeastLimits line new x) limited.rest limited.limits in
    let joins = relimited_rules line train service step place speed clock old new r q.limits h.rules least in
    record {
      line = h.line;
      train = h.train;
      service = h.service;
      setup = record { step = h.setup.step; place = h.setup.place; speed = h.setup.speed; clock = h.setup.clock; stretches = stretches };
      names = counts;
      few = few;
      rules = subst (λ (x : Rules). Joins line train service (record { step = step; place = place; speed = speed; clock = clock; stretches = new }) x) (sym limited.rest) joins;
    }

-- a setup is what its parts are
pub setup_is : (u : Setup) (step place : ℕ) → u.step ≡ step → u.place ≡ place → u.speed ≡ 0 → u.clock ≡ 0 → u.stretches ≡ [] →
    u ≡ record { step = step; place = place; speed = 0; clock = 0; stretches = [] }
setup_is u step place a b c d e =
    ap (λ (x : ℕ). record { step = x; place = u.place; speed = u.speed; clock = u.clock; stretches = u.stretches }) a
    ∙ ap (λ (x : ℕ). record { step = step; place = x; speed = u.speed; clock = u.clock; stretches = u.stretches }) b
    ∙ ap (λ (x : ℕ). record { step = step; place = place; speed = x; clock = u.clock; stretches = u.stretches }) c
    ∙ ap (λ (x : ℕ). record { step = step; place = place; speed = 0; clock = x; stretches = u.stretches }) d
    ∙ ap (λ (x : List Stretch). record { step = step; place = place; speed = 0; clock = 0; stretches = x }) e

-- the session at its start
pub begins : (line own_line : Line) (train own_train : Train) (service own_service : Service) (u : Setup) (step : ℕ) (names : List (List ℕ)) (stretches : List Stretch) (r : Rules) →
    IsLine line → IsTrain train → IsService service → own_line ≡ line → own_train ≡ train → own_service ≡ service →
    IsSetup service u → u ≡ (started line train service step).setup → names ≡ [] → stretches ≡ [] → Joins line train service u r →
    IsSession (state_of own_line own_train own_service step (first_place service.calls) 0 0 names stretches r)
begins line own_line train own_train service own_service u step names stretches r hl ht hs el et es hu eu en ess joins =
    let v : Setup = (started line train service step).setup in
    let is : IsSetup service v = subst (λ (x : Setup). IsSetup service x) eu hu in
    let js : Joins line train service v r = subst (λ (x : Setup). Joins line train service x r) eu joins in
    let whole : IsSession (state_of line train service step (first_place service.calls) 0 0 [] [] r) =
    record { line = hl; train = ht; service = hs; setup = is; names = refl; few = omega arith; rules = js } in
    rw (el, et, es, en, ess) whole
