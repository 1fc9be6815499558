-- Joined rules are those of a service with one latest time set, once that is set in them.
use Rattle.std.proofs.Common.{ℕ, ℤ, ◌≡◌, ◌≢◌, ◌<◌, ◌+◌, ◌-◌, ◌∙◌, ◌++◌, ◌==◌, ◌||◌, List, Bool, Option, Some, None, length, get_or, set, map, subst, sym, ap, arith, inl, inr, refl, if◌then◌else◌}
use Rattle.std.specs.Prelude.{IfSome, is_some, Result, Ok, Err, OnOk}
use Rattle.std.proofs.Math.Seq.{map-set_same}
use Rattle.std.proofs.lemmas.Bool.{cases_lt, cases_eq}
use Rattle.std.proofs.lemmas.List.{get_or-set_same, get_or-set_other, get_or_past, length-set}
use Rattle.rail_specs.specs.declared.Timing.{Timing}
use Rattle.rail_specs.specs.Grid.{IsGrid}
use Rattle.rail_specs.specs.Rules.{Rules, is_stop, no_timing}
use Rattle.line_file.specs.declared.calls.Call.{Call}
use Rattle.line_file.specs.declared.service.Service.{Service}
use Rattle.line_file.specs.ServiceText.{no_call}
use Rattle.line_file.specs.Shape.{call_at}
use Rattle.joined_rules.specs.Joined.{AreTimings, HasStop, IsCallAt, IsLatest, IsPointOf, IsTimingOf, IsTooClose, dwell_of, is_stop_call, last_place, marks_of, milliseconds}
use Rattle.joined_rules.specs.JoinedParts.{CallsRise, Rising}
use Rattle.joined_rules.proofs.JoinedRising.{places_rise}
use Rattle.joined_rules.proofs.JoinedStops.{one_call}
use Rattle.rule_changes.specs.Latest.{IsLatestSet, StaysJoined, with_latest_call, with_latest_in}

module _ (calls : List Call) (j seconds : ℕ) (there : j < length calls) where
  -- ---- what stays of the calls

  abbrev timed : List Call
  timed = with_latest_call calls j seconds

  count : length timed ≡ length calls
  count = length-set calls j _

  -- the call itself
  pub here : call_at timed j ≡ record (call_at calls j) { latest = Some seconds }
  here = get_or-set_same calls j _ no_call there

  -- any other
  pub elsewhere : (k : ℕ) → k ≢ j → call_at timed k ≡ call_at calls k
  elsewhere k ne = get_or-set_other calls j k _ no_call ne

  pub place_same : (k : ℕ) → (call_at timed k).place ≡ (call_at calls k).place
  place_same k = elim (cases_eq k j) [
    | inl e ↦ subst (λ (n : ℕ). (call_at timed n).place ≡ (call_at calls n).place) (sym e) (ap (λ (c : Call). c.place) here)
    | inr ne ↦ ap (λ (c : Call). c.place) (elsewhere k ne)
  ]

  dwell_same : (k : ℕ) → (call_at timed k).dwell ≡ (call_at calls k).dwell
  dwell_same k = elim (cases_eq k j) [
    | inl e ↦ subst (λ (n : ℕ). (call_at timed n).dwell ≡ (call_at calls n).dwell) (sym e) (ap (λ (c : Call). c.dwell) here)
    | inr ne ↦ ap (λ (c : Call). c.dwell) (elsewhere k ne)
  ]

  stop_same : (k : ℕ) → is_stop_call timed k ≡ is_stop_call calls k
  stop_same k = ap (λ (n : ℕ). (k + 1 == n) || is_some (call_at timed k).dwell) count ∙ ap (λ (o : Option ℕ). (k + 1 == length calls) || is_some o) (dwell_same k)

  dwell_of_same : (k : ℕ) → dwell_of timed k ≡ dwell_of calls k
  dwell_of_same k = ap (λ (n : ℕ). if k + 1 == n then 0 else milliseconds (call_at timed k).dwell) count ∙ ap (λ (o : Option ℕ). if k + 1 == length calls then 0 else milliseconds o) (dwell_same k)

  pub rise_same : CallsRise calls → CallsRise timed
  rise_same h k l = (let a = place_same k in let b = place_same (k + 1) in let up = h k (omega (arith, l, count)) in omega (arith, a, b, up))

  pub places_same : map (λ c. c.place) timed ≡ map (λ c. c.place) calls
  places_same = map-set_same (λ (c : Call). c.place) calls j _ no_call refl

  pub last_same : last_place timed ≡ last_place calls
  last_same = ap (λ (n : ℕ). (call_at timed (n - 1)).place) count ∙ place_same (length calls - 1)

  pub point_same : (places : List ℕ) (k : ℕ) (stop : Bool) (dwell : ℕ) → IsPointOf calls places k stop dwell → IsPointOf timed places k stop dwell
  point_same places k stop dwell is =
      let call : IsCallAt timed places k is.at = record {
        call = λ l. (let c = is.call.call (omega (arith, l, count)) in (c.0, place_same is.at ∙ c.1));
        none = λ past after i l e. is.call.none (omega (arith, past, count)) after i (omega (arith, l, count)) (sym (place_same i) ∙ e);
        index = (let most = is.call.index in omega (arith, most, count));
      } in
      record { at = is.at; call = call; stop_is = is.stop_is ∙ sym (stop_same is.at); dwell_is = is.dwell_is ∙ sym (dwell_of_same is.at) }

  has_stop : (p : ℕ) → HasStop timed p → HasStop calls p
  has_stop p (i, l, e, stop) = (i, omega (arith, l, count), sym (place_same i) ∙ e, sym (stop_same i) ∙ stop)

  pub close_same : (speed : ℕ) (places : List ℕ) (i : ℕ) → IsTooClose timed speed places i → IsTooClose calls speed places i
  close_same speed places i (stop, k, l, at, other) = (sym (stop_same i) ∙ stop, k, l, at ∙ place_same i, elim other [ inl start ↦ inl start | inr (after, has) ↦ inr (after, has_stop (get_or places k 0) has) ])

  -- ---- the timing points

  module _ (start clock point : ℕ) (latest : ℤ) (places : List ℕ) (rise : CallsRise calls) (order : Rising places) (behind : start < (call_at calls j).place) (at : get_or places point 0 ≡ (call_at calls j).place) where
    -- a point at the call's place is the point
    is_point : (p : ℕ) → get_or places p 0 ≡ (call_at calls j).place → p ≡ point
    is_point p e =
        let low : p < length places = elim (cases_lt p (length places)) [ inl b ↦ b | inr past ↦ absurd (let z = get_or_past places p 0 past in omega (arith, z, e, behind)) ] in
        let high : point < length places = elim (cases_lt point (length places)) [ inl b ↦ b | inr past ↦ absurd (let z = get_or_past places point 0 past in omega (arith, z, at, behind)) ] in
        elim (cases_lt p point) [
          | inl b ↦ absurd (let up = places_rise places order p point b high in omega (arith, up, e, at))
          | inr g ↦ elim (cases_lt point p) [
            | inl b ↦ absurd (let up = places_rise places order point p b low in omega (arith, up, e, at))
            | inr o ↦ omega (arith, g, o)
          ]
        ]

    -- where another call has a latest time, its timing point stays
    stays : (old new : List Timing) (o : Option ℕ) (place : ℕ) → IsLatestSet old point latest new → place ≢ (call_at calls j).place →
        IfSome o (λ _. (h : ℕ) × (h < length old) × (get_or places (get_or old h no_timing).point 0 ≡ place)) →
        IfSome o (λ _. (h : ℕ) × (h < length new) × (get_or places (get_or new h no_timing).point 0 ≡ place))
    stays old new None place is ne h = h
    stays old new (Some s) place is ne (h, l, e) =
        let kept = is.kept h l (λ same. ne (sym e ∙ ap (λ (p : ℕ). get_or places p 0) same ∙ at)) in
        (kept.0, kept.1, ap (λ (t : Timing). get_or places t.point 0) kept.2 ∙ e)

    pub timings_set : (old new : List Timing) → IsLatest (Some seconds) clock latest → IsLatestSet old point latest new → AreTimings calls start clock places old → AreTimings timed start clock places new
    timings_set old new value is h = record {
      rise = is.rise;
      each = λ k l. elim (is.each k l) [
        | inl e ↦ subst (λ (t : Timing). IsTimingOf timed start clock places t) (sym e) (
          j,
          omega (arith, there, count),
          (let same = place_same j in omega (arith, same, behind)),
          at ∙ sym (place_same j),
          subst (λ (o : Option ℕ). IsLatest o clock latest) (sym (ap (λ (c : Call). c.latest) here)) value,
        )
        | inr (apart, g, m, e) ↦ (
            let (i, within, after, stands, is_latest) = h.each g m in
            let ne : i ≢ j = λ same. apart (ap (λ (t : Timing). t.point) e ∙ is_point (get_or old g no_timing).point (stands ∙ ap (λ (n : ℕ). (call_at calls n).place) same)) in
            let other = elsewhere i ne in
            subst (λ (t : Timing). IsTimingOf timed start clock places t) (sym e) (
              i,
              omega (arith, within, count),
              (let same = place_same i in omega (arith, same, after)),
              stands ∙ sym (place_same i),
              subst (λ (o : Option ℕ). IsLatest o clock (get_or old g no_timing).latest) (sym (ap (λ (c : Call). c.latest) other)) is_latest,
            ))
      ];
      every = λ i l after. elim (cases_eq i j) [
        | inl e ↦ subst (λ (n : ℕ). IfSome (call_at timed n).latest (λ _. (h : ℕ) × (h < length new) × (get_or places (get_or new h no_timing).point 0 ≡ (call_at timed n).place))) (sym e)
            (subst (λ (o : Option ℕ). IfSome o (λ _. (h : ℕ) × (h < length new) × (get_or places (get_or new h no_timing).point 0 ≡ (call_at timed j).place))) (sym (ap (λ (c : Call). c.latest) here))
            (is.set.0, is.set.1, ap (λ (t : Timing). get_or places t.point 0) is.set.2 ∙ at ∙ sym (place_same j)))
        | inr ne ↦ (
            let m : i < length calls = omega (arith, l, count) in
            let same = place_same i in
            let apart : (call_at calls i).place ≢ (call_at calls j).place = λ e. ne (one_call calls rise i j m there e) in
            subst (λ (c : Call). IfSome c.latest (λ _. (h : ℕ) × (h < length new) × (get_or places (get_or new h no_timing).point 0 ≡ c.place))) (sym (elsewhere i ne))
            (stays old new (call_at calls i).latest (call_at calls i).place is apart (h.every i m (omega (arith, same, after)))))
      ];
    }

-- the joined rules are those of the service with the latest time
pub stays_joined : (r : Rules) (point : ℕ) (latest : ℤ) (ts : List Timing) → IsLatestSet r.timings point latest ts → StaysJoined point latest r (record r { timings = ts })
stays_joined r point latest ts set line train service setup j seconds is value =
    let calls = service.calls in
    let later : Service = with_latest_in service j seconds in
    let there = is.call in
    let joined = is.joined.joined in
    let accepted = is.joined.accepted in
    let marks : marks_of line later ≡ marks_of line service = ap (λ (xs : List ℕ). (xs ++ map (λ s. s.to) line.limits) ++ map (λ s. s.to) line.gradients) (places_same calls j seconds there) in
    let last : last_place later.calls ≡ last_place calls = last_same calls j seconds there in
    let grid : IsGrid (marks_of line later) setup.step setup.place (last_place later.calls) r.places =
    subst (λ (xs : List ℕ). IsGrid xs setup.step setup.place (last_place later.calls) r.places) (sym marks) (subst (λ (p : ℕ). IsGrid (marks_of line service) setup.step setup.place p r.places) (sym last) joined.grid) in
    record {
      joined = record {
        grid = grid;
        start_is = joined.start_is;
        top_is = joined.top_is;
        traction_is = joined.traction_is;
        brake_is = joined.brake_is;
        length_is = joined.length_is;
        steps_are = joined.steps_are;
        each_step = joined.each_step;
        limits_are = joined.limits_are;
        each_limit = joined.each_limit;
        stops_are = joined.stops_are;
        dwells_are = joined.dwells_are;
        each_point = λ k l. point_same calls j seconds there r.places k (is_stop r k) (get_or r.dwells k 0) (joined.each_point k l);
        timings_are = timings_set calls j seconds there setup.place setup.clock point latest r.places is.service_is.calls.rising joined.grid.rises is.behind is.at r.timings ts value set joined.timings_are;
      };
      accepted = record {
        on_line = λ i l outside. (
            let same = place_same calls j seconds there i in
            let many = count calls j seconds there in
            accepted.on_line i (omega (arith, l, many)) (elim outside [ inl low ↦ inl (omega (arith, low, same)) | inr high ↦ inr (omega (arith, high, same)) ]));
        grid = record { span = (let span = accepted.grid.span in omega (arith, span, last)); grid = grid; few = accepted.grid.few };
        apart = λ i l close. (let many = count calls j seconds there in accepted.apart i (omega (arith, l, many)) (close_same calls j seconds there setup.speed r.places i close));
      };
      light = is.joined.light;
    }

pub stays_joined_by : {A E : Type 0} (result : Result A E) (r : Rules) (point : ℕ) (latest : ℤ) (ts : List Timing) → OnOk result (IsLatestSet r.timings point latest ts) → OnOk result (StaysJoined point latest r (record r { timings = ts }))
stays_joined_by (Ok x) r point latest ts set = stays_joined r point latest ts set
stays_joined_by (Err e) r point latest ts set = set
