-- What the places of the grid give: no step goes over the end of a section, and none is longer than the grid's step.
use Rattle.std.proofs.Common.{ℕ, ◌≡◌, ◌<◌, ◌≤◌, ◌+◌, ◌-◌, ◌*◌, ◌/◌, ◌%◌, ◌∙◌, ◌++◌, List, length, map, get_or, subst, ap, arith, inl, inr, Contains}
use Rattle.std.specs.Int.RustNames.{unsigned_abs}
use Rattle.std.proofs.lemmas.Int.{ints}
use Rattle.std.proofs.lemmas.Bool.{cases_lt}
use Rattle.std.proofs.lemmas.Nat.{div-add-mod', mod-mul-add, mod_below}
use Rattle.std.proofs.lemmas.List.{get_or_default, get_or-map, length-map}
use Rattle.std.proofs.lemmas.List.Elements.{Contains-append_left, Contains-append_right}
use Rattle.rail_specs.specs.Grid.{IsGrid, IsPlace}
use Rattle.line_file.specs.declared.sections.Section.{Section}
use Rattle.line_file.specs.declared.calls.Call.{Call}
use Rattle.line_file.specs.declared.line.Line.{Line}
use Rattle.line_file.specs.declared.service.Service.{Service}
use Rattle.line_file.specs.LineText.{first_from, last_to, no_section}
use Rattle.line_file.specs.ServiceText.{no_call}
use Rattle.line_file.specs.Shape.{section_at, call_at, IsLine, IsService}
use Rattle.joined_rules.specs.declared.setup.Setup.{Setup}
use Rattle.joined_rules.specs.Joined.{AreGridPlaces, ForNone, IsOutside, IsSetup, first_place, last_place, marks_of}
use Rattle.joined_rules.specs.JoinedParts.{AreCut, Follow}
use Rattle.joined_rules.proofs.JoinedRising.{places_order, places_not_above, calls_rise}

-- a place of the grid lies between its ends
pub place_low : (marks : List ℕ) (step from to p : ℕ) → from < to → IsPlace marks step from to p → from ≤ p
place_low marks step from to p span h = elim h [ inl e ↦ omega (arith, e) | inr o ↦ elim o [ inl e ↦ omega (arith, e, span) | inr b ↦ omega (arith, b.0) ] ]

pub place_high : (marks : List ℕ) (step from to p : ℕ) → from < to → IsPlace marks step from to p → p ≤ to
place_high marks step from to p span h = elim h [ inl e ↦ omega (arith, e, span) | inr o ↦ elim o [ inl e ↦ omega (arith, e) | inr b ↦ omega (arith, b.1) ] ]

-- each element is a place of the grid, and each place an element
pub place_at : (marks : List ℕ) (step from to : ℕ) (places : List ℕ) → IsGrid marks step from to places → (k : ℕ) → k < length places → IsPlace marks step from to (get_or places k 0)
place_at marks step from to places g k l = (g.members (get_or places k 0)).0 (k, l, get_or_default places k (get_or places k 0) 0 l)

pub index_of : (marks : List ℕ) (step from to : ℕ) (places : List ℕ) → IsGrid marks step from to places → (p : ℕ) → IsPlace marks step from to p → (k : ℕ) × (k < length places) × (get_or places k 0 ≡ p)
index_of marks step from to places g p h =
    let c : Contains places p = (g.members p).1 h in
    (c.0, c.1, get_or_default places c.0 0 p c.1 ∙ c.2)

-- the first place is the start, and the last the end
pub first_is : (marks : List ℕ) (step from to : ℕ) (places : List ℕ) → IsGrid marks step from to places → from < to → get_or places 0 0 ≡ from
first_is marks step from to places g span =
    let c : (k : ℕ) × (k < length places) × (get_or places k 0 ≡ from) = index_of marks step from to places g from (inl (λ i. from)) in
    let b : get_or places 0 0 ≤ get_or places c.0 0 = places_not_above places g.rises 0 c.0 (omega arith) c.1 in
    let some : 0 < length places = omega (arith, c.1) in
    omega (arith, b, c.2, place_low marks step from to (get_or places 0 0) span (place_at marks step from to places g 0 some))

pub last_is : (marks : List ℕ) (step from to : ℕ) (places : List ℕ) → IsGrid marks step from to places → from < to → get_or places (length places - 1) 0 ≡ to
last_is marks step from to places g span =
    let c : (k : ℕ) × (k < length places) × (get_or places k 0 ≡ to) = index_of marks step from to places g to (inr (inl (λ i. to))) in
    let last : length places - 1 < length places = omega (arith, c.1) in
    let b : get_or places c.0 0 ≤ get_or places (length places - 1) 0 = places_not_above places g.rises c.0 (length places - 1) (omega (arith, c.1)) last in
    omega (arith, b, c.2, place_high marks step from to (get_or places (length places - 1) 0) span (place_at marks step from to places g (length places - 1) last))

-- so there are two or more
pub two_places : (marks : List ℕ) (step from to : ℕ) (places : List ℕ) → IsGrid marks step from to places → from < to → 2 ≤ length places
two_places marks step from to places g span = elim (cases_lt 1 (length places)) [
  | inl b ↦ omega (arith, b)
  | inr few ↦ (let e : length places - 1 ≡ 0 = omega (arith, few) in
      let same : get_or places (length places - 1) 0 ≡ get_or places 0 0 = ap (λ (k : ℕ). get_or places k 0) e in
      absurd (omega (arith, span, same, first_is marks step from to places g span, last_is marks step from to places g span)))
]

-- no place of the grid lies between two neighbours
pub next_at : (marks : List ℕ) (step from to : ℕ) (places : List ℕ) → IsGrid marks step from to places → (i p : ℕ) → i + 1 < length places → IsPlace marks step from to p → get_or places i 0 < p → get_or places (i + 1) 0 ≤ p
next_at marks step from to places g i p l h above =
    let c : (k : ℕ) × (k < length places) × (get_or places k 0 ≡ p) = index_of marks step from to places g p h in
    let order : i < c.0 = places_order places g.rises i c.0 (omega (arith, l)) (omega (arith, above, c.2)) in
    omega (arith, c.2, places_not_above places g.rises (i + 1) c.0 (omega (arith, order)) c.1)

-- no step of the grid is longer than its step length: a multiple of that lies between any two places further apart
pub short_steps : (marks : List ℕ) (step from to : ℕ) (places : List ℕ) → IsGrid marks step from to places → from < to → 1 ≤ step → (i : ℕ) → i + 1 < length places → get_or places (i + 1) 0 ≤ get_or places i 0 + step
short_steps marks step from to places g span some i l =
    let s : ℕ = get_or places i 0 in
    let q : ℕ = s / step + 1 in
    let after : s < q * step = omega (arith, div-add-mod' s step, mod_below s step some) in
    let near : q * step ≤ s + step = omega (arith, div-add-mod' s step) in
    let multiple : q * step % step ≡ 0 = subst (λ (x : ℕ). x % step ≡ 0) (let z : q * step + 0 ≡ q * step = omega arith in z) (mod-mul-add q step 0 some) in
    let low : from ≤ s = place_low marks step from to s span (place_at marks step from to places g i (omega (arith, l))) in
    elim (cases_lt (q * step) to) [
      | inl b ↦ omega (arith, near, next_at marks step from to places g i (q * step) l (inr (inr (omega (arith, low, after), b, inr multiple))) after)
      | inr beyond ↦ omega (arith, near, beyond, place_high marks step from to (get_or places (i + 1) 0) span (place_at marks step from to places g (i + 1) l))
    ]

-- sections whose ends are marks are cut by the grid
pub cut : (marks : List ℕ) (step from to : ℕ) (places : List ℕ) (sections : List Section) → IsGrid marks step from to places → from < to →
    Follow sections → 0 < length sections → ((k : ℕ) → k < length sections → unsigned_abs (section_at sections k).value ≤ 12000) → first_from sections ≤ from → to ≤ last_to sections →
    ((k : ℕ) → k < length sections → Contains marks (section_at sections k).to) → AreCut sections places
cut marks step from to places sections g span follow some small begins ends marked = record {
  follow = follow;
  some = some;
  small = small;
  rising = g.rises;
  begun = omega (arith, begins, first_is marks step from to places g span);
  ended = λ i l. omega (arith, ends, g.rises i l, place_high marks step from to (get_or places (i + 1) 0) span (place_at marks step from to places g (i + 1) l));
  whole = λ k i there l above.
      let low : from ≤ get_or places i 0 = place_low marks step from to (get_or places i 0) span (place_at marks step from to places g i (omega (arith, l))) in
      elim (cases_lt (section_at sections k).to to) [
        | inl b ↦ next_at marks step from to places g i (section_at sections k).to l (inr (inr (omega (arith, low, above), b, inl (marked k there)))) above
        | inr beyond ↦ omega (arith, beyond, place_high marks step from to (get_or places (i + 1) 0) span (place_at marks step from to places g (i + 1) l))
      ];
}

-- what a list of values has of an element
mapped : {X : Type 0} (f : X → ℕ) (xs : List X) (k : ℕ) (d : X) → k < length xs → Contains (map f xs) (f (get_or xs k d))
mapped f xs k d l = (k, omega (arith, l, length-map xs f), get_or-map f xs k d (f (get_or xs k d)) l)

-- a call that isn't outside lies on the line
pub on_line : (line : Line) (calls : List Call) → ForNone (IsOutside line calls) (length calls) → (j : ℕ) → j < length calls → (first_from line.limits ≤ (call_at calls j).place) × ((call_at calls j).place ≤ last_to line.limits)
on_line line calls h j l = (
  elim (cases_lt (call_at calls j).place (first_from line.limits)) [ inl b ↦ absurd (h j l (inl b)) | inr g ↦ g ],
  elim (cases_lt (last_to line.limits) (call_at calls j).place) [ inl b ↦ absurd (h j l (inr b)) | inr g ↦ g ],
)

-- the call's places after the start are places of the grid
pub call_place : (line : Line) (service : Service) (setup : Setup) (j : ℕ) → IsService service → j < length service.calls → setup.place < (call_at service.calls j).place →
    IsPlace (marks_of line service) setup.step setup.place (last_place service.calls) (call_at service.calls j).place
call_place line service setup j s l after =
    let calls = service.calls in
    let marked : Contains (marks_of line service) (call_at calls j).place =
    Contains-append_left (map (λ c. c.place) calls ++ map (λ s. s.to) line.limits) (map (λ s. s.to) line.gradients) (call_at calls j).place
    (Contains-append_left (map (λ c. c.place) calls) (map (λ s. s.to) line.limits) (call_at calls j).place (mapped (λ (c : Call). c.place) calls j no_call l)) in
    elim (cases_lt j (length calls - 1)) [
      | inl b ↦ inr (inr (after, calls_rise calls s.calls.rising j (length calls - 1) b (omega (arith, l)), inl marked))
      | inr g ↦ (let e : j ≡ length calls - 1 = omega (arith, l, g) in inr (inl (ap (λ (k : ℕ). (call_at calls k).place) e)))
    ]

-- the sections of both kinds are cut by the grid
pub limits_cut : (line : Line) (service : Service) (setup : Setup) (places : List ℕ) → IsLine line → IsService service → IsSetup service setup →
    ForNone (IsOutside line service.calls) (length service.calls) → AreGridPlaces line service setup places → AreCut line.limits places
limits_cut line service setup places h s u on g =
    let first : first_from line.limits ≤ first_place service.calls = (on_line line service.calls on 0 (omega (arith, s.some))).0 in
    let last : last_place service.calls ≤ last_to line.limits = (on_line line service.calls on (length service.calls - 1) (omega (arith, s.some))).1 in
    cut (marks_of line service) setup.step setup.place (last_place service.calls) places line.limits g u.place.1 h.limits.follow h.some.0
    (λ k l. omega (arith, ints, (h.limits.each k l).value.0, (h.limits.each k l).value.1)) (omega (arith, first, u.place.0)) last
    (λ k l. Contains-append_left (map (λ c. c.place) service.calls ++ map (λ s. s.to) line.limits) (map (λ s. s.to) line.gradients) (section_at line.limits k).to
    (Contains-append_right (map (λ c. c.place) service.calls) (map (λ s. s.to) line.limits) (section_at line.limits k).to (mapped (λ (s : Section). s.to) line.limits k no_section l)))

pub gradients_cut : (line : Line) (service : Service) (setup : Setup) (places : List ℕ) → IsLine line → IsService service → IsSetup service setup →
    ForNone (IsOutside line service.calls) (length service.calls) → AreGridPlaces line service setup places → AreCut line.gradients places
gradients_cut line service setup places h s u on g =
    let first : first_from line.limits ≤ first_place service.calls = (on_line line service.calls on 0 (omega (arith, s.some))).0 in
    let last : last_place service.calls ≤ last_to line.limits = (on_line line service.calls on (length service.calls - 1) (omega (arith, s.some))).1 in
    cut (marks_of line service) setup.step setup.place (last_place service.calls) places line.gradients g u.place.1 h.gradients.follow h.some.1
    (λ k l. omega (arith, ints, (h.gradients.each k l).value.0, (h.gradients.each k l).value.1)) (omega (arith, first, u.place.0, h.starts)) (omega (arith, last, h.ends))
    (λ k l. Contains-append_right (map (λ c. c.place) service.calls ++ map (λ s. s.to) line.limits) (map (λ s. s.to) line.gradients) (section_at line.gradients k).to
    (mapped (λ (s : Section). s.to) line.gradients k no_section l))
