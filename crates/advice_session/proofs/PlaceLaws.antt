-- The first point behind a place, and the ends of a grid.
use Rattle.std.proofs.Common.{ℕ, zero, suc, ◌≡◌, ◌<◌, ◌≤◌, ◌+◌, ◌-◌, ◌∙◌, List, length, get_or, arith, sym, subst, refl, inl, inr, nat_lt, Contains}
use Rattle.std.specs.List.{position_or_len}
use Rattle.std.proofs.lemmas.Bool.{lt-ltb, le-ltb}
use Rattle.std.proofs.lemmas.List.{get_or_default}
use Rattle.std.proofs.lemmas.List.Sums.{position_or_len_is}
use Rattle.rail_specs.specs.Grid.{IsGrid}
use Rattle.rail_specs.specs.Rules.{Rules}
use Rattle.rule_changes.specs.Advance.{IsLastAt}
use Rattle.advice_session.specs.Faults.{point_behind}

-- the first of the places that lies behind
pub behind_at : (places : List ℕ) (place k : ℕ) → k ≤ length places → ((j : ℕ) → j < k → get_or places j 0 ≤ place) → (k < length places → place < get_or places k 0) →
    k ≡ position_or_len (λ p. nat_lt place p) places
behind_at places place k there before behind =
    sym (position_or_len_is (λ p. nat_lt place p) places k 0 there (λ j b. le-ltb place (get_or places j 0) (before j b)) (λ l. lt-ltb place (get_or places k 0) (behind l)))

same_is_most : (n : ℕ) → n ≤ n
same_is_most n = omega arith

-- places that rise don't fall from one to a later one
pub not_above : (places : List ℕ) → ((k : ℕ) → k + 1 < length places → get_or places k 0 < get_or places (k + 1) 0) → (i n : ℕ) → i + n < length places → get_or places i 0 ≤ get_or places (i + n) 0
not_above places rises i zero l =
    let here : i + zero ≡ i = omega arith in
    subst (λ (m : ℕ). get_or places i 0 ≤ get_or places m 0) (sym here) (same_is_most (get_or places i 0))
not_above places rises i (suc n) l =
    let next : i + suc n ≡ (i + n) + 1 = omega arith in
    subst (λ (m : ℕ). get_or places i 0 ≤ get_or places m 0) (sym next) (omega (arith, not_above places rises i n (omega (arith, l)), rises (i + n) (omega (arith, l))))

-- the first place is that of the start or below, and the last that of the end or above
pub first_below : (marks : List ℕ) (step from to : ℕ) (places : List ℕ) → IsGrid marks step from to places → get_or places 0 0 ≤ from
first_below marks step from to places g =
    let there : Contains places from = (g.members from).1 (inl refl) in
    let same : get_or places there.0 0 ≡ from = get_or_default places there.0 0 from there.1 ∙ there.2 in
    let m : 0 + there.0 ≡ there.0 = omega arith in
    omega (arith, same, subst (λ (k : ℕ). get_or places 0 0 ≤ get_or places k 0) m (not_above places g.rises 0 there.0 (omega (arith, m, there.1))))

pub last_above : (marks : List ℕ) (step from to n : ℕ) (places : List ℕ) → IsGrid marks step from to places → length places ≡ n + 1 → to ≤ get_or places n 0
last_above marks step from to n places g count =
    let there : Contains places to = (g.members to).1 (inr (inl refl)) in
    let same : get_or places there.0 0 ≡ to = get_or_default places there.0 0 to there.1 ∙ there.2 in
    let m : there.0 + (n - there.0) ≡ n = omega (arith, there.1, count) in
    omega (arith, same, subst (λ (k : ℕ). get_or places there.0 0 ≤ get_or places k 0) m (not_above places g.rises there.0 (n - there.0) (omega (arith, m, count))))

-- the first point behind a place is the one after the last at or before it
pub behind_last : (r : Rules) (place k : ℕ) → ((j : ℕ) → j + 1 < length r.places → get_or r.places j 0 < get_or r.places (j + 1) 0) → IsLastAt r.places place k → k + 1 ≡ point_behind r place
behind_last r place k rises last =
    behind_at r.places place (k + 1) (omega (arith, last.there))
    (λ j b. let m : j + (k - j) ≡ k = omega (arith, b) in
    omega (arith, last.at, subst (λ (i : ℕ). get_or r.places j 0 ≤ get_or r.places i 0) m (not_above r.places rises j (k - j) (omega (arith, m, last.there)))))
    (λ l. last.below)
