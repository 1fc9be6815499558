-- Prices of which at most one isn't 0.
use Rattle.std.proofs.Common.{ℕ, ◌≡◌, ◌≢◌, ◌<◌, ◌≤◌, ◌-◌, ◌^◌, ◌∙◌, List, [], ◌∷◌, Option, length, get_or, set, map, replicate, refl, sym, ap, subst, inl, inr, arith}
use Rattle.std.specs.Prelude.{ℤ, ◌⊎◌, IfSome, slice_index}
use Rattle.std.specs.Int.RustNames.{unsigned_abs}
use Rattle.std.proofs.lemmas.Bool.{cases_eq, cases_lt}
use Rattle.std.proofs.lemmas.List.{same_lists, length-set, get_or-set_same, get_or-set_other, set-set, get_or_default, get_or_past, length-map, length-replicate, get_or-replicate}
use Rattle.rail_specs.specs.declared.Timing.{Timing}
use Rattle.rail_specs.specs.Rules.{Rules}
use Rattle.bound_specs.specs.declared.Cell.{Cell}
use Rattle.bound_specs.specs.Chains.{IsAtMost, ArePotentials}
use Rattle.bound_specs.specs.Links.{low_cost}
use Rattle.bound_specs.specs.ChainValues.{IsChainValue, IsBestPrice, price_set}
use Rattle.bound_specs.specs.Prices.{Prices, ArePrices, AreFor}
use Rattle.chain_duality.proofs.Orders.{at_most-trans}
use Rattle.potential_table.specs.declared.price_search.Valued.{Valued}
use Rattle.price_rounds.specs.Rounds.{pricing, IsValued, IsAlone, IsNoLess, IsLastBest, BeatsPriceOf, no_prices}

-- what is found with one price replaced is valued
pub valued_by : (cost : ℤ → ℤ) (r : Rules) (cells : List (List Cell)) (j q : ℕ) (before : Prices) (found : Valued) → AreFor r before → found.prices ≡ price_set before j q
    → ArePotentials (low_cost (pricing cost r found.prices)) cells found.potentials → IsChainValue (pricing cost r found.prices) cells found.value
    → IfSome found.value (λ v. unsigned_abs v ≤ 2 ^ 99) → IsValued cost r cells found
valued_by cost r cells j q before found for_r put potentials value small =
    record { timings = subst (AreFor r) (sym put) for_r; potentials = potentials; value = value; small = small }

-- one of two that are valued is
pub one_valued : (cost : ℤ → ℤ) (r : Rules) (cells : List (List Cell)) (a b x : Valued) → IsValued cost r cells a → IsValued cost r cells b → (x ≡ a) ⊎ (x ≡ b) → IsValued cost r cells x
one_valued cost r cells a b x ha hb one = elim one [
  | inl e ↦ subst (IsValued cost r cells) (sym e) ha
  | inr e ↦ subst (IsValued cost r cells) (sym e) hb
]

-- a price in the place of one that was put there
pub put_again : (p : Prices) (j q t : ℕ) → price_set (price_set p j q) j t ≡ price_set p j t
put_again p j q t = ap (λ (vs : List ℕ). make p.points vs) (set-set p.values j q t)
  where
    make : List ℕ → List ℕ → Prices
    make points values = record { points = points; values = values }

-- the best price of a timing point alone beats each other price of it alone
pub best_beats : (cost : ℤ → ℤ) (r : Rules) (cells : List (List Cell)) (j q : ℕ) (found : Prices) (v : Option ℤ) → found ≡ price_set (no_prices r) j q
    → IsBestPrice (pricing cost r found) cells j → IsChainValue (pricing cost r found) cells v → BeatsPriceOf cost r cells j v
best_beats cost r cells j q found v is best here t w low there =
    let put : price_set found j t ≡ price_set (no_prices r) j t = ap (λ (p : Prices). price_set p j t) is ∙ put_again (no_prices r) j q t in
    best.greatest t v w low here (subst (λ (p : Prices). IsChainValue (pricing cost r p) cells w) (sym put) there)

-- what beats a price beats it where it is greater
pub beats_on : (cost : ℤ → ℤ) (r : Rules) (cells : List (List Cell)) (j : ℕ) (v w : Option ℤ) → BeatsPriceOf cost r cells j v → IsAtMost v w → BeatsPriceOf cost r cells j w
beats_on cost r cells j v w h le q u low there = at_most-trans u v w (h q u low there) le

-- lists of one number each are alike once it is set
same_set : (xs ys : List ℕ) (q : ℕ) → length xs ≡ 1 → length ys ≡ 1 → set xs 0 q ≡ set ys 0 q
same_set [] ys q h g = absurd (omega (arith, h))
same_set (x ∷ []) [] q h g = absurd (omega (arith, g))
same_set (x ∷ []) (y ∷ []) q h g = refl
same_set (x ∷ []) (y ∷ z ∷ ys) q h g = absurd (omega (arith, g))
same_set (x ∷ w ∷ xs) ys q h g = absurd (omega (arith, h))

-- a record of prices by its lists
abbrev pub made : List ℕ → List ℕ → Prices
made points values = record { points = points; values = values }

module _ (r : Rules) (p : Prices) (s : ArePrices p) (for_r : AreFor r p) where
  -- as many values as timing points
  count : length p.values ≡ length r.timings
  count = s.equal ∙ ap length for_r ∙ length-map r.timings (λ (t : Timing). t.point)

  -- price 0 for each timing point
  abbrev zeros : List ℕ
  zeros = replicate (length r.timings) 0

  long : length zeros ≡ length r.timings
  long = length-replicate (length r.timings) 0

  -- where all prices but that of j are 0, they are those where j alone is priced
  alone_at : (j : ℕ) → ((i : ℕ) → i ≢ j → slice_index p.values i ≡ 0) → j < length r.timings
      → p.values ≡ set (replicate (length r.timings) 0) j (slice_index p.values j)
  alone_at j zero lt = same_lists p.values (set (replicate (length r.timings) 0) j (slice_index p.values j))
      (count ∙ sym long ∙ sym (length-set zeros j (slice_index p.values j)))
      (λ k d below. at k d below)
    where
      at : (k d : ℕ) → k < length p.values → get_or p.values k d ≡ get_or (set (replicate (length r.timings) 0) j (slice_index p.values j)) k d
      at k d below =
          let in_it : k < length r.timings = omega (arith, below, count) in
          elim (cases_eq k j) [
            | inl same ↦ get_or_default p.values k d 0 below ∙ ap (slice_index p.values) same
                ∙ sym (ap (λ (i : ℕ). get_or (set zeros j (slice_index p.values j)) i d) same ∙ get_or-set_same zeros j (slice_index p.values j) d (omega (arith, lt, long)))
            | inr apart ↦ get_or_default p.values k d 0 below ∙ zero k apart
                ∙ sym (get_or-set_other zeros j k (slice_index p.values j) d apart ∙ get_or-replicate (length r.timings) k 0 d in_it)
          ]

  -- so what beats each price alone beats them
  beats_one : (cost : ℤ → ℤ) (cells : List (List Cell)) (v : Option ℤ) (j : ℕ) → ((i : ℕ) → i ≢ j → slice_index p.values i ≡ 0) → j < length r.timings
      → BeatsPriceOf cost r cells j v → IsNoLess cost r cells p v
  beats_one cost cells v j zero lt beats w there =
      let same : p ≡ price_set (no_prices r) j (slice_index p.values j) =
      ap (λ (ps : List ℕ). made ps p.values) for_r ∙ ap (made (map (λ (t : Timing). t.point) r.timings)) (alone_at j zero lt) in
      beats (slice_index p.values j) w (s.low j) (subst (λ (x : Prices). IsChainValue (pricing cost r x) cells w) same there)

  -- past the last timing point there is no price
  none_past : (j : ℕ) → ((i : ℕ) → i ≢ j → slice_index p.values i ≡ 0) → length r.timings ≤ j → (i : ℕ) → slice_index p.values i ≡ 0
  none_past j zero le i = elim (cases_eq i j) [
    | inl same ↦ get_or_past p.values i 0 (omega (arith, le, count, same))
    | inr apart ↦ zero i apart
  ]

  -- whichever of them is priced
  pub beats_alone : (cost : ℤ → ℤ) (cells : List (List Cell)) (v : Option ℤ) → IsAlone p → 1 ≤ length r.timings
      → ((j : ℕ) → j < length r.timings → BeatsPriceOf cost r cells j v) → IsNoLess cost r cells p v
  beats_alone cost cells v (j, zero) some each = elim (cases_lt j (length r.timings)) [
    | inl lt ↦ beats_one cost cells v j zero lt (each j lt)
    | inr le ↦ beats_one cost cells v 0 (λ i apart. none_past j zero le i) some (each 0 some)
  ]

  -- the price of one timing point is priced alone
  pub single_alone : length r.timings ≡ 1 → IsAlone p
  single_alone one = (0, λ i apart. get_or_past p.values i 0 (omega (arith, apart, count, one)))

  -- what beats each price of one timing point alone beats each price of the last one
  pub single_last : (cost : ℤ → ℤ) (cells : List (List Cell)) (v : Option ℤ) → length r.timings ≡ 1 → BeatsPriceOf cost r cells 0 v → IsLastBest cost r cells p v
  single_last cost cells v one beats q w low there =
      let first : length r.timings - 1 ≡ 0 = omega (arith, one) in
      let none : List ℕ = replicate (length r.timings) 0 in
      let long : length none ≡ 1 = length-replicate (length r.timings) 0 ∙ one in
      let same : price_set p (length r.timings - 1) q ≡ price_set (no_prices r) 0 q =
      ap (λ k. price_set p k q) first ∙ ap (λ (ps : List ℕ). made ps (set p.values 0 q)) for_r
      ∙ ap (made (map (λ (t : Timing). t.point) r.timings)) (same_set p.values none q (count ∙ one) long) in
      beats q w low (subst (λ (x : Prices). IsChainValue (pricing cost r x) cells w) same there)
