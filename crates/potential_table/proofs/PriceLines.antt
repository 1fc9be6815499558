-- The chain value as a function of one timing point's price: a least of lines. So it rises up to some price and never again behind it.
use Rattle.std.proofs.Common.{ℕ, zero, suc, ◌≡◌, ◌≢◌, ◌<◌, ◌≤◌, ◌+◌, ◌-◌, ◌*◌, ◌^◌, ◌∙◌, Bool, true, false, Option, Some, None, List, [], ◌∷◌, length, drop, refl, ap, sym, subst, arith, inl, inr, pos}
use Rattle.std.specs.Prelude.{ℤ, negsuc, ◌⊎◌, ◌+ℤ◌, ◌-ℤ◌, ◌*ℤ◌, ◌≤ℤ◌, ◌<ℤ◌, IfSome, nat_lt, if◌then◌else◌, slice_index, slice_set, option_map}
use Rattle.std.proofs.Math.Nat.{add-mul}
use Rattle.std.proofs.lemmas.Int.{ints}
use Rattle.std.proofs.lemmas.Bool.{cases_lt}
use Rattle.std.proofs.lemmas.List.{get_or-set_same, get_or-set_other, set-set, set-get_or}
use Rattle.bound_specs.specs.declared.Cell.{Cell}
use Rattle.rail_specs.specs.Rules.{Rules, step_at}
use Rattle.rail_specs.specs.Step.{work, lower_time}
use Rattle.rail_specs.specs.Times.{sum_below, slack_of}
use Rattle.rail_specs.specs.Cost.{int_sum_below}
use Rattle.bound_specs.specs.Cells.{cells_of, cell_at}
use Rattle.bound_specs.specs.Chains.{plus, IsAtMost, cost_along, RunThrough, IsLeastChain}
use Rattle.bound_specs.specs.ChainValues.{IsChainValue, IsLess, IsBestPrice, price_set, with_price}
use Rattle.chain_duality.proofs.Orders.{at_most-refl}
use Rattle.potential_table.specs.Searching.{HasChain, IsSmallerBelow, IsNoGreaterFrom}
use Rattle.bound_specs.specs.Prices.{Prices, ArePrices, charge, step_price, priced_slack}
use Rattle.bound_specs.specs.Links.{Pricing, can_link, priced_time, low_cost}

-- ---- sums of which one term changes

pub sum_same : (f g : ℕ → ℕ) (n : ℕ) → ((h : ℕ) → h < n → f h ≡ g h) → sum_below f n ≡ sum_below g n
sum_same f g zero e = refl
sum_same f g (suc n) e = omega (arith, sum_same f g n (λ h l. e h (omega (arith, l))), e n (omega arith))

sum_one : (f g : ℕ → ℕ) (j n : ℕ) → j < n → ((h : ℕ) → h ≢ j → f h ≡ g h) → sum_below f n + g j ≡ sum_below g n + f j
sum_one f g j zero l e = absurd (omega (arith, l))
sum_one f g j (suc n) l e = elim (cases_lt j n) [
  | inl before ↦ omega (arith, sum_one f g j n before e, e n (λ is. omega (arith, is, before)))
  | inr ge ↦
      let is : n ≡ j = omega (arith, l, ge) in
      let same : sum_below f n ≡ sum_below g n = sum_same f g n (λ h lt. e h (λ at. omega (arith, at, is, lt))) in
      subst (λ (k : ℕ). sum_below f n + f n + g k ≡ sum_below g n + g n + f k) is (omega (arith, same))
]

int_sum_same : (f g : ℕ → ℤ) (n : ℕ) → ((h : ℕ) → h < n → f h ≡ g h) → int_sum_below f n ≡ int_sum_below g n
int_sum_same f g zero e = refl
int_sum_same f g (suc n) e = omega (arith, ints, int_sum_same f g n (λ h l. e h (omega (arith, l))), e n (omega arith))

int_sum_one : (f g : ℕ → ℤ) (j n : ℕ) → j < n → ((h : ℕ) → h ≢ j → f h ≡ g h) → int_sum_below f n +ℤ g j ≡ int_sum_below g n +ℤ f j
int_sum_one f g j zero l e = absurd (omega (arith, l))
int_sum_one f g j (suc n) l e = elim (cases_lt j n) [
  | inl before ↦ omega (arith, ints, int_sum_one f g j n before e, e n (λ is. omega (arith, is, before)))
  | inr ge ↦
      let is : n ≡ j = omega (arith, l, ge) in
      let same : int_sum_below f n ≡ int_sum_below g n = int_sum_same f g n (λ h lt. e h (λ at. omega (arith, at, is, lt))) in
      subst (λ (k : ℕ). int_sum_below f n +ℤ f n +ℤ g k ≡ int_sum_below g n +ℤ g n +ℤ f k) is (omega (arith, ints, same))
]

-- ---- what one more for a ms changes

-- how often timing point j charges its price for a ms of step i: once or not at all
abbrev count_of_charge : Prices → ℕ → ℕ → ℕ
count_of_charge p j i = if nat_lt i (slice_index p.points j) then 1 else 0

charge_other : (p : Prices) (j q h i : ℕ) → h ≢ j → charge (price_set p j (q + 1)) h i ≡ charge (price_set p j q) h i
charge_other p j q h i other =
    ap (λ (value : ℕ). if nat_lt i (slice_index p.points h) then value else 0) (get_or-set_other p.values j h (q + 1) 0 other ∙ sym (get_or-set_other p.values j h q 0 other))

charge_is : (p : Prices) (j q i : ℕ) → j < length p.values → charge (price_set p j q) j i ≡ (if nat_lt i (slice_index p.points j) then q else 0)
charge_is p j q i l = ap (λ (value : ℕ). if nat_lt i (slice_index p.points j) then value else 0) (get_or-set_same p.values j q 0 l)

one_more : (b : Bool) (q : ℕ) → (if b then q + 1 else 0) ≡ (if b then q else 0) + (if b then 1 else 0)
one_more true q = refl
one_more false q = refl

step_price_more : (p : Prices) (j q i : ℕ) → j < length p.values → j < length p.points
    → step_price (price_set p j (q + 1)) i ≡ step_price (price_set p j q) i + count_of_charge p j i
step_price_more p j q i l m =
    let moved = sum_one (λ h. charge (price_set p j (q + 1)) h i) (λ h. charge (price_set p j q) h i) j (length p.points) m (λ h other. charge_other p j q h i other) in
    omega (arith, moved, charge_is p j (q + 1) i l, charge_is p j q i l, one_more (nat_lt i (slice_index p.points j)) q)

pub times_more : (q : ℕ) (s : ℤ) → pos (q + 1) *ℤ s ≡ pos q *ℤ s +ℤ s
times_more q (pos s) = omega (arith, ints, add-mul q 1 s)
times_more q (negsuc s) = omega (arith, ints, add-mul q 1 (suc s))

slack_other : (p : Prices) (j q h : ℕ) (s : ℤ) → h ≢ j → pos (slice_index (slice_set p.values j (q + 1)) h) *ℤ s ≡ pos (slice_index (slice_set p.values j q) h) *ℤ s
slack_other p j q h s other = ap (λ (value : ℕ). pos value *ℤ s) (get_or-set_other p.values j h (q + 1) 0 other ∙ sym (get_or-set_other p.values j h q 0 other))

slack_is : (p : Prices) (j q : ℕ) (s : ℤ) → j < length p.values → pos (slice_index (slice_set p.values j q) j) *ℤ s ≡ pos q *ℤ s
slack_is p j q s l = ap (λ (value : ℕ). pos value *ℤ s) (get_or-set_same p.values j q 0 l)

priced_slack_more : (r : Rules) (p : Prices) (j q : ℕ) → j < length p.values → j < length p.points
    → priced_slack r (price_set p j (q + 1)) ≡ priced_slack r (price_set p j q) +ℤ slack_of r j
priced_slack_more r p j q l m =
    let f : ℕ → ℤ = λ h. pos (slice_index (slice_set p.values j (q + 1)) h) *ℤ slack_of r h in
    let g : ℕ → ℤ = λ h. pos (slice_index (slice_set p.values j q) h) *ℤ slack_of r h in
    let moved : int_sum_below f (length p.points) +ℤ g j ≡ int_sum_below g (length p.points) +ℤ f j =
    int_sum_one f g j (length p.points) m (λ h other. slack_other p j q h (slack_of r h) other) in
    omega (arith, ints, moved, slack_is p j (q + 1) (slack_of r j) l, slack_is p j q (slack_of r j) l, times_more q (slack_of r j))

-- ---- lines

-- numbers of a price that are none at each price, or change by the same from each price to the next
abbrev IsLine : (ℕ → Option ℤ) → Type 0
IsLine f = ((q : ℕ) → f q ≡ None) ⊎ ((g : ℕ → ℤ) × (t : ℤ) × ((q : ℕ) → f q ≡ Some (g q)) × ((q : ℕ) → g (q + 1) ≡ g q +ℤ t))

line_if : (x : Bool) (g : ℕ → ℤ) (t : ℤ) → ((q : ℕ) → g (q + 1) ≡ g q +ℤ t) → IsLine (λ q. if x then Some (g q) else None)
line_if true g t h = inr (g, t, λ q. refl, h)
line_if false g t h = inl (λ q. refl)

plus_none : (p : Option ℤ) → plus p None ≡ None
plus_none None = refl
plus_none (Some p) = refl

line_plus : (f g : ℕ → Option ℤ) → IsLine f → IsLine g → IsLine (λ q. plus (f q) (g q))
line_plus f g (inl none) k = inl (λ q. ap (λ (p : Option ℤ). plus p (g q)) (none q))
line_plus f g (inr a) (inl none) = inl (λ q. ap (plus (f q)) (none q) ∙ plus_none (f q))
line_plus f g (inr a) (inr b) = inr (
  λ q. a.0 q +ℤ b.0 q,
  a.1 +ℤ b.1,
  λ q. ap (λ (p : Option ℤ). plus p (g q)) (a.2 q) ∙ ap (plus (Some (a.0 q))) (b.2 q),
  λ q. omega (arith, ints, a.3 q, b.3 q),
)

time_more : (price more t : ℕ) (w : ℤ) → w +ℤ pos ((price + more) * t) ≡ (w +ℤ pos (price * t)) +ℤ pos (more * t)
time_more price more t w = omega (arith, ints, add-mul price more t)

module _ (p : Pricing) (j : ℕ) (l : j < length p.prices.values) (m : j < length p.prices.points) where
  line_link : (i : ℕ) (a b : Cell) → IsLine (λ q. low_cost (with_price p j q) i a b)
  line_link i a b =
      let t : ℕ = lower_time (step_at p.rules i).metres a.last b.last in
      let w : ℤ = p.cost (work (step_at p.rules i) a.last b.first) in
      line_if (can_link p.rules i a b) (λ q. w +ℤ pos (step_price (price_set p.prices j q) i * t)) (pos (count_of_charge p.prices j i * t))
      (λ q. ap (λ (price : ℕ). w +ℤ pos (price * t)) (step_price_more p.prices j q i l m) ∙ time_more (step_price (price_set p.prices j q) i) (count_of_charge p.prices j i) t w)

  line_along : (k : ℕ) (chain : List Cell) → IsLine (λ q. cost_along (low_cost (with_price p j q)) k chain)
  line_along k [] = inr (λ q. pos 0, pos 0, λ q. refl, λ q. refl)
  line_along k (a ∷ []) = inr (λ q. pos 0, pos 0, λ q. refl, λ q. refl)
  line_along k (a ∷ b ∷ rest) =
      line_plus (λ q. low_cost (with_price p j q) k a b) (λ q. cost_along (low_cost (with_price p j q)) (k + 1) (b ∷ rest)) (line_link k a b) (line_along (k + 1) (b ∷ rest))

-- ---- chain values

-- what is at most a number is at most a greater one
at_most_more : (w : Option ℤ) (x y : ℤ) → IsAtMost w (Some x) → x ≤ℤ y → IsAtMost w (Some y)
at_most_more None x y h g = absurd h
at_most_more (Some w) x y h g = omega (arith, ints, h, g)

-- what a chain costs at each price, less the priced slack
module _ (p : Pricing) (j : ℕ) (l : j < length p.prices.values) (m : j < length p.prices.points) (cells : List (List Cell)) where
  abbrev slack_at : ℕ → ℤ
  slack_at q = priced_slack p.rules (price_set p.prices j q)

  -- numbers on a line above all chain values: at each price the chain value is there and at most that
  pub record IsAbove (g : ℕ → ℤ) (t : ℤ) : Type 0 where
    pub next : (q : ℕ) → g (q + 1) ≡ g q +ℤ t
    pub above : (q : ℕ) (w : Option ℤ) → IsChainValue (with_price p j q) cells w → IsAtMost w (Some (g q))

  less_slack : (least : Option ℤ) (cost s : ℤ) → IsAtMost least (Some cost) → IsAtMost (option_map (λ x. x -ℤ s) least) (Some (cost -ℤ s))
  less_slack None cost s h = absurd h
  less_slack (Some x) cost s h = omega (arith, ints, h)

  line_above : (chain : List Cell) → RunThrough (drop 1 cells) chain → (q : ℕ) (f : ℤ)
      → cost_along (low_cost (with_price p j q)) 0 (cell_at cells 0 0 ∷ chain) ≡ Some f
      → IsLine (λ x. cost_along (low_cost (with_price p j x)) 0 (cell_at cells 0 0 ∷ chain))
      → (g : ℕ → ℤ) × (t : ℤ) × IsAbove g t × (g q ≡ f -ℤ slack_at q)
  line_above chain run q f e (inl none) = absurd (let n : None ≡ Some f = sym (none q) ∙ e in cc)
  line_above chain run q f e (inr line) =
      let at : Some (line.0 q) ≡ Some f = sym (line.2 q) ∙ e in
      let is : line.0 q ≡ f = cc in (
        λ x. line.0 x -ℤ slack_at x,
        line.1 -ℤ slack_of p.rules j,
        record {
          next = λ x. omega (arith, ints, line.3 x, priced_slack_more p.rules p.prices j x l m);
          above = λ x w value.
              subst (λ (v : Option ℤ). IsAtMost v (Some (line.0 x -ℤ slack_at x))) (sym value.2)
              (less_slack value.0 (line.0 x) (slack_at x) (subst (IsAtMost value.0) (line.2 x) (value.1.below chain run)));
        },
        omega (arith, ints, is),
      )

  -- where there is a chain value, a line goes through it that lies above all
  through_value : (q : ℕ) (u : ℤ) (least : Option ℤ) → IsLeastChain (low_cost (with_price p j q)) 0 cells (cell_at cells 0 0) least
      → Some u ≡ option_map (λ x. x -ℤ slack_at q) least → (g : ℕ → ℤ) × (t : ℤ) × IsAbove g t × (g q ≡ u)
  through_value q u None h e = absurd cc
  through_value q u (Some f) h e =
      let is : u ≡ f -ℤ slack_at q = cc in
      let on = line_above h.attained.0 h.attained.1 q f h.attained.2 (line_along p j l m 0 (cell_at cells 0 0 ∷ h.attained.0)) in
      (on.0, on.1, on.2, on.3 ∙ sym is)

  pub line_through : (q : ℕ) (u : ℤ) → IsChainValue (with_price p j q) cells (Some u) → (g : ℕ → ℤ) × (t : ℤ) × IsAbove g t × (g q ≡ u)
  line_through q u value = through_value q u value.0 value.1 value.2

  -- a line that doesn't rise
  falls_on : (g : ℕ → ℤ) (t : ℤ) → ((q : ℕ) → g (q + 1) ≡ g q +ℤ t) → t ≤ℤ pos 0 → (q far : ℕ) → g (q + far) ≤ℤ g q
  falls_on g t next h q zero = let e : g (q + 0) ≡ g q = ap g (let z : q + 0 ≡ q = omega arith in z) in omega (arith, ints, e)
  falls_on g t next h q (suc far) =
      let e : g (q + suc far) ≡ g (q + far + 1) = ap g (let z : q + suc far ≡ q + far + 1 = omega arith in z) in
      omega (arith, ints, e, next (q + far), falls_on g t next h q far, h)

  -- a line that doesn't fall
  rises_on : (g : ℕ → ℤ) (t : ℤ) → ((q : ℕ) → g (q + 1) ≡ g q +ℤ t) → pos 0 ≤ℤ t → (q far : ℕ) → g q ≤ℤ g (q + far)
  rises_on g t next h q zero = let e : g (q + 0) ≡ g q = ap g (let z : q + 0 ≡ q = omega arith in z) in omega (arith, ints, e)
  rises_on g t next h q (suc far) =
      let e : g (q + suc far) ≡ g (q + far + 1) = ap g (let z : q + suc far ≡ q + far + 1 = omega arith in z) in
      omega (arith, ints, e, next (q + far), rises_on g t next h q far, h)

  -- where the value doesn't rise from a price to the next, it is no greater at any later price
  pub falls_after : (q : ℕ) (u v : ℤ) → IsChainValue (with_price p j q) cells (Some u) → IsChainValue (with_price p j (q + 1)) cells (Some v)
      → v ≤ℤ u → (far : ℕ) (w : Option ℤ) → IsChainValue (with_price p j (q + far)) cells w → IsAtMost w (Some u)
  falls_after q u v is_u is_v h zero w is_w =
      let on = line_through q u is_u in
      let z : q + 0 ≡ q = omega arith in
      subst (λ (x : ℤ). IsAtMost w (Some x)) (ap on.0 z ∙ on.3) (on.2.above (q + 0) w is_w)
  falls_after q u v is_u is_v h (suc far) w is_w =
      let on = line_through (q + 1) v is_v in
      let here : u ≤ℤ on.0 q = on.2.above q (Some u) is_u in
      let flat : on.1 ≤ℤ pos 0 = omega (arith, ints, here, h, on.2.next q, on.3) in
      let z : q + suc far ≡ q + 1 + far = omega arith in
      let low : on.0 (q + suc far) ≤ℤ u = omega (arith, ints, ap on.0 z, falls_on on.0 on.1 on.2.next flat (q + 1) far, on.3, h) in
      at_most_more w (on.0 (q + suc far)) u (on.2.above (q + suc far) w is_w) low

  -- where the value rises from a price to the next, it is smaller at any earlier price
  pub rises_before : (q far : ℕ) (u v : ℤ) → IsChainValue (with_price p j (q + far)) cells (Some u) → IsChainValue (with_price p j (q + far + 1)) cells (Some v)
      → u <ℤ v → (w : Option ℤ) → IsChainValue (with_price p j q) cells w → IsAtMost w (Some u)
  rises_before q far u v is_u is_v h w is_w =
      let on = line_through (q + far) u is_u in
      let next : v ≤ℤ on.0 (q + far + 1) = on.2.above (q + far + 1) (Some v) is_v in
      let steep : pos 0 ≤ℤ on.1 = omega (arith, ints, next, h, on.2.next (q + far), on.3) in
      at_most_more w (on.0 q) u (on.2.above q w is_w) (omega (arith, ints, rises_on on.0 on.1 on.2.next steep q far, on.3))

-- ---- the search

-- a value at most another, which is at most it, is the same
same_value : (v w : Option ℤ) → IsAtMost v w → IsAtMost w v → v ≡ w
same_value None None h g = refl
same_value None (Some w) h g = absurd h
same_value (Some v) None h g = absurd g
same_value (Some v) (Some w) h g = let e : v ≡ w = omega (arith, ints, h, g) in ap Some e

-- a number at most what each chain costs is at most what the least one does
least_under : (low : ℕ → Cell → Cell → Option ℤ) (cells : List (List Cell)) (a : Cell) (v w : Option ℤ)
    → IsLeastChain low 0 cells a v → IsLeastChain low 0 cells a w → IsAtMost v w
least_under low cells a v None h g = tt
least_under low cells a v (Some w) h g = subst (IsAtMost v) g.attained.2 (h.below g.attained.0 g.attained.1)

-- there is one chain value
pub value_unique : (p : Pricing) (cells : List (List Cell)) (v w : Option ℤ) → IsChainValue p cells v → IsChainValue p cells w → v ≡ w
value_unique p cells v w is_v is_w =
    let e : is_v.0 ≡ is_w.0 = same_value is_v.0 is_w.0 (least_under (low_cost p) cells (cell_at cells 0 0) is_v.0 is_w.0 is_v.1 is_w.1)
    (least_under (low_cost p) cells (cell_at cells 0 0) is_w.0 is_v.0 is_w.1 is_v.1) in
    is_v.2 ∙ ap (option_map (λ x. x -ℤ priced_slack p.rules p.prices)) e ∙ sym is_w.2

-- at most a number, which is less than another
less_than : (w : Option ℤ) (u v : ℤ) → IsAtMost w (Some u) → u <ℤ v → IsLess w (Some v)
less_than None u v h g = absurd h
less_than (Some w) u v h g = omega (arith, ints, h, g)

-- a number less than another is at most it, if it is there where the other is
less_at_most : (w v : Option ℤ) → ((x : ℤ) → v ≡ Some x → w ≡ None → ⊥) → IsLess w v → IsAtMost w v
less_at_most w None there h = tt
less_at_most None (Some v) there h = absurd (there v refl refl)
less_at_most (Some w) (Some v) there h = omega (arith, ints, h)

-- the pricing with these prices of the timing points
abbrev with_values : Pricing → List ℕ → Pricing
with_values p values = record { cost = p.cost; rules = p.rules; prices = record { points = p.prices.points; values = values } }

-- a price that is set twice
set_again : (p : Pricing) (j q x : ℕ) → with_price (with_price p j q) j x ≡ with_price p j x
set_again p j q x = ap (λ (values : List ℕ). with_values p values) (set-set p.prices.values j q x)

module _ (p : Pricing) (j : ℕ) (l : j < length p.prices.values) (m : j < length p.prices.points) (cells : List (List Cell)) where
  -- where the value rises at a price, it is smaller below the next
  pub smaller_below : (q : ℕ) (u v : ℤ) → IsChainValue (with_price p j q) cells (Some u) → IsChainValue (with_price p j (q + 1)) cells (Some v) → u <ℤ v
      → IsSmallerBelow p cells j (q + 1)
  smaller_below q u v is_u is_v h x y w before is_y is_w =
      let e : x + (q - x) ≡ q = omega (arith, before) in
      let low = rises_before p j l m cells x (q - x) u v (subst (λ (k : ℕ). IsChainValue (with_price p j k) cells (Some u)) (sym e) is_u)
      (subst (λ (k : ℕ). IsChainValue (with_price p j (k + 1)) cells (Some v)) (sym e) is_v) h w is_w in
      subst (IsLess w) (value_unique (with_price p j (q + 1)) cells (Some v) y is_v is_y) (less_than w u v low h)

  -- where it doesn't rise at a price, it is no greater from there on
  pub no_greater_from : (q : ℕ) (u v : ℤ) → IsChainValue (with_price p j q) cells (Some u) → IsChainValue (with_price p j (q + 1)) cells (Some v) → v ≤ℤ u
      → IsNoGreaterFrom p cells j q
  no_greater_from q u v is_u is_v h x y w after few is_y is_w =
      let e : q + (x - q) ≡ x = omega (arith, after) in
      let low = falls_after p j l m cells q u v is_u is_v h (x - q) w (subst (λ (k : ℕ). IsChainValue (with_price p j k) cells w) (sym e) is_w) in
      subst (IsAtMost w) (value_unique (with_price p j q) cells (Some u) y is_u is_y) low

  -- the greatest price is no smaller than any
  pub none_above : IsNoGreaterFrom p cells j (2 ^ 50)
  none_above x y w after few is_y is_w =
      let e : x ≡ 2 ^ 50 = omega (arith, after, few) in
      let same = value_unique (with_price p j (2 ^ 50)) cells w y (subst (λ (k : ℕ). IsChainValue (with_price p j k) cells w) e is_w) is_y in
      subst (IsAtMost w) same (at_most-refl w)

  -- a chain at one price is one at each
  pub chain_at : (x q : ℕ) (w : Option ℤ) → HasChain (with_price p j x) cells → IsChainValue (with_price p j q) cells w → (w ≡ None → ⊥)
  chain_at x q w has is_w none =
      let on = line_through p j l m cells x has.0 has.1 in
      subst (λ (v : Option ℤ). IsAtMost v (Some (on.0 q))) none (on.2.above q w is_w)

  -- the price between the two is the best one
  pub best_between : (q : ℕ) → q ≤ 2 ^ 50 → IsSmallerBelow p cells j q → IsNoGreaterFrom p cells j q → IsBestPrice (with_price p j q) cells j
  best_between q few below above =
      let again : (x : ℕ) → with_price (with_price p j q) j x ≡ with_price p j x = λ x. set_again p j q x in
      let at : slice_index (slice_set p.prices.values j q) j ≡ q = get_or-set_same p.prices.values j q 0 l in
      record {
        greatest = λ x v w most is_v is_w.
            let is : IsChainValue (with_price p j x) cells w = subst (λ (k : Pricing). IsChainValue k cells w) (again x) is_w in
            elim (cases_lt x q) [
              | inl before ↦ less_at_most w v
                  (λ y e none. chain_at q x w (y, subst (λ (k : Option ℤ). IsChainValue (with_price p j q) cells k) e is_v) is none) (below x v w before is_v is)
              | inr after ↦ above x v w after most is_v is
            ];
        least = λ x v w before is_v is_w.
            below x v w (omega (arith, before, at)) is_v (subst (λ (k : Pricing). IsChainValue k cells w) (again x) is_w);
      }

  -- prices as they are, said as one of them set to what it is
  set_itself : with_price p j (slice_index p.prices.values j) ≡ p
  set_itself = ap (λ (values : List ℕ). with_values p values) (set-get_or p.prices.values j 0)

  -- where there is no chain at some price, there is none at the prices as they are
  pub no_value : (q : ℕ) (w : Option ℤ) → IsChainValue (with_price p j q) cells w → w ≡ None → HasChain p cells → ⊥
  no_value q w is_w none has =
      chain_at (slice_index p.prices.values j) q w (subst (λ (k : Pricing). HasChain k cells) (sym set_itself) has) is_w none

  -- a value that is no smaller than each other is no smaller than that at the prices as they are
  pub no_less_than_itself : (q : ℕ) (v w : Option ℤ) → slice_index p.prices.values j ≤ 2 ^ 50 → IsBestPrice (with_price p j q) cells j
      → IsChainValue (with_price p j q) cells w → IsChainValue p cells v → IsAtMost v w
  no_less_than_itself q v w few best is_w is_v =
      best.greatest (slice_index p.prices.values j) w v few is_w
      (subst (λ (k : Pricing). IsChainValue k cells v) (sym (set_again p j q (slice_index p.prices.values j) ∙ set_itself)) is_v)

-- ---- prices

abbrev record_of : List ℕ → List ℕ → Prices
record_of points values = record { points = points; values = values }

-- prices of the same points with the same values
pub same_prices : (p r : Prices) → p.points ≡ r.points → p.values ≡ r.values → p ≡ r
same_prices p r points values =
    ap (λ (ps : List ℕ). record_of ps p.values) points ∙ ap (λ (vs : List ℕ). record_of r.points vs) values

-- prices with one of them set to what it is
pub set_to_itself : (p : Prices) (j : ℕ) → ArePrices p → (q : ℕ) × (q ≤ 2 ^ 50) × (p ≡ price_set p j q)
set_to_itself p j h = (slice_index p.values j, h.low j, ap (record_of p.points) (sym (set-get_or p.values j 0)))
