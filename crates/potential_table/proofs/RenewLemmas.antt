-- Values that are found anew before a point: the least over lists of cells to that point's cells.
use Rattle.std.proofs.Common.{ℕ, zero, suc, ◌≡◌, ◌<◌, ◌≤◌, ◌+◌, ◌-◌, ◌∙◌, Option, Some, None, List, [], ◌∷◌, ◌++◌, length, get_or, take, drop, refl, ap, sym, subst, arith, inl, inr, pos}
use Rattle.std.specs.Prelude.{ℤ, IfSome, ◌+ℤ◌}
use Rattle.std.proofs.Common.{drop-cons}
use Rattle.std.proofs.Math.ListN.{drop_of_length-le}
use Rattle.std.proofs.lemmas.Int.{ints}
use Rattle.std.proofs.lemmas.List.{get_or_default, ext_get_or}
use Rattle.std.proofs.lemmas.List.Elements.{Contains-get_or}
use Rattle.bound_specs.specs.declared.Cell.{Cell}
use Rattle.bound_specs.specs.Cells.{cells_of, cell_at, no_cell}
use Rattle.bound_specs.specs.Chains.{plus, IsAtMost, cost_along, RunThrough, IsLeastChain, values_of, value_at, ArePotentials}
use Rattle.bound_specs.specs.Renewal.{IsLeastTo, SameFrom, SameSteps, ArePotentialsFrom}
use Rattle.chain_duality.proofs.Orders.{at_most-trans, at_most-refl, plus_rises, second_part}
use Rattle.chain_duality.proofs.Lists.{next_first}
use Rattle.potential_table.specs.Filling.{IsLeastOf, through, AreLinked}
use Rattle.potential_table.proofs.TableLemmas.{least_same, linked_same, least_all}

-- sums of three
plus-assoc : (p q r : Option ℤ) → plus (plus p q) r ≡ plus p (plus q r)
plus-assoc None q r = refl
plus-assoc (Some p) None r = refl
plus-assoc (Some p) (Some q) None = refl
plus-assoc (Some p) (Some q) (Some r) = let e : p +ℤ q +ℤ r ≡ p +ℤ (q +ℤ r) = omega (arith, ints) in ap Some e

plus-zero : (p r : Option ℤ) → plus (plus p (Some (pos 0))) r ≡ plus p r
plus-zero None r = refl
plus-zero (Some p) None = refl
plus-zero (Some p) (Some r) = let e : p +ℤ pos 0 +ℤ r ≡ p +ℤ r = omega (arith, ints) in ap Some e

module _ (low : ℕ → Cell → Cell → Option ℤ) (last : List Cell) (value : ℕ → Option ℤ) where
  -- what a list of cells to cell c of the last point costs, with that cell's value
  abbrev cost_to : ℕ → Cell → List Cell → ℕ → Option ℤ
  cost_to i a between c = plus (cost_along low i (a ∷ between ++ get_or last c no_cell ∷ [])) (value c)

  abbrev Reached : ℕ → List (List Cell) → Cell → Option ℤ → Type 0
  Reached i rest a v = IfSome v (λ p.
      (between : List Cell) × (c : ℕ) × RunThrough rest between × (c < length last) × (cost_to i a between c ≡ Some p))

  abbrev Below : ℕ → List (List Cell) → Cell → Option ℤ → Type 0
  Below i rest a v = (between : List Cell) (c : ℕ) → RunThrough rest between → c < length last → IsAtMost v (cost_to i a between c)

  -- with no point between
  reached_next : (i : ℕ) (a : Cell) (v : Option ℤ) → IfSome v (λ p. (c : ℕ) × (c < length last) × (through low i a last value c ≡ Some p)) → Reached i [] a v
  reached_next i a None h = tt
  reached_next i a (Some p) h = ([], h.0, tt, h.1, plus-zero (low i a (get_or last h.0 no_cell)) (value h.0) ∙ h.2)

  below_next : (i : ℕ) (a : Cell) (v : Option ℤ) → ((c : ℕ) → c < length last → IsAtMost v (through low i a last value c)) → Below i [] a v
  below_next i a v h [] c run l = subst (IsAtMost v) (sym (plus-zero (low i a (get_or last c no_cell)) (value c))) (h c l)
  below_next i a v h (b ∷ between) c run l = absurd run

  -- with one more point between
  reached_by : (i : ℕ) (a : Cell) (right : List Cell) (rest : List (List Cell)) (d : ℕ) (y : Option ℤ) (p : ℤ) → d < length right
      → Reached (i + 1) rest (get_or right d no_cell) y → plus (low i a (get_or right d no_cell)) y ≡ Some p → Reached i (right ∷ rest) a (Some p)
  reached_by i a right rest d None p lt h e =
      absurd (let s = second_part (low i a (get_or right d no_cell)) None p e in let t : None ≡ Some s.0 = s.1 in cc)
  reached_by i a right rest d (Some q) p lt h e =
      let b : Cell = get_or right d no_cell in (
        b ∷ h.0,
        h.1,
        (Contains-get_or right d no_cell lt, h.2),
        h.3,
        plus-assoc (low i a b) (cost_along low (i + 1) (b ∷ h.0 ++ get_or last h.1 no_cell ∷ [])) (value h.1) ∙ ap (plus (low i a b)) h.4 ∙ e,
      )

  reached_more : (i : ℕ) (a : Cell) (right : List Cell) (rest : List (List Cell)) (beyond : ℕ → Option ℤ) (v : Option ℤ)
      → ((d : ℕ) → d < length right → Reached (i + 1) rest (get_or right d no_cell) (beyond d))
      → IfSome v (λ p. (d : ℕ) × (d < length right) × (through low i a right beyond d ≡ Some p)) → Reached i (right ∷ rest) a v
  reached_more i a right rest beyond None h g = tt
  reached_more i a right rest beyond (Some p) h g = reached_by i a right rest g.0 (beyond g.0) p g.1 (h g.0 g.1) g.2

  below_more : (i : ℕ) (a : Cell) (right : List Cell) (rest : List (List Cell)) (beyond : ℕ → Option ℤ) (v : Option ℤ)
      → ((d : ℕ) → d < length right → Below (i + 1) rest (get_or right d no_cell) (beyond d))
      → ((d : ℕ) → d < length right → IsAtMost v (through low i a right beyond d)) → Below i (right ∷ rest) a v
  below_more i a right rest beyond v h g [] c run l = absurd run
  below_more i a right rest beyond v h g (b ∷ between) c run l =
      let d : ℕ = run.0.0 in
      let lt : d < length right = run.0.1 in
      let is : get_or right d no_cell ≡ b = get_or_default right d no_cell b lt ∙ run.0.2 in
      let step : Option ℤ = low i a (get_or right d no_cell) in
      let on : Option ℤ = cost_to (i + 1) (get_or right d no_cell) between c in
      let at : IsAtMost v (plus step on) = at_most-trans v (plus step (beyond d)) (plus step on) (g d lt) (plus_rises step step (beyond d) on (at_most-refl step) (h d lt between c run.1 l)) in
      subst (λ (x : Cell). IsAtMost v (plus (cost_along low i (a ∷ x ∷ between ++ get_or last c no_cell ∷ [])) (value c))) is
      (subst (IsAtMost v) (sym (plus-assoc step (cost_along low (i + 1) (get_or right d no_cell ∷ between ++ get_or last c no_cell ∷ [])) (value c))) at)

-- the points between two neighbours are none
none_between : (cells : List (List Cell)) (i k : ℕ) → i + 1 ≡ k → take (k - (i + 1)) (drop (i + 1) cells) ≡ []
none_between cells i k e = let z : k - (i + 1) ≡ 0 = omega (arith, e) in ap (λ (n : ℕ). take n (drop (i + 1) cells)) z

-- the next point stands first among those between
next_between : (cells : List (List Cell)) (i k far : ℕ) → i + suc (suc far) ≡ k → k + 1 ≤ length cells
    → cells_of cells (i + 1) ∷ take (k - (i + 1 + 1)) (drop (i + 1 + 1) cells) ≡ take (k - (i + 1)) (drop (i + 1) cells)
next_between cells i k far e inside =
    let first = next_first cells i (omega (arith, e, inside)) in
    let n : suc (k - (i + 1 + 1)) ≡ k - (i + 1) = omega (arith, e) in
    ap (λ (r : List (List Cell)). take (suc (k - (i + 1 + 1))) r) first ∙ ap (λ (m : ℕ). take m (drop (i + 1) cells)) n

-- where the values before point k are linked to those of point k, they are the least over lists of cells to point k
module _ (low : ℕ → Cell → Cell → Option ℤ) (k : ℕ) (cells : List (List Cell)) (values old : List (List (Option ℤ)))
    (inside : k + 1 ≤ length cells) (linked : AreLinked low k cells values)
    (same : (c : ℕ) → value_at values k c ≡ value_at old k c) where
  to_before : (far i c : ℕ) → i + suc far ≡ k → c < length (cells_of cells i) → IsLeastTo low k cells old i (cell_at cells i c) (value_at values i c)
  to_before zero i c at in_point =
      let e : i + 1 ≡ k = omega (arith, at) in
      let none = none_between cells i k e in
      let a : Cell = cell_at cells i c in
      let v : Option ℤ = value_at values i c in
      let linked_here : IsLeastOf (through low i a (cells_of cells k) (value_at values k)) (length (cells_of cells k)) v =
      subst (λ (m : ℕ). IsLeastOf (through low i a (cells_of cells m) (value_at values m)) (length (cells_of cells m)) v) e (linked i c (omega (arith, at)) in_point) in
      let here : IsLeastOf (through low i a (cells_of cells k) (value_at old k)) (length (cells_of cells k)) v =
      least_same (through low i a (cells_of cells k) (value_at values k)) (through low i a (cells_of cells k) (value_at old k)) (length (cells_of cells k)) v
      (λ d l. ap (plus (low i a (cell_at cells k d))) (same d)) linked_here in
      record {
        attained = subst (λ (r : List (List Cell)). Reached low (cells_of cells k) (value_at old k) i r a v) (sym none)
            (reached_next low (cells_of cells k) (value_at old k) i a v here.attained);
        below = subst (λ (r : List (List Cell)). Below low (cells_of cells k) (value_at old k) i r a v) (sym none)
            (below_next low (cells_of cells k) (value_at old k) i a v here.below);
      }
  to_before (suc far) i c at in_point =
      let e = next_between cells i k far at inside in
      let a : Cell = cell_at cells i c in
      let v : Option ℤ = value_at values i c in
      let right : List Cell = cells_of cells (i + 1) in
      let rest : List (List Cell) = take (k - (i + 1 + 1)) (drop (i + 1 + 1) cells) in
      let here = linked i c (omega (arith, at)) in_point in
      let on : (d : ℕ) → d < length right → IsLeastTo low k cells old (i + 1) (cell_at cells (i + 1) d) (value_at values (i + 1) d) =
      λ d l. to_before far (i + 1) d (omega (arith, at)) l in
      record {
        attained = subst (λ (r : List (List Cell)). Reached low (cells_of cells k) (value_at old k) i r a v) e
            (reached_more low (cells_of cells k) (value_at old k) i a right rest (value_at values (i + 1)) v (λ d l. (on d l).attained) here.attained);
        below = subst (λ (r : List (List Cell)). Below low (cells_of cells k) (value_at old k) i r a v) e
            (below_more low (cells_of cells k) (value_at old k) i a right rest (value_at values (i + 1)) v (λ d l. (on d l).below) here.below);
      }

  pub least_to : (i c : ℕ) → i < k → c < length (cells_of cells i) → IsLeastTo low k cells old i (cell_at cells i c) (value_at values i c)
  least_to i c before in_point = to_before (k - (i + 1)) i c (omega (arith, before)) in_point

-- lists that are the same from a point on end in the same lists
same_drop : (k : ℕ) (before now : List (List Cell)) → SameFrom k before now → (far j : ℕ) → j + far ≡ length now → k ≤ j → drop j before ≡ drop j now
same_drop k before now same zero j at le = drop_of_length-le before (omega (arith, at, same.0)) ∙ sym (drop_of_length-le now (omega (arith, at)))
same_drop k before now same (suc far) j at le =
    drop-cons before j [] (omega (arith, at, same.0))
    ∙ ap (λ (cs : List Cell). cs ∷ drop (suc j) before) (same.1 j le)
    ∙ ap (λ (r : List (List Cell)). cells_of now j ∷ r) (same_drop k before now same far (suc j) (omega (arith, at)) (omega (arith, le)))
    ∙ sym (drop-cons now j [] (omega (arith, at)))

-- so the least chains from there are the same
same_least : (low : ℕ → Cell → Cell → Option ℤ) (k : ℕ) (before now : List (List Cell)) → SameFrom k before now → (j c : ℕ) (v : Option ℤ)
    → k ≤ j → j < length now → IsLeastChain low j before (cell_at before j c) v → IsLeastChain low j now (cell_at now j c) v
same_least low k before now same j c v le l h =
    let rest : drop (j + 1) before ≡ drop (j + 1) now = same_drop k before now same (length now - (j + 1)) (j + 1) (omega (arith, l)) (omega (arith, le)) in
    let cell : cell_at before j c ≡ cell_at now j c = ap (λ (cs : List Cell). get_or cs c no_cell) (same.1 j le) in
    subst (λ (a : Cell). IsLeastChain low j now a v) cell record {
      attained = subst (λ (r : List (List Cell)). IfSome v (λ p. (chain : List Cell) × RunThrough r chain × (cost_along low j (cell_at before j c ∷ chain) ≡ Some p))) rest h.attained;
      below = subst (λ (r : List (List Cell)). (chain : List Cell) → RunThrough r chain → IsAtMost v (cost_along low j (cell_at before j c ∷ chain))) rest h.below;
    }

-- potentials from a point on, where the cells from there on were others' as well
pub potentials_from : (low : ℕ → Cell → Cell → Option ℤ) (k : ℕ) (before now : List (List Cell)) (values : List (List (Option ℤ)))
    → SameFrom k before now → ArePotentials low before values → ArePotentialsFrom low k now values
potentials_from low k before now values same h = record {
  points = h.points ∙ same.0;
  counts = λ j le l. h.counts j (omega (arith, l, same.0)) ∙ ap length (same.1 j le);
  least = λ j c le l in_point. same_least low k before now same j c (value_at values j c) le l
      (h.least j c (omega (arith, l, same.0)) (omega (arith, in_point, ap length (same.1 j le))));
}

-- two lists of values of as many cells, with equal values, are the same
pub kept_values : (new old : List (Option ℤ)) (n : ℕ) → length new ≡ n → length old ≡ n
    → ((c : ℕ) → c < n → get_or new c None ≡ get_or old c None) → new ≡ old
kept_values new old n long other same = ext_get_or None new old (long ∙ sym other) (λ c l. same c (omega (arith, l, long)))

-- where the values from point k on were potentials and are kept, and those before it are linked, all are potentials
pub renewed : (low whole : ℕ → Cell → Cell → Option ℤ) (k : ℕ) (cells : List (List Cell)) (values old : List (List (Option ℤ))) → k + 1 ≤ length cells
    → length values ≡ length cells → ((j : ℕ) → j < length cells → length (values_of values j) ≡ length (cells_of cells j))
    → AreLinked low k cells values → ((j : ℕ) → k ≤ j → j < length cells → values_of values j ≡ values_of old j)
    → SameSteps k low whole → ArePotentialsFrom whole k cells old → ArePotentials whole cells values
renewed low whole k cells values old inside points counts linked kept same from = record {
  points = points;
  counts = counts;
  least = least_all whole k cells values inside (linked_same low whole k cells values same linked)
      (λ j c le l in_point. subst (IsLeastChain whole j cells (cell_at cells j c))
      (ap (λ (vs : List (Option ℤ)). get_or vs c None) (sym (kept j le l))) (from.least j c le l in_point));
}
