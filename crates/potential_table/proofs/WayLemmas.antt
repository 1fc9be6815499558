-- The ways on from a point's cells, one by one, and the least over them.
use Rattle.std.proofs.Common.{ℕ, ◌≡◌, ◌<◌, ◌+◌, ◌∙◌, Option, Some, None, List, [], ◌∷◌, ◌++◌, length, get_or, ap, sym, subst, arith, inl, inr, length-append}
use Rattle.std.specs.Prelude.{ℤ, IfSome}
use Rattle.std.proofs.Math.ListN.{get_or-append}
use Rattle.std.proofs.Math.Seq.{get_or-append_seam}
use Rattle.std.proofs.lemmas.Bool.{cases_lt}
use Rattle.bound_specs.specs.declared.Cell.{Cell}
use Rattle.bound_specs.specs.Cells.{no_cell, IsCell}
use Rattle.bound_specs.specs.Chains.{plus, IsAtMost}
use Rattle.chain_duality.proofs.Orders.{if_some, below_if}
use Rattle.potential_table.specs.declared.ways.Way.{Way}
use Rattle.potential_table.specs.Filling.{through, IsLeastOf, IsSmallSum}
use Rattle.potential_table.specs.Ways.{no_way, way_at, ways_with, AreWays, AreUsable, by_way}

-- where way j begins, and what it costs
abbrev Begins : List Way → List Cell → (ℕ → Option ℤ) → ℕ → ℕ → Type 0
Begins ways cells value m j =
    (c : ℕ) × (c < m) × (get_or cells c no_cell ≡ (way_at ways j).cell) × (value c ≡ Some (way_at ways j).beyond)

-- a way that begins at cell c and costs p
abbrev Leads : List Way → List Cell → ℕ → ℤ → Type 0
Leads ways cells c p = (j : ℕ) × (j < length ways) × (way_at ways j ≡ record { cell = get_or cells c no_cell; beyond = p })

-- there are no ways from no cells
pub no_ways : (cells : List Cell) (value : ℕ → Option ℤ) → AreWays [] cells value 0
no_ways cells value = record { from = λ j l. absurd (omega arith); all = λ c l. absurd (omega arith) }

module _ (ways : List Way) (cells : List Cell) (value : ℕ → Option ℤ) (m : ℕ) (h : AreWays ways cells value m) where
  -- a cell without a value adds no way
  ways_kept : value m ≡ None → AreWays ways cells value (m + 1)
  ways_kept e = record {
    from = λ j l. let b = h.from j l in (b.0, omega (arith, b.1), b.2, b.3);
    all = λ c l. elim (cases_lt c m) [
      | inl before ↦ h.all c before
      | inr at ↦
          let is : m ≡ c = omega arith in
          subst (λ i. IfSome (value i) (Leads ways cells i)) is (subst (λ (v : Option ℤ). IfSome v (Leads ways cells m)) (sym e) tt)
    ];
  }

  -- a cell with a value adds one
  ways_pushed : (p : ℤ) → value m ≡ Some p → AreWays (ways ++ record { cell = get_or cells m no_cell; beyond = p } ∷ []) cells value (m + 1)
  ways_pushed p e =
      let way : Way = record { cell = get_or cells m no_cell; beyond = p } in
      let new : List Way = ways ++ way ∷ [] in
      let long : length new ≡ length ways + 1 = length-append ways (way ∷ []) in
      let old : (j : ℕ) → j < length ways → way_at new j ≡ way_at ways j = λ j l. get_or-append ways (way ∷ []) no_way j l in
      let last : way_at new (length ways) ≡ way = get_or-append_seam ways way [] no_way in
      record {
        from = λ j l. elim (cases_lt j (length ways)) [
          | inl before ↦
              let b = h.from j before in (
                b.0,
                omega (arith, b.1),
                b.2 ∙ ap (λ (w : Way). w.cell) (sym (old j before)),
                b.3 ∙ ap (λ (w : Way). Some w.beyond) (sym (old j before)),
              )
          | inr at ↦
              let is : length ways ≡ j = omega (arith, l, long) in
              subst (Begins new cells value (m + 1)) is (
                m,
                omega arith,
                ap (λ (w : Way). w.cell) (sym last),
                e ∙ ap (λ (w : Way). Some w.beyond) (sym last),
              )
        ];
        all = λ c l. elim (cases_lt c m) [
          | inl before ↦ if_some (value c) (Leads ways cells c) (Leads new cells c)
              (λ q g. (g.0, omega (arith, g.1, long), old g.0 g.1 ∙ g.2)) (h.all c before)
          | inr at ↦
              let is : m ≡ c = omega arith in
              subst (λ i. IfSome (value i) (Leads new cells i)) is
              (subst (λ (v : Option ℤ). IfSome v (Leads new cells m)) (sym e) (length ways, omega (arith, long), last))
        ];
      }

  -- one more cell
  pub ways_more : (p : Option ℤ) (new : List Way) → value m ≡ p → new ≡ ways_with ways (get_or cells m no_cell) p → AreWays new cells value (m + 1)
  ways_more None new e is = subst (λ (ws : List Way). AreWays ws cells value (m + 1)) (sym is) (ways_kept e)
  ways_more (Some p) new e is = subst (λ (ws : List Way). AreWays ws cells value (m + 1)) (sym is) (ways_pushed p e)

module _ (ways : List Way) (cells : List Cell) (value : ℕ → Option ℤ) (h : AreWays ways cells value (length cells)) where
  -- ways from intervals of speeds, whose values are small
  pub usable : ((c : ℕ) → c < length cells → IsCell (get_or cells c no_cell)) → ((c : ℕ) → IsSmallSum (value c)) → AreUsable ways
  usable known small j l =
      let b = h.from j l in (subst IsCell b.2 (known b.0 b.1), subst IsSmallSum b.3 (small b.0))

  -- the least over the ways is the least over all cells
  pub least_over_cells : (low : ℕ → Cell → Cell → Option ℤ) (i : ℕ) (a : Cell) (v : Option ℤ) → IsLeastOf (by_way low i a ways) (length ways) v
      → IsLeastOf (through low i a cells value) (length cells) v
  least_over_cells low i a v least = record {
    attained = if_some v (λ p. (j : ℕ) × (j < length ways) × (by_way low i a ways j ≡ Some p))
        (λ p. (c : ℕ) × (c < length cells) × (through low i a cells value c ≡ Some p))
        (λ p g.
        let b = h.from g.0 g.1 in (
          b.0,
          b.1,
          ap (λ (x : Cell). plus (low i a x) (value b.0)) b.2 ∙ ap (plus (low i a (way_at ways g.0).cell)) b.3 ∙ g.2,
        )) least.attained;
    below = λ c l. below_if v (low i a (get_or cells c no_cell)) (value c)
        (if_some (value c) (Leads ways cells c) (λ p. IsAtMost v (plus (low i a (get_or cells c no_cell)) (Some p)))
        (λ p g. subst (λ (w : Way). IsAtMost v (plus (low i a w.cell) (Some w.beyond))) g.2 (least.below g.0 g.1)) (h.all c l));
  }
