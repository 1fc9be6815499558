-- Where the values of each point begin, when the list of starts is made and where it is read.
use Rattle.std.proofs.Common.{ℕ, ◌≡◌, ◌<◌, ◌≤◌, ◌+◌, ◌-◌, ◌∙◌, Option, None, List, [], ◌∷◌, ◌++◌, length, get_or, replicate, refl, ap, sym, subst, arith, inl, inr, length-append}
use Rattle.std.specs.Prelude.{ℤ}
use Rattle.std.proofs.Math.ListN.{get_or-append}
use Rattle.std.proofs.Math.Seq.{get_or-append_seam}
use Rattle.std.proofs.lemmas.Bool.{cases_lt}
use Rattle.std.proofs.lemmas.List.{get_or-append_right, get_or-replicate, length-replicate, get_or_past}
use Rattle.bound_specs.specs.declared.Cell.{Cell}
use Rattle.bound_specs.specs.Cells.{cells_of}
use Rattle.potential_table.specs.Filling.{AreStarts}
use Rattle.potential_table.proofs.LayoutLemmas.{never_falls}

-- the starts of the points up to point k, whose values begin at the end
pub record AreStartsTo (starts : List ℕ) (cells : List (List Cell)) (k end : ℕ) : Type 0 where
  pub points : length starts ≡ k + 1
  pub first : get_or starts 0 0 ≡ 0
  pub next : (j : ℕ) → j < k → get_or starts (j + 1) 0 ≡ get_or starts j 0 + length (cells_of cells j)
  pub last : get_or starts k 0 ≡ end

-- one more start
starts_more : (starts : List ℕ) (cells : List (List Cell)) (k end more : ℕ) → AreStartsTo starts cells k end
    → more ≡ end + length (cells_of cells k)
    → AreStartsTo (starts ++ more ∷ []) cells (k + 1) more
starts_more starts cells k end more h e =
    let long : length (starts ++ more ∷ []) ≡ k + 1 + 1 = omega (arith, length-append starts (more ∷ []), h.points) in
    let old : (j : ℕ) → j < k + 1 → get_or (starts ++ more ∷ []) j 0 ≡ get_or starts j 0 =
    λ j l. get_or-append starts (more ∷ []) 0 j (omega (arith, h.points)) in
    let new : get_or (starts ++ more ∷ []) (k + 1) 0 ≡ more = ap (λ j. get_or (starts ++ more ∷ []) j 0) (sym h.points)
    ∙ get_or-append_seam starts more [] 0 in
    record {
      points = long;
      first = old 0 (omega arith) ∙ h.first;
      next = λ j l. elim (cases_lt j k) [
        | inl before ↦ omega (arith, old j l, old (j + 1) (omega arith), h.next j before)
        | inr at ↦
            let is : k ≡ j = omega arith in
            let at_k : get_or (starts ++ more ∷ []) (k + 1) 0 ≡ get_or (starts ++ more ∷ []) k 0 + length (cells_of cells k) =
            omega (arith, new, e, old k (omega arith), h.last) in
            subst (λ i. get_or (starts ++ more ∷ []) (i + 1) 0 ≡ get_or (starts ++ more ∷ []) i 0 + length (cells_of cells i))
            is at_k
      ];
      last = new;
    }

-- the next start, after a value for each cell of a point
pub starts_pushed : (starts pushed : List ℕ) (cells : List (List Cell)) (k : ℕ) (values new : List (Option ℤ)) (n more : ℕ)
    (v : Option ℤ) → AreStartsTo starts cells k (length values)
    → n ≡ length (cells_of cells k) → new ≡ values ++ replicate n v → more ≡ length new → pushed ≡ starts ++ more ∷ []
    → AreStartsTo pushed cells (k + 1) (length new)
starts_pushed starts pushed cells k values new n more v h e is more_is pushed_is =
    let long : length new ≡ length values + length (cells_of cells k) =
    omega (arith, e, ap length is, length-append values (replicate n v), length-replicate n v) in
    subst (λ (ss : List ℕ). AreStartsTo ss cells (k + 1) (length new)) (sym pushed_is)
    (subst (AreStartsTo (starts ++ more ∷ []) cells (k + 1)) more_is
    (starts_more starts cells k (length values) more h (more_is ∙ long)))

-- the starts up to behind the last point are all starts
pub starts_all : (starts : List ℕ) (cells : List (List Cell)) (k end : ℕ) → length cells ≡ k → AreStartsTo starts cells k end
    → AreStarts starts cells
starts_all starts cells k end e h = record {
  points = omega (arith, e, h.points);
  first = h.first;
  next = λ j l. h.next j (omega (arith, e, l));
}

-- where one none stands, however often, none stands at any place
none_of : (n j : ℕ) → get_or (replicate {A = Option ℤ} n None) j None ≡ None
none_of n j = elim (cases_lt j n) [
  | inl l ↦ get_or-replicate n j None None l
  | inr past ↦ get_or_past (replicate n None) j None (omega (arith, past, length-replicate {A = Option ℤ} n None))
]

-- a value that isn't there, however often it is appended, leaves none there
pub none_more : (values : List (Option ℤ)) (n : ℕ) → ((j : ℕ) → get_or values j None ≡ None) → (j : ℕ)
    → get_or (values ++ replicate n None) j None ≡ None
none_more values n h j = elim (cases_lt j (length values)) [
  | inl before ↦ get_or-append values (replicate n None) None j before ∙ h j
  | inr past ↦ get_or-append_right values (replicate n None) (length values) j None refl past ∙ none_of n (j - length values)
]

module _ (starts : List ℕ) (cells : List (List Cell)) (h : AreStarts starts cells) where
  -- a point's values begin no earlier than those of the point before
  pub starts_rise : (k : ℕ) → k + 1 < length starts → get_or starts k 0 ≤ get_or starts (k + 1) 0
  starts_rise k l = omega (arith, h.next k (omega (arith, l, h.points)))

  -- the values of a later point begin no earlier
  pub later : (j k : ℕ) → j ≤ k → k ≤ length cells → get_or starts j 0 ≤ get_or starts k 0
  later j k le inside =
      let e : j + (k - j) ≡ k = omega arith in
      subst (λ i. get_or starts j 0 ≤ get_or starts i 0) e
      (never_falls starts starts_rise j (k - j) (omega (arith, h.points, inside, e)))

  -- the values of each point end inside the list
  pub room : (k : ℕ) → k < length cells → get_or starts k 0 + length (cells_of cells k) ≤ get_or starts (length cells) 0
  room k l = omega (arith, h.next k l, later (k + 1) (length cells) (omega (arith, l)) (omega arith))
