-- What the loops over a train's tables keep.
use Rattle.std.proofs.Common.{◌≡◌, ◌<◌, ◌≤◌, ◌+◌, ◌∷◌, ◌++◌, ◌∙◌, ℕ, ℤ, suc, List, [], length, drop, get_or, Option, Some, None, Result, Ok, Err, refl, sym, ap, append_assoc, add-one, drop-cons, arith, zero-add, All}
use Rattle.std.specs.List.{range_with_len}
use Rattle.std.proofs.lemmas.Bool.Decides.{nat_tests}
use Rattle.std.proofs.lemmas.Int.{ints}
use Rattle.std.proofs.lemmas.List.{append-nil, drop_all, get_or-map, get_or_default, same_lists}
use Rattle.std.proofs.lemmas.List.Elements.{All-cons, All-nil, All-same}
use Rattle.std.proofs.lemmas.List.FromFn.{get_or-range_with_len, length-map-range_with_len, length-range_with_len}
use Rattle.rail_specs.specs.Table.{force, top_speed, AreRows, IsTableOf}
use Rattle.force_table.specs.Fault.{table_fault}
use Rattle.force_table.specs.declared.fault.TableFault.{TableFault}
use Rattle.toml.specs.Data.{Data, as_array}
use Rattle.toml.specs.View.{items_view, view}
use Rattle.toml.specs.declared.value.Value.{Value}
use Rattle.toml.proofs.Views.{items_view-drop}
use Rattle.train_file.specs.TrainText.{after, forces_at, forces_of, of_kind, pair_of, pairs_of, present, row_of, rows_at, rows_of, table_refusal, two_of, whole_in, with_pair}
use Rattle.train_file.specs.declared.fault.Key.{Key}
use Rattle.train_file.specs.declared.fault.TrainFault.{TrainFault}

-- an array of another length has no pair
pub two_of-length : (vs : List Value) → (length vs ≡ 2 → ⊥) → None ≡ two_of (items_view vs)
two_of-length [] n = refl
two_of-length (a ∷ []) n = refl
two_of-length (a ∷ b ∷ []) n = absurd (n refl)
two_of-length (a ∷ b ∷ c ∷ vs) n = refl

-- pairs before others
abbrev pub before : List (ℤ × ℤ) → Option (List (ℤ × ℤ)) → Option (List (ℤ × ℤ))
before ps None = None
before ps (Some qs) = Some (ps ++ qs)

before-more : (ps : List (ℤ × ℤ)) (p : ℤ × ℤ) (rest : Option (List (ℤ × ℤ))) → before ps (with_pair (Some p) rest) ≡ before (ps ++ p ∷ []) rest
before-more ps p None = refl
before-more ps p (Some qs) = ap (λ (xs : List (ℤ × ℤ)). Some xs) (sym (append_assoc ps (p ∷ []) qs))

pub pairs_start : (vs : List Value) → pairs_of (items_view vs) ≡ before [] (pairs_of (items_view (drop 0 vs)))
pairs_start vs = start (pairs_of (items_view vs))
  where
    start : (o : Option (List (ℤ × ℤ))) → o ≡ before [] o
    start None = refl
    start (Some qs) = refl

pub pairs_more : (vs : List Value) (i : ℕ) (d : Value) (ps : List (ℤ × ℤ)) (p : ℤ × ℤ) (all : Option (List (ℤ × ℤ)))
    → i < length vs → all ≡ before ps (pairs_of (items_view (drop i vs))) → Some p ≡ pair_of (view (get_or vs i d))
    → all ≡ before (ps ++ p ∷ []) (pairs_of (items_view (drop (i + 1) vs)))
unfolding pairs_of
pairs_more vs i d ps p all h e is =
    e ∙ rw (items_view-drop vs i d h) (rw (← is) (before-more ps p (pairs_of (items_view (drop (i + 1) vs)))))

pub pairs_wrong : (vs : List Value) (i : ℕ) (d : Value) (ps : List (ℤ × ℤ)) (all : Option (List (ℤ × ℤ)))
    → i < length vs → all ≡ before ps (pairs_of (items_view (drop i vs))) → None ≡ pair_of (view (get_or vs i d)) → all ≡ None
unfolding pairs_of
pairs_wrong vs i d ps all h e is = e ∙ rw (items_view-drop vs i d h) (rw (← is) refl)

pub pairs_end : (vs : List Value) (i : ℕ) (ps : List (ℤ × ℤ)) (all : Option (List (ℤ × ℤ)))
    → length vs ≤ i → all ≡ before ps (pairs_of (items_view (drop i vs))) → all ≡ Some ps
unfolding pairs_of
pairs_end vs i ps all h e = e ∙ rw (drop_all i vs h) (ap (λ (xs : List (ℤ × ℤ)). Some xs) (append-nil ps))

-- rows before others
abbrev pub rows_before : List (ℕ × ℕ) → Result (List (ℕ × ℕ)) TrainFault → Result (List (ℕ × ℕ)) TrainFault
rows_before rows rest = after rest (λ more. Ok (rows ++ more))

rows_before-more : (rows : List (ℕ × ℕ)) (row : ℕ × ℕ) (rest : Result (List (ℕ × ℕ)) TrainFault)
    → rows_before rows (after rest (λ more. Ok (row ∷ more))) ≡ rows_before (rows ++ row ∷ []) rest
rows_before-more rows row (Err e) = refl
rows_before-more rows row (Ok more) = ap (λ (xs : List (ℕ × ℕ)). Ok xs) (sym (append_assoc rows (row ∷ []) more))

pub rows_start : (k : Key) (ps : List (ℤ × ℤ)) → rows_of k ps ≡ rows_before [] (rows_of k (drop 0 ps))
rows_start k ps = start (rows_of k ps)
  where
    start : (r : Result (List (ℕ × ℕ)) TrainFault) → r ≡ rows_before [] r
    start (Ok rows) = refl
    start (Err e) = refl

pub rows_more : (k : Key) (ps : List (ℤ × ℤ)) (i : ℕ) (d : ℤ × ℤ) (rows : List (ℕ × ℕ)) (row : ℕ × ℕ) (all : Result (List (ℕ × ℕ)) TrainFault)
    → i < length ps → all ≡ rows_before rows (rows_of k (drop i ps)) → Ok row ≡ row_of k (get_or ps i d)
    → all ≡ rows_before (rows ++ row ∷ []) (rows_of k (drop (i + 1) ps))
unfolding rows_of
rows_more k ps i d rows row all h e is =
    e ∙ rw (add-one, drop-cons ps i d) (rw (← is) (rows_before-more rows row (rows_of k (drop (suc i) ps))))

pub rows_wrong : (k : Key) (ps : List (ℤ × ℤ)) (i : ℕ) (d : ℤ × ℤ) (rows : List (ℕ × ℕ)) (why : TrainFault) (all : Result (List (ℕ × ℕ)) TrainFault)
    → i < length ps → all ≡ rows_before rows (rows_of k (drop i ps)) → Err why ≡ row_of k (get_or ps i d) → all ≡ Err why
unfolding rows_of
rows_wrong k ps i d rows why all h e is = e ∙ rw (drop-cons ps i d) (rw (← is) refl)

pub rows_end : (k : Key) (ps : List (ℤ × ℤ)) (i : ℕ) (rows : List (ℕ × ℕ)) (all : Result (List (ℕ × ℕ)) TrainFault)
    → length ps ≤ i → all ≡ rows_before rows (rows_of k (drop i ps)) → all ≡ Ok rows
unfolding rows_of
rows_end k ps i rows all h e = e ∙ rw (drop_all i ps h) (ap (λ (xs : List (ℕ × ℕ)). Ok xs) (append-nil rows))

pub after-ok : {X Y : Type 0} (r : Result X TrainFault) (next : X → Result Y TrainFault) (y : Y) → after r next ≡ Ok y → (x : X) × ((r ≡ Ok x) × (next x ≡ Ok y))
after-ok (Ok x) next y h = (x, (refl, h))
after-ok (Err e) next y h = absurd (cc h)

pub whole_in-ok : (k : Key) (low high : ℕ) (n : ℤ) (m : ℕ) → whole_in k low high n ≡ Ok m → (low ≤ m) × (m ≤ high)
whole_in-ok k low high n m h = grind (arith, nat_tests, ints)

row_of-ok : (k : Key) (p : ℤ × ℤ) (row : ℕ × ℕ) → row_of k p ≡ Ok row → (row.0 ≤ 12000) × (row.1 ≤ 2000000)
row_of-ok k p row h =
    let speed = after-ok (whole_in k 0 12000 p.0) _ row h in
    let force = after-ok (whole_in k 0 2000000 p.1) _ row speed.1.1 in
    let same : (speed.0, force.0) ≡ row = cc force.1.1 in
    (rw (← same) (whole_in-ok k 0 12000 p.0 speed.0 speed.1.0).1, rw (← same) (whole_in-ok k 0 2000000 p.1 force.0 force.1.0).1)

abbrev IsRow : ℕ × ℕ → Type 0
IsRow p = (p.0 ≤ 12000) × (p.1 ≤ 2000000)

-- rows that are read are in range
rows_of-ok : (k : Key) (ps : List (ℤ × ℤ)) (rows : List (ℕ × ℕ)) → rows_of k ps ≡ Ok rows → All IsRow rows
unfolding rows_of
rows_of-ok k [] rows h = All-same IsRow rows [] (cc h) (All-nil IsRow)
rows_of-ok k (p ∷ ps) rows h =
    let first = after-ok (row_of k p) _ rows h in
    let rest = after-ok (rows_of k ps) _ rows first.1.1 in
    All-same IsRow rows (first.0 ∷ rest.0) (cc rest.1.1) (All-cons IsRow first.0 rest.0 (row_of-ok k p first.0 first.1.0) (rows_of-ok k ps rest.0 rest.1.0))

pub rows_at-ok : (k : Key) (held : Option Data) (rows : List (ℕ × ℕ)) → rows_at k held ≡ Ok rows → AreRows rows
rows_at-ok k held rows h =
    let d = after-ok (present k held) _ rows h in
    let ds = after-ok (of_kind k (as_array d.0)) _ rows d.1.1 in
    let ps = after-ok (of_kind k (pairs_of ds.0)) (rows_of k) rows ds.1.1 in
    rows_of-ok k ps.0 rows ps.1.1

-- the forces of a table of rows
pub table-forces : (rows : List (ℕ × ℕ)) (forces : List ℕ) → IsTableOf rows forces → forces ≡ forces_of rows
table-forces rows forces t =
    let n : ℕ = top_speed rows + 1 in
    same_lists forces (forces_of rows) (t.top ∙ sym (length-map-range_with_len (force rows) 0 n))
    (λ k d h. get_or_default forces k d 0 h ∙ t.at k (omega (arith, t.top)) ∙ sym (get_or-forces rows k d (omega (arith, t.top))))
  where
    get_or-forces : (rows : List (ℕ × ℕ)) (k d : ℕ) → k < top_speed rows + 1 → get_or (forces_of rows) k d ≡ force rows k
    get_or-forces rows k d h =
        get_or-map (force rows) (range_with_len 0 (top_speed rows + 1)) k 0 d (omega (arith, length-range_with_len 0 (top_speed rows + 1)))
        ∙ ap (force rows) (get_or-range_with_len 0 (top_speed rows + 1) k 0 h ∙ zero-add k)

-- the forces that a key holds, where its rows are a table
pub forces-made : (k : Key) (held : Option Data) (rows : List (ℕ × ℕ)) (forces : List ℕ) → rows_at k held ≡ Ok rows → table_fault rows ≡ None → IsTableOf rows forces → Ok forces ≡ forces_at k held
forces-made k held rows forces h none t = rw (h, none, table-forces rows forces t) refl

-- the first fault of the rows that a key holds
pub forces-refused : (k : Key) (held : Option Data) (rows : List (ℕ × ℕ)) (fault : TableFault) → rows_at k held ≡ Ok rows → table_fault rows ≡ Some fault → Err (table_refusal k fault) ≡ forces_at k held
forces-refused k held rows fault h some = rw (h, some) refl
