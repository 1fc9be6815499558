-- The rows of a file, one by one.
use Rattle.std.proofs.Common.{◌≡◌, ◌≢◌, ◌≤◌, ◌+◌, ◌++◌, ◌∷◌, ◌∙◌, ℕ, Bool, true, false, List, [], Option, Some, None, Result, Ok, Err, IfOk, cond, length, length-append, nat_eq, nat_lt, not, take, drop, refl, sym, ap, arith}
use Rattle.std.specs.Option.{option_or}
use Rattle.std.proofs.lemmas.Bool.Decides.{nat_tests}
use Rattle.std.proofs.lemmas.List.{append_assoc, append-nil, length-take-le}
use Rattle.line_file.specs.Rows.{Fields}
use Rattle.line_file.specs.RowFile.{below_header, counted_fault, rows_fault, rows_in, unless}
use Rattle.line_file.proofs.Taking.{take-none, take-one}

both_none : {F : Type 0} (a b : Option F) → option_or a b ≡ None → (a ≡ None) × (b ≡ None)
both_none None b e = (refl, e)
both_none (Some f) b e = cc e

-- a row without a fault is not one too many, and has no other fault
pub counted : {F : Type 0} (most n : ℕ) (r : Fields) (bad_row too_many : F) (other : Option F) → counted_fault most bad_row too_many n r other ≡ None → (n ≤ most) × (other ≡ None)
counted most n r bad_row too_many other e = by (nat_eq (length r) 4) refl e
  where
    by_number : (b : Bool) → nat_lt most n ≡ b → cond b (Some too_many) other ≡ None → (n ≤ most) × (other ≡ None)
    by_number true t h = cc h
    by_number false t h = (grind (arith, nat_tests), h)

    by : (b : Bool) → nat_eq (length r) 4 ≡ b → cond (not b) (Some bad_row) (cond (nat_lt most n) (Some too_many) other) ≡ None → (n ≤ most) × (other ≡ None)
    by true t h = by_number (nat_lt most n) refl h
    by false t h = cc h

-- a test that is passed, or else there is a fault
pub passes : {F : Type 0} (b : Bool) (f : F) → cond b None (Some f) ≡ None → b ≡ true
passes true f e = refl
passes false f e = cc e

-- what was read without a fault had none in its rows, and none as a whole
unless-Ok : {T F : Type 0} (rows whole : Option F) (made read : T) → unless (option_or rows whole) made ≡ Ok read → (rows ≡ None) × (whole ≡ None) × (made ≡ read)
unless-Ok None None made read e = (refl, refl, cc e)
unless-Ok None (Some f) made read e = cc e
unless-Ok (Some f) whole made read e = cc e

-- what is read has the rows below a header
record IsBelow {T F : Type 0} (below : List Fields → Result T F) (read : T) : Type 0 where
  rows : List Fields
  is : below rows ≡ Ok read

in-rows : {T F : Type 0} (is_header : Fields → Bool) (bad_header : F) (below : List Fields → Result T F) (rows : List Fields) (read : T) → rows_in is_header bad_header below rows ≡ Ok read → IsBelow below read
in-rows is_header bad_header below [] read e = cc e
in-rows is_header bad_header below (header ∷ rows) read e = by (is_header header) e
  where
    by : (b : Bool) → cond b (below rows) (Err bad_header) ≡ Ok read → IsBelow below read
    by true h = record { rows = rows; is = h }
    by false h = cc h

-- what holds of whatever a text says holds of what is read of it
pub told : {T F : Type 0} (Is : T → Type 0) (memory : F) (answer result : Result T F) → ((read : T) → answer ≡ Ok read → Is read) → (result ≢ Err memory → result ≡ answer) → IfOk result Is
told Is memory answer (Ok read) is e = is read (sym (e (λ same. cc same)))
told Is memory answer (Err f) is e = tt

module _ {T F : Type 0} (from : List Fields → T) (row_fault : ℕ → T → Fields → Option F) where
  -- what one more row does, where n rows are taken
  pub record Adds (all : List Fields) (n : ℕ) (before : T) (r : Fields) (rest : List Fields) : Type 0 where
    pub within : n + 1 ≤ length all
    pub left : rest ≡ drop (n + 1) all
    pub taken : take (n + 1) all ≡ take n all ++ r ∷ []
    pub fault : rows_fault from row_fault (take n all) (r ∷ rest) ≡ option_or (row_fault (n + 1) before r) (rows_fault from row_fault (take (n + 1) all) rest)

  pub adds : (all : List Fields) (n : ℕ) (read : T) (r : Fields) (rest left : List Fields) → n ≤ length all → read ≡ from (take n all) → left ≡ drop n all → left ≡ r ∷ rest
      → Adds all n read r rest
  unfolding rows_fault
  adds all n read r rest left h e d t =
      let k = take-one all rest n r (sym d ∙ t) in
      record {
        within = omega (arith, k.within);
        left = sym k.left;
        taken = k.taken;
        fault = ap (λ (k : ℕ). option_or (row_fault (k + 1) (from (take n all)) r) (rows_fault from row_fault (take n all ++ r ∷ []) rest)) (length-take-le n all h)
            ∙ ap (λ (l : T). option_or (row_fault (n + 1) l r) (rows_fault from row_fault (take n all ++ r ∷ []) rest)) (sym e)
            ∙ ap (λ (ys : List Fields). option_or (row_fault (n + 1) read r) (rows_fault from row_fault ys rest)) (sym k.taken);
      }

  -- no row is left
  pub adds-none : (whole : T → Option F) (all : List Fields) (n : ℕ) (read : T) (left : List Fields) → read ≡ from (take n all) → left ≡ drop n all → left ≡ []
      → rows_fault from row_fault [] all ≡ rows_fault from row_fault (take n all) left → below_header from row_fault whole all ≡ unless (whole read) read
  unfolding rows_fault
  adds-none whole all n read left e d z f =
      let taken : take n all ≡ all = take-none all n (sym d ∙ z) in
      let same : read ≡ from all = rw taken at e in
      let none : rows_fault from row_fault [] all ≡ None = f ∙ rw z refl in
      rw none (ap (λ (l : T). unless (whole l) l) (sym same))

  -- a bad row ends the text
  pub adds-bad : (whole : T → Option F) (all : List Fields) (n : ℕ) (read : T) (r : Fields) (rest left : List Fields) (bad : F) → Adds all n read r rest → left ≡ r ∷ rest
      → rows_fault from row_fault [] all ≡ rows_fault from row_fault (take n all) left → row_fault (n + 1) read r ≡ Some bad → below_header from row_fault whole all ≡ Err bad
  adds-bad whole all n read r rest left bad a t f is =
      let found : rows_fault from row_fault [] all ≡ Some bad = f ∙ ap (rows_fault from row_fault (take n all)) t ∙ a.fault ∙ ap (λ (o : Option F). option_or o (rows_fault from row_fault (take (n + 1) all) rest)) is in
      rw found refl

  -- what holds after each row that has no fault holds after all
  rows-hold : (Holds : T → ℕ → Type 0)
      → ((before : List Fields) (r : Fields) → Holds (from before) (length before) → row_fault (length before + 1) (from before) r ≡ None → Holds (from (before ++ r ∷ [])) (length before + 1))
      → (before rows : List Fields) → Holds (from before) (length before) → rows_fault from row_fault before rows ≡ None → Holds (from (before ++ rows)) (length (before ++ rows))
  unfolding rows_fault
  rows-hold Holds one before [] h e = rw (append-nil before) h
  rows-hold Holds one before (r ∷ rows) h e =
      let o = both_none (row_fault (length before + 1) (from before) r) (rows_fault from row_fault (before ++ r ∷ []) rows) e in
      let now : Holds (from (before ++ r ∷ [])) (length (before ++ r ∷ [])) = rw (length-append before (r ∷ [])) (one before r h o.0) in
      rw (append_assoc before (r ∷ []) rows) at (rows-hold Holds one (before ++ r ∷ []) rows now o.1)

  -- what follows from a property of the rows so far, where the whole has no fault, holds of whatever a text says
  pub read-is : (whole : T → Option F) (Holds : T → ℕ → Type 0) (Is : T → Type 0)
      → Holds (from []) 0
      → ((before : List Fields) (r : Fields) → Holds (from before) (length before) → row_fault (length before + 1) (from before) r ≡ None → Holds (from (before ++ r ∷ [])) (length before + 1))
      → ((read : T) (n : ℕ) → Holds read n → whole read ≡ None → Is read)
      → (is_header : Fields → Bool) (bad_header : F) (rows : List Fields) (read : T) → rows_in is_header bad_header (below_header from row_fault whole) rows ≡ Ok read → Is read
  read-is whole Holds Is none one all is_header bad_header rows read e =
      let below = in-rows is_header bad_header (below_header from row_fault whole) rows read e in
      let ok = unless-Ok (rows_fault from row_fault [] below.rows) (whole (from below.rows)) (from below.rows) read below.is in
      rw ok.2 at (all (from below.rows) (length below.rows) (rows-hold Holds one [] below.rows none ok.0) ok.1)
