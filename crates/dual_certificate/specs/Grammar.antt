-- The grammar of certificates: what a text says, or the fault of its first line that has one. Lines are taken in order; on a line its form
-- comes before the ranges of its numbers.
use Rattle.std.specs.Prelude.{◌≡◌, ℕ, zero, suc, ◌+◌, ◌-◌, ◌^◌, ◌==◌, ◌&&◌, Bool, true, ℤ, pos, negsuc, ◌+ℤ◌, List, [], ◌∷◌, Option, Some, None, Result, Ok, Err, map, option_map, if◌then◌else◌, nat_lt, length, take, drop, codes}
use Rattle.std.specs.Int.RustNames.{unsigned_abs}
use Rattle.std.specs.List.{position}
use Rattle.std.specs.Str.{bytes_eq}
use Rattle.rail_base.specs.Lines.{begins, fields_of}
use Rattle.rail_base.specs.Numbers.{is_within}
use Rattle.dual_certificate.specs.declared.certificate.CertCell.{CertCell}
use Rattle.dual_certificate.specs.declared.certificate.CertPoint.{CertPoint}
use Rattle.dual_certificate.specs.declared.certificate.Certificate.{Certificate}
use Rattle.dual_certificate.specs.declared.fault.CertFault.{CertFault}
use Rattle.dual_certificate.specs.declared.fault.CertFault.TheVariants.{TooLong, Form, Range, NoMemory}
use Rattle.dual_certificate.specs.Numbers.{number_spelled}

infixl 10 ◌>>=◌
abbrev pub ◌>>=◌ : {A B : Type 0} → Result A CertFault → (A → Result B CertFault) → Result B CertFault
(Ok x) >>= f = f x
(Err e) >>= f = Err e

-- a call that fails so answers the fault that reading gives, unless memory ran out
abbrev pub Fails : {Y : Type 0} → CertFault → Result Y CertFault → Type 0
Fails NoMemory read = Unit {0}
Fails e read = read ≡ Err e

-- a call's answer, seen by view, is what reading gives, unless memory ran out
abbrev pub Gives : {X Y : Type 0} → (X → Y) → Result X CertFault → Result Y CertFault → Type 0
Gives view (Ok x) read = read ≡ Ok (view x)
Gives view (Err e) read = Fails e read

-- ---- lines and fields

-- a text up to the first such byte, and behind it; none where there is no such byte
abbrev pub cut : ℕ → List ℕ → Option (List ℕ × List ℕ)
cut byte text = option_map (λ end. (take end text, drop (end + 1) text)) (position (λ b. b == byte) text)

-- what there is on line n, which else isn't of its form
abbrev pub formed : {A : Type 0} → ℕ → Option A → Result A CertFault
formed n None = Err (Form n)
formed n (Some x) = Ok x

-- what line n says, which else is out of range
abbrev pub ranged : {A : Type 0} → ℕ → Bool → A → Result A CertFault
ranged n in_range x = if in_range then Ok x else Err (Range n)

-- line n, which a line feed ends, and what stands behind it
abbrev pub line_at : ℕ → List ℕ → Result (List ℕ × List ℕ) CertFault
line_at n text = formed n (cut 10 text)

-- what stands on line n behind the word that it begins with
abbrev pub behind : ℕ → List ℕ → List ℕ → Result (List ℕ) CertFault
behind n word line = if begins word line then Ok (drop (length word) line) else Err (Form n)

-- what stands behind line n, which is this one
unfoldable pub exact_at : ℕ → List ℕ → List ℕ → Result (List ℕ) CertFault
exact_at n word text = do
  l ← line_at n text
  if bytes_eq l.0 word then Ok l.1 else Err (Form n)

-- the number on line n, which is this word and a number in this range
unfoldable pub number_at : ℕ → List ℕ → ℤ → ℤ → List ℕ → Result (ℤ × List ℕ) CertFault
number_at n word low high text = do
  l ← line_at n text
  rest ← behind n word l.0
  number ← formed n (number_spelled rest)
  x ← ranged n (is_within low high number) number
  Ok (x, l.1)

-- ---- lists of fields

-- a first thing and the things after it, where each is there
abbrev pub put_first : {A : Type 0} → Option A → Option (List A) → Option (List A)
put_first None xs = None
put_first (Some x) None = None
put_first (Some x) (Some xs) = Some (x ∷ xs)

-- what fields say, where each of them is of this form
abbrev pub forms : {A : Type 0} → (List ℕ → Option A) → List (List ℕ) → Option (List A)
forms form [] = Some []
forms form (field ∷ fields) = put_first (form field) (forms form fields)

-- things are in range in their order: each fits what those before it leave
abbrev pub all_fit : {S A : Type 0} → (S → A → Bool) → (S → A → S) → S → List A → Bool
all_fit fits next s [] = true
all_fit fits next s (x ∷ xs) = fits s x && all_fit fits next (next s x) xs

-- what fields on line n say: they are of this form, and then in range, where all that stands before them on the line is in range too
abbrev pub fields_read : {S A B : Type 0} → (List ℕ → Option A) → (S → A → Bool) → (S → A → S) → (A → B) → ℕ → Bool → S → List (List ℕ)
    → Result (List B) CertFault
fields_read form fits next made n good s fields =
    formed n (forms form fields) >>= λ xs. ranged n (good && all_fit fits next s xs) (map made xs)

-- a price from 0 to 2^50, where there is room for one more
abbrev pub price_fits : ℕ → ℤ → Bool
price_fits room p = nat_lt 0 room && is_within (pos 0) (pos (2 ^ 50)) p

abbrev pub price_next : ℕ → ℤ → ℕ
price_next room p = room - 1

abbrev pub prices_read : Bool → ℕ → List (List ℕ) → Result (List ℕ) CertFault
prices_read good room fields = fields_read number_spelled price_fits price_next unsigned_abs 5 good room fields

-- the prices on line 5, at least one and at most 64
unfoldable pub prices_at : List ℕ → Result (List ℕ × List ℕ) CertFault
prices_at text = do
  l ← line_at 5 text
  rest ← behind 5 (codes "prices ") l.0
  prices ← prices_read true 64 (fields_of rest)
  Ok (prices, l.1)

-- ---- points

-- a first speed and a potential
abbrev pub CellForm : Type 0
CellForm = ℤ × Option ℤ

-- a potential: `-` where there is none, or a number
abbrev pub potential_form : List ℕ → Option (Option ℤ)
potential_form text = if bytes_eq text (codes "-") then Some None else option_map (λ q. Some q) (number_spelled text)

abbrev pub both : {A B : Type 0} → Option A → Option B → Option (A × B)
both None b = None
both (Some a) None = None
both (Some a) (Some b) = Some (a, b)

-- a cell: a number, `=`, and a potential
abbrev pub cell_parts : Option (List ℕ × List ℕ) → Option CellForm
cell_parts None = None
cell_parts (Some parts) = both (number_spelled parts.0) (potential_form parts.1)

abbrev pub cell_form : List ℕ → Option CellForm
cell_form field = cell_parts (cut 61 field)

abbrev pub potential_fits : Option ℤ → Bool
potential_fits None = true
potential_fits (Some q) = is_within (negsuc (2 ^ 100 - 1)) (pos (2 ^ 100)) q

-- a cell from a speed on and up to a greatest one, where there is room for one more
abbrev pub cell_fits : ℤ → (ℕ × ℤ) → CellForm → Bool
cell_fits greatest s c = nat_lt 0 s.0 && (is_within s.1 greatest c.0 && potential_fits c.1)

-- the next cell begins above it
abbrev pub cell_next : (ℕ × ℤ) → CellForm → (ℕ × ℤ)
cell_next s c = (s.0 - 1, c.0 +ℤ pos 1)

abbrev pub cell_made : CellForm → CertCell
cell_made c = record { first = unsigned_abs c.0; potential = c.1 }

abbrev pub cells_read : ℕ → ℤ → Bool → (ℕ × ℤ) → List (List ℕ) → Result (List CertCell) CertFault
cells_read n greatest good s fields = fields_read cell_form (cell_fits greatest) cell_next cell_made n good s fields

-- a speed is from 0 to 12,000 cm/s
abbrev pub is_speed : ℤ → Bool
is_speed v = is_within (pos 0) (pos 12000) v

-- the number on line n up to the next space, and what stands behind that
unfoldable pub number_before : ℕ → List ℕ → Result (ℤ × List ℕ) CertFault
number_before n text = do
  parts ← formed n (cut 32 text)
  number ← formed n (number_spelled parts.0)
  Ok (number, parts.1)

-- the point on line n, with at most so many cells
unfoldable pub point_at : ℕ → ℕ → List ℕ → Result (CertPoint × List ℕ) CertFault
point_at n room text = do
  l ← line_at n text
  rest ← behind n (codes "point ") l.0
  speed ← number_before n rest
  greatest ← number_before n speed.1
  cells ← cells_read n greatest.0 (is_speed speed.0 && is_speed greatest.0) (room, pos 0) (fields_of greatest.1)
  Ok (record { speed = unsigned_abs speed.0; greatest = unsigned_abs greatest.0; cells = cells }, l.1)

-- so many points from line n on, with at most so many cells together
unfoldable pub points_at : ℕ → ℕ → ℕ → List ℕ → Result (List CertPoint × List ℕ) CertFault
points_at zero n room text = Ok ([], text)
points_at (suc count) n room text = do
  point ← point_at n room text
  others ← points_at count (n + 1) (room - length point.0.cells) point.1
  Ok (point.0 ∷ others.0, others.1)

-- ---- the whole text

-- so many points, the line `end`, and nothing behind it
unfoldable pub body_at : ℕ → List ℕ → Result (List CertPoint) CertFault
body_at count text = do
  points ← points_at count 6 54001 text
  nothing ← exact_at (6 + count) (codes "end") points.1
  if length nothing == 0 then Ok points.0 else Err (Form (7 + count))

-- the certificate that a text is
unfoldable pub certificate_of : List ℕ → Result Certificate CertFault
certificate_of text = do
  rest ← exact_at 1 (codes "certificate 1") text
  count ← number_at 2 (codes "points ") (pos 2) (pos 4001) rest
  energy ← number_at 3 (codes "energy ") (negsuc (2 ^ 100 - 1)) (pos (2 ^ 100)) count.1
  bound ← number_at 4 (codes "bound ") (negsuc (2 ^ 100 - 1)) (pos (2 ^ 100)) energy.1
  prices ← prices_at bound.1
  points ← body_at (unsigned_abs count.0) prices.1
  Ok (record { energy = energy.0; bound = bound.0; prices = prices.0; points = points })

-- the same, where the text isn't too long
abbrev pub certificate_in : List ℕ → Result Certificate CertFault
certificate_in text = if nat_lt 8388608 (length text) then Err TooLong else certificate_of text
