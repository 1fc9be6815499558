-- What a train file says, or why a text is none.
use Rattle.std.specs.Prelude.{◌==◌, ◌+◌, ◌∷◌, ℕ, ℤ, pos, List, [], Option, Some, None, Result, Ok, Err, if◌then◌else◌, codes, length, map, option_and_then}
use Rattle.std.specs.Int.RustNames.{unsigned_abs}
use Rattle.std.specs.List.{range_with_len}
use Rattle.std.specs.Str.{is_utf8}
use Rattle.toml.specs.Data.{Data, Items, no_items, item, Members, get_member, as_array, as_integer}
use Rattle.toml.specs.Parse.{parse_document}
use Rattle.rail_base.specs.Numbers.{is_within}
use Rattle.rail_specs.specs.Table.{force, top_speed}
use Rattle.force_table.specs.Fault.{table_fault}
use Rattle.force_table.specs.declared.fault.TableFault.{TableFault}
use Rattle.force_table.specs.declared.fault.TableFault.TheVariants as amiss
use Rattle.train_file.specs.declared.fault.Key.{Key}
use Rattle.train_file.specs.declared.fault.Key.TheVariants as key
use Rattle.train_file.specs.declared.fault.TrainFault.{TrainFault}
use Rattle.train_file.specs.declared.fault.TrainFault.TheVariants as fault
use Rattle.train_file.specs.declared.train.Train.{Train}

-- the first answer, and where it is no refusal what follows from it
abbrev pub after : {X Y : Type 0} → Result X TrainFault → (X → Result Y TrainFault) → Result Y TrainFault
after (Ok x) next = next x
after (Err e) next = Err e

-- the value that a needed key holds
abbrev pub present : {X : Type 0} → Key → Option X → Result X TrainFault
present k None = Err (fault.Missing k)
present k (Some x) = Ok x

-- a value of the kind that is wanted
abbrev pub of_kind : {X : Type 0} → Key → Option X → Result X TrainFault
of_kind k None = Err (fault.WrongKind k)
of_kind k (Some x) = Ok x

-- a whole number from low to high
abbrev pub whole_in : Key → ℕ → ℕ → ℤ → Result ℕ TrainFault
whole_in k low high n = if is_within (pos low) (pos high) n then Ok (unsigned_abs n) else Err (fault.OutOfRange k)

-- the whole number from low to high that a value is
abbrev pub whole_of : Key → ℕ → ℕ → Data → Result ℕ TrainFault
whole_of k low high d = after (of_kind k (as_integer d)) (whole_in k low high)

-- the whole number from low to high that a needed key holds
abbrev pub whole_at : Key → ℕ → ℕ → Option Data → Result ℕ TrainFault
whole_at k low high held = after (present k held) (whole_of k low high)

-- the whole number from low to high that a key holds, or another where it is left out
abbrev pub whole_or : Key → ℕ → ℕ → ℕ → Option Data → Result ℕ TrainFault
whole_or k low high other None = Ok other
whole_or k low high other (Some d) = whole_of k low high d

-- the share of its work that braking gives back, per mille: in version 2 what its key holds, which is needed there; in version 1 the key is
-- passed over, and nothing is given back
abbrev pub regeneration_at : ℕ → Option Data → Result ℕ TrainFault
regeneration_at version held = if version == 2 then whole_at key.Regeneration 0 1000 held else Ok 0

-- two integers
abbrev pub both : Option ℤ → Option ℤ → Option (ℤ × ℤ)
both None second = None
both (Some a) None = None
both (Some a) (Some b) = Some (a, b)

-- two items that are integers, and no others
abbrev pub two_of : Items → Option (ℤ × ℤ)
two_of no_items = None
two_of (item a no_items) = None
two_of (item a (item b no_items)) = both (as_integer a) (as_integer b)
two_of (item a (item b (item c ds))) = None

-- the two integers of an array that has no other items
abbrev pub pair_of : Data → Option (ℤ × ℤ)
pair_of d = option_and_then two_of (as_array d)

-- a first pair and the pairs after it, where each is one
abbrev pub with_pair : Option (ℤ × ℤ) → Option (List (ℤ × ℤ)) → Option (List (ℤ × ℤ))
with_pair None rest = None
with_pair (Some p) None = None
with_pair (Some p) (Some rest) = Some (p ∷ rest)

-- the pairs of an array of such arrays
unfoldable pub pairs_of : Items → Option (List (ℤ × ℤ))
pairs_of no_items = Some []
pairs_of (item d ds) = with_pair (pair_of d) (pairs_of ds)

-- a row of a speed of 0 to 12,000 cm/s and a force of 0 to 2,000,000 N
abbrev pub row_of : Key → ℤ × ℤ → Result (ℕ × ℕ) TrainFault
row_of k p = after (whole_in k 0 12000 p.0) (λ speed. after (whole_in k 0 2000000 p.1) (λ force. Ok (speed, force)))

-- the rows of pairs
unfoldable pub rows_of : Key → List (ℤ × ℤ) → Result (List (ℕ × ℕ)) TrainFault
rows_of k [] = Ok []
rows_of k (p ∷ ps) = after (row_of k p) (λ row. after (rows_of k ps) (λ rows. Ok (row ∷ rows)))

-- the rows that a key holds
abbrev pub rows_at : Key → Option Data → Result (List (ℕ × ℕ)) TrainFault
rows_at k held = after (present k held) (λ d. after (of_kind k (as_array d)) (λ ds. after (of_kind k (pairs_of ds)) (rows_of k)))

-- the fault of a key's table
abbrev pub table_refusal : Key → TableFault → TrainFault
table_refusal k amiss.Empty = fault.TableStart k
table_refusal k amiss.Start = fault.TableStart k
table_refusal k (amiss.Order n) = fault.TableOrder k n
table_refusal k (amiss.Rises n) = fault.TableRises k n
table_refusal k amiss.NoMemory = fault.NoMemory

-- the forces of rows, one for each speed from 0 to the top
abbrev pub forces_of : List (ℕ × ℕ) → List ℕ
forces_of rows = map (force rows) (range_with_len 0 (top_speed rows + 1))

-- these forces, or the fault of a key's table
abbrev pub unless_amiss : Key → Option TableFault → List ℕ → Result (List ℕ) TrainFault
unless_amiss k None forces = Ok forces
unless_amiss k (Some amiss) forces = Err (table_refusal k amiss)

-- the forces of a key's rows, or the fault of their table
abbrev pub table_of_rows : Key → List (ℕ × ℕ) → Result (List ℕ) TrainFault
table_of_rows k rows = unless_amiss k (table_fault rows) (forces_of rows)

-- the forces that a key holds
abbrev pub forces_at : Key → Option Data → Result (List ℕ) TrainFault
forces_at k held = after (rows_at k held) (table_of_rows k)

-- tables that end at the same speed
abbrev pub with_equal_tops : Train → Result Train TrainFault
with_equal_tops train = if length train.traction == length train.brake then Ok train else Err fault.TopsDiffer

-- the train of a table's members, key by key; other keys are passed over
abbrev pub train_in : Members → Result Train TrainFault
train_in ms =
    after (whole_or key.Version 1 2 1 (get_member (codes "version") ms)) (λ version.
    after (whole_at key.Mass 1 100000 (get_member (codes "mass") ms)) (λ mass.
    after (whole_at key.Inertia 1 120000 (get_member (codes "inertia") ms)) (λ inertia.
    after (whole_at key.A 0 10000000 (get_member (codes "a") ms)) (λ a.
    after (whole_at key.B 0 10000000 (get_member (codes "b") ms)) (λ b.
    after (whole_at key.C 0 10000000 (get_member (codes "c") ms)) (λ c.
    after (whole_or key.Length 0 1000 0 (get_member (codes "length") ms)) (λ metres.
    after (regeneration_at version (get_member (codes "regeneration") ms)) (λ regeneration.
    after (forces_at key.Traction (get_member (codes "traction") ms)) (λ traction.
    after (forces_at key.Brake (get_member (codes "brake") ms)) (λ brake.
    with_equal_tops (record {
      version = version;
      mass = mass;
      inertia = inertia;
      a = a;
      b = b;
      c = c;
      length = metres;
      regeneration = regeneration;
      traction = traction;
      brake = brake;
    })))))))))))

-- the table of a text of bytes
abbrev pub table_of : List ℕ → Option Members
table_of text = if is_utf8 text then parse_document text else None

-- the train of a text's table, where the text has one
abbrev pub read : Option Members → Result Train TrainFault
read None = Err fault.Text
read (Some ms) = train_in ms

-- what a text says, or its first refusal
abbrev pub train_of : List ℕ → Result Train TrainFault
train_of text = read (table_of text)
