-- What holds where an event isn't refused.
use Rattle.std.proofs.Common.{ℕ, ◌≡◌, ◌<◌, ◌≤◌, ◌&&◌, Bool, true, false, List, length, Some, None, refl, arith, not, sym, nat_lt, nat_le, if◌then◌else◌, is_some}
use Rattle.std.proofs.lemmas.Bool.Decides.{nat_tests}
use Rattle.std.proofs.lemmas.List.Quantifiers.{position-Some}
use Rattle.std.specs.Str.{bytes_eq}
use Rattle.event_file.specs.Names.{is_name}
use Rattle.joined_rules.specs.Joined.{IsStretch}
use Rattle.advice_session.specs.declared.fault.SessionFault.TheVariants.{OutOfRange, Outside, NameTaken, TooMany}
use Rattle.advice_session.specs.Data.{Data}
use Rattle.advice_session.specs.Faults.{index_of, is_on_line, is_restriction, restrict_fault}

pub both : (a b : Bool) → (a && b) ≡ true → (a ≡ true) × (b ≡ true)
both true b h = (refl, h)
both false b h = absurd (cc h)

-- none of four tests refuses
none_of : (a b c e : Bool) →
    (if not a then Some OutOfRange else if not b then Some Outside else if c then Some NameTaken else if e then Some TooMany else None) ≡ None →
    (a ≡ true) × (e ≡ false)
none_of false b c e h = absurd (cc h)
none_of true false c e h = absurd (cc h)
none_of true true true e h = absurd (cc h)
none_of true true false true h = absurd (cc h)
none_of true true false false h = (refl, refl)

is_below : (a b : ℕ) → nat_lt a b ≡ true → a < b
is_below a b h = grind (arith, nat_tests)

is_most : (a b : ℕ) → nat_le a b ≡ true → a ≤ b
is_most a b h = grind (arith, nat_tests)

is_fewer : (a b : ℕ) → nat_le a b ≡ false → b < a
is_fewer a b h = grind (arith, nat_tests)

-- a restriction that may stand is a stretch, and there is room for it
pub restriction : (d : Data) (name : List ℕ) (from to limit : ℕ) → None ≡ restrict_fault d name from to limit →
    IsStretch (record { from = from; to = to; limit = limit }) × (length d.names < 64)
restriction d name from to limit h =
    let n = none_of (is_restriction name from to limit) (is_on_line d.line from to) (is_some (index_of d.names name)) (nat_le 64 (length d.names)) (sym h) in
    let a = both (is_name name && nat_lt from to && nat_le 1 limit) (nat_le limit 12000) n.0 in
    let b = both (is_name name && nat_lt from to) (nat_le 1 limit) a.0 in
    let e = both (is_name name) (nat_lt from to) b.0 in
    (record { long = is_below from to e.1; limit = (is_most 1 limit b.1, is_most limit 12000 a.1) }, is_fewer 64 (length d.names) n.1)

-- the index of a name is there
pub index_there : (names : List (List ℕ)) (name : List ℕ) (i : ℕ) → Some i ≡ index_of names name → i < length names
index_there names name i h = (position-Some (λ n. bytes_eq n name) names i name (sym h)).0
