-- The words of a command, from what a parse says.
use Rattle.std.proofs.Common.{◌≡◌, ◌∙◌, ◌∷◌, List, [], Option, Some, None, true, false, refl, sym, ap, unwrap_or, rules}
use Rattle.clap.specs.Words.{App, HasMatchesOf, IsAmong, Kinds, Text, fault_of, first_value, found_of}
use Rattle.clap.specs.Words.{is_simple, is_simple_and_free, matches_of, rows_of}
use Rattle.clap.specs.Walk.{is_empty}
use Rattle.clap.specs.Faults.{is_free_app}
use Rattle.clap.specs.Simple.{built}
use Rattle.clap.specs.declared.error.kind.ErrorKind.{ErrorKind}
use Rattle.clap.specs.declared.parser.matches.ArgMatches.{ArgMatches}
use Rattle.clap.specs.declared.parser.matches.Found.{Found}
use Rattle.clap.proofs.WalkLemmas.{both, first_value-rows}
use Rattle.run_parts.specs.Words.{taken, value_of}

-- a list with an item isn't empty
nonempty : {X : Type 0} (x : X) (xs : List X) → is_empty (x ∷ xs) ≡ false
nonempty x xs = search rules

-- a parse that succeeds
pub taken-some : (a : App) (ws words : List Text) (m : ArgMatches) → is_simple_and_free a ≡ true → ws ≡ words
    → fault_of a ws ≡ [] → HasMatchesOf a ws m
    → Some (rows_of (found_of m)) ≡ taken a words
unfolding taken
taken-some a ws words m free f none has =
    let simple = (both (is_simple a) (is_free_app (built a)) free).0 in
    let empty : is_empty (fault_of a words) ≡ true = ap is_empty (sym (ap (fault_of a) f) ∙ none) in
    let rows = (has simple).0 ∙ ap (matches_of a) f in
    rw (empty, rows) refl

-- a parse that is refused
pub taken-none : (a : App) (ws words : List Text) (k : ErrorKind) → ws ≡ words → IsAmong k (fault_of a ws) → None ≡ taken a words
unfolding taken
taken-none a ws words k f h = by (fault_of a ws) (ap (fault_of a) f) h
  where
    by : (ks : Kinds) → ks ≡ fault_of a words → IsAmong k ks → None ≡ taken a words
    by [] g i = absurd i
    by (x ∷ xs) g i = let some : is_empty (fault_of a words) ≡ false = ap is_empty (sym g) ∙ nonempty x xs in rw some refl

-- the value of an argument that was given
pub value-some : (f : Found) (id text : Text) → Some text ≡ first_value f id → text ≡ value_of id (rows_of f)
value-some f id text e = ap (λ (x : Option Text). unwrap_or x []) (e ∙ first_value-rows f id)

-- and of one that wasn't
pub value-none : (f : Found) (id : Text) → None ≡ first_value f id → [] ≡ value_of id (rows_of f)
value-none f id e = ap (λ (x : Option Text). unwrap_or x []) (e ∙ first_value-rows f id)
