-- A small train file and some refused texts, read by the definitions.
use Rattle.std.proofs.Common.{◌≡◌, ◌++◌, ◌∷◌, [], List, ℕ, Ok, Err, refl}
use Rattle.std.specs.Prelude.{codes}
use Rattle.std.specs.Str.{chars, is_utf8}
use Rattle.toml.proofs.OnLiterals.{toml_on_literals}
use Rattle.train_file.specs.declared.fault.Key.TheVariants as key
use Rattle.train_file.specs.declared.fault.TrainFault.TheVariants as fault
use Rattle.train_file.specs.TrainText.{train_of, pairs_of, rows_of}

abbrev numbers : List ℕ
numbers = codes "mass = 1000\ninertia = 1100\na = 10\nb = 20\nc = 30\n"

accepted : train_of (numbers ++ codes "traction = [[0, 9], [4, 2]]\nbrake = [[0, 7], [4, 7]]\n") ≡ Ok (record {
  version = 1;
  mass = 1000;
  inertia = 1100;
  a = 10;
  b = 20;
  c = 30;
  length = 0;
  regeneration = 0;
  traction = 9 ∷ 7 ∷ 5 ∷ 3 ∷ 2 ∷ [];
  brake = 7 ∷ 7 ∷ 7 ∷ 7 ∷ 7 ∷ [];
})
unfolding toml_on_literals is_utf8 chars pairs_of rows_of
accepted = refl

rising : train_of (numbers ++ codes "traction = [[0, 9], [2, 8], [4, 9]]\nbrake = [[0, 7], [4, 7]]\n") ≡ Err (fault.TableRises key.Traction 3)
unfolding toml_on_literals is_utf8 chars pairs_of rows_of
rising = refl

-- the first refusal counts, in the order of the keys
kind_before_missing : train_of (codes "traction = []\ninertia = 1\nmass = 1.5\n") ≡ Err (fault.WrongKind key.Mass)
unfolding toml_on_literals is_utf8 chars pairs_of rows_of
kind_before_missing = refl

-- both keys, in version 2
regaining : train_of (codes "version = 2\nregeneration = 500\nlength = 400\n" ++ numbers ++ codes "traction = [[0, 9]]\nbrake = [[0, 7]]\n") ≡ Ok (record {
  version = 2;
  mass = 1000;
  inertia = 1100;
  a = 10;
  b = 20;
  c = 30;
  length = 400;
  regeneration = 500;
  traction = 9 ∷ [];
  brake = 7 ∷ [];
})
unfolding toml_on_literals is_utf8 chars pairs_of rows_of
regaining = refl

-- what isn't needed in version 1 is needed in version 2
nothing_said : train_of (codes "version = 2\n" ++ numbers ++ codes "traction = [[0, 9]]\n") ≡ Err (fault.Missing key.Regeneration)
unfolding toml_on_literals is_utf8 chars pairs_of rows_of
nothing_said = refl

passed_over : train_of (numbers ++ codes "regeneration = 1001\nlength = 1001\n") ≡ Err (fault.OutOfRange key.Length)
unfolding toml_on_literals is_utf8 chars pairs_of rows_of
passed_over = refl
