-- What the train of every sample says.
use Rattle.std.proofs.Common.{◌≡◌, ◌∷◌, [], Ok, refl, sym, ap}
use Rattle.std.specs.Str.{chars, is_utf8}
use Rattle.toml.proofs.OnLiterals.{toml_on_literals}
use Rattle.train_file.specs.TrainText.{forces_of, pairs_of, rows_of, train_of}
use Rattle.train_file.specs.declared.train.Train.{Train}
use Rattle.sample_lines.specs.Texts.{train_text}
use Rattle.sample_rules.proofs.Answered.{ok-is}

abbrev pub sample_train : Train
sample_train = record {
  version = 1;
  mass = 4000;
  inertia = 4200;
  a = 4000;
  b = 30;
  c = 800;
  length = 0;
  regeneration = 0;
  traction = forces_of ((0, 250000) ∷ (1500, 250000) ∷ (4000, 100000) ∷ []);
  brake = forces_of ((0, 300000) ∷ (4000, 300000) ∷ []);
}

pub train-says : train_of train_text ≡ Ok sample_train
unfolding toml_on_literals is_utf8 chars pairs_of rows_of
train-says = refl

-- the numbers of whatever it says
pub train-numbers : (t : Train) → train_of train_text ≡ Ok t → (t.inertia ≡ 4200) × (t.c ≡ 800)
train-numbers t e =
    let same : sample_train ≡ t = ok-is (train_of train_text) sample_train t train-says e in
    (sym (ap (λ (x : Train). x.inertia) same), sym (ap (λ (x : Train). x.c) same))
