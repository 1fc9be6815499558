-- The answers that end a run at a file, or at rules that are refused.
use Rattle.std.specs.Prelude.{ℕ, ◌≡◌, ◌++◌, ◌∷◌, List, codes}
use Rattle.edge_io.specs.Faults.{Rose}
use Rattle.rail_base.specs.Texts.{line}

-- a file or the rules are refused: whose fault it is, and the fault's words
abbrev pub refused_text : List ℕ → List ℕ → List ℕ
refused_text role words = line (codes "refused " ++ role ++ 32 ∷ words)

-- the file of this role can't be read
abbrev pub read_fault_text : List ℕ → List ℕ
read_fault_text role = line (codes "read fault " ++ role)

-- the answer is a refusal in these words
pub record IsRefusal (role words : List ℕ) (status : ℕ) (text : List ℕ) : Type 0 where
  pub ends : status ≡ 3
  pub says : text ≡ refused_text role words

-- the file of this name can't be read, since the count of faults of its own name rose
pub record IsReadFault (role name : List ℕ) (before now : List ℕ → ℕ) (status : ℕ) (text : List ℕ) : Type 0 where
  pub cause : Rose (before name) (now name)
  pub ends : status ≡ 6
  pub says : text ≡ read_fault_text role
