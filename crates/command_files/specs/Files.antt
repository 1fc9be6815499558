-- Kinds of files, what a file says, and how a run may end at one.
use Rattle.std.specs.Prelude.{ℕ, ◌≡◌, ◌≤◌, ◌<◌, List, ⊤, Some, None, Result, Ok, Err, codes, length, ◌⊎◌}
use Rattle.edge_io.specs.Faults.{Told}
use Rattle.command_files.specs.Answers.{IsRefusal, IsReadFault}

-- a kind of file: the role that it has in texts, the most bytes that it may have, what its reader finds in a text, and the words of a fault
pub record Kind (A F : Type 0) : Type 0 where
  pub role : List ℕ
  pub most : ℕ
  pub read : List ℕ → Result A F
  pub words : F → List ℕ

-- a shelf may hold these bytes under a name: any where it tells nothing, those that it tells, and none where it has no such file
abbrev pub MayHold : Told → List ℕ → Type 0
MayHold None file = ⊤
MayHold (Some None) file = ⊥
MayHold (Some (Some told)) file = file ≡ told

-- the shelf may hold a file of this kind and name that is short enough and says this
pub record Says {A F : Type 0} (kind : Kind A F) (name : List ℕ) (told : List ℕ → Told) (said : A) : Type 0 where
  pub file : List ℕ
  pub held : MayHold (told name) file
  pub short : length file ≤ kind.most
  pub reads : kind.read file ≡ Ok said

-- the shelf may hold a file of this kind and name that is too long, and the answer says so
pub record IsTooLong {A F : Type 0} (kind : Kind A F) (name : List ℕ) (told : List ℕ → Told) (status : ℕ) (text : List ℕ) : Type 0 where
  pub file : List ℕ
  pub held : MayHold (told name) file
  pub long : kind.most < length file
  pub says : IsRefusal kind.role (codes "too-long") status text

-- the shelf may hold a file of this kind and name that is short enough and has a fault, and the answer says so
pub record IsFaulty {A F : Type 0} (kind : Kind A F) (name : List ℕ) (told : List ℕ → Told) (status : ℕ) (text : List ℕ) : Type 0 where
  pub file : List ℕ
  pub held : MayHold (told name) file
  pub short : length file ≤ kind.most
  pub fault : F
  pub reads : kind.read file ≡ Err fault
  pub says : IsRefusal kind.role (kind.words fault) status text

-- the run may end at the file of this kind and name with this status and text: it can't be read, is too long, or has a fault. The
-- counts of faults of the files were `before` and are `now`
abbrev pub IsFileEnd : {A F : Type 0} → Kind A F → List ℕ → (List ℕ → Told) → (List ℕ → ℕ) → (List ℕ → ℕ) → ℕ → List ℕ → Type 0
IsFileEnd kind name told before now status text =
    IsReadFault kind.role name before now status text ⊎ IsTooLong kind name told status text ⊎ IsFaulty kind name told status text

-- the run may end at the file of this kind and name, or, once that was read, in this way behind it
abbrev pub first_ends : {A F : Type 0} → Kind A F → List ℕ → (List ℕ → Told) → (List ℕ → ℕ) → (List ℕ → ℕ)
    → (ℕ → List ℕ → Type 0) → ℕ → List ℕ → Type 0
first_ends {A} {F} kind name told before now behind status text =
    IsFileEnd kind name told before now status text ⊎ ((said : A) × (Says kind name told said × behind status text))

-- the answer over some files: one that ends the run at a file, or one to what all of them say
abbrev pub MayAnswer : {A : Type 0} → (ℕ → List ℕ → Type 0) → (A → Type 0) → (A → ℕ → List ℕ → Type 0) → ℕ → List ℕ → Type 0
MayAnswer {A} ends says next status text = ends status text ⊎ ((said : A) × (says said × next said status text))
