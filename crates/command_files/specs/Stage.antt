-- What comes of one file within a run, or of several: what they say, or the answer that ends the run.
use Rattle.std.specs.Prelude.{ℕ, ◌≡◌, ◌≤◌, ◌<◌, List, Result, Ok, Err, codes, length, Vec, ◌⊎◌}
use Rattle.std.specs.declared.alloc.Global.{Global}
use Rattle.edge_io.specs.Faults.{Told}
use Rattle.command_files.specs.Answers.{IsRefusal, IsReadFault}
use Rattle.command_files.specs.Files.{Kind, MayHold}
use Rattle.command_files.specs.declared.stage.Stage.{Stage}
use Rattle.command_files.specs.declared.stage.Stage.TheVariants.{Read, Ends}

-- the bytes of a file that is short enough, or the refusal of a file that is too long
abbrev pub IsMeasured : List ℕ → ℕ → List ℕ → Stage (Vec ℕ Global) → Type 0
IsMeasured role most file (Read bytes) = (length file ≤ most) × (bytes.items ≡ file)
IsMeasured role most file (Ends answer) = (most < length file) × IsRefusal role (codes "too-long") answer.status answer.text.items

-- the file of this role and name was fetched and measured
abbrev pub IsFetched : List ℕ → ℕ → List ℕ → (List ℕ → Told) → (List ℕ → ℕ) → (List ℕ → ℕ) → Stage (Vec ℕ Global) → Type 0
IsFetched role most name told before now (Read bytes) = MayHold (told name) bytes.items × (length bytes.items ≤ most)
IsFetched role most name told before now (Ends answer) =
    IsReadFault role name before now answer.status answer.text.items
    ⊎ ((file : List ℕ) × (MayHold (told name) file × (most < length file)
    × IsRefusal role (codes "too-long") answer.status answer.text.items))

-- what was found in a file of this kind, or the refusal by the words of its fault
abbrev pub IsSaid : {A F : Type 0} → Kind A F → Result A F → Stage A → Type 0
IsSaid kind found (Read said) = found ≡ Ok said
IsSaid {A} {F} kind found (Ends answer) =
    (fault : F) × ((found ≡ Err fault) × IsRefusal kind.role (kind.words fault) answer.status answer.text.items)

-- what files say, or an answer that ends the run at one of them
abbrev pub IsStage : {A : Type 0} → (ℕ → List ℕ → Type 0) → (A → Type 0) → Stage A → Type 0
IsStage ends says (Read said) = says said
IsStage ends says (Ends answer) = ends answer.status answer.text.items

-- a fact about what files say
abbrev pub OnRead : {A : Type 0} → (A → Type 0) → Stage A → Type 0
OnRead P (Read said) = P said
OnRead P (Ends answer) = Unit {0}
