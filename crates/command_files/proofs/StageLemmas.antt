-- What comes of the bytes that were fetched.
use Rattle.std.proofs.Common.{ℕ, ◌≤◌, ◌<◌, ◌+◌, ◌∙◌, List, Some, None, length, take, refl, arith, inr}
use Rattle.std.specs.Prelude.{Result, Ok, Err, IfOk, Vec}
use Rattle.std.specs.declared.alloc.Global.{Global}
use Rattle.std.proofs.lemmas.List.{take_all, length-take}
use Rattle.edge_io.specs.Faults.{Told, Fetches}
use Rattle.command_files.specs.Files.{MayHold}
use Rattle.command_files.specs.Stage.{IsMeasured, IsFetched}
use Rattle.command_files.specs.declared.stage.Stage.{Stage}
use Rattle.command_files.specs.declared.stage.Stage.TheVariants.{Read, Ends}

-- bytes that were fetched and are short enough are the whole file
held_short : (t : Told) (most : ℕ) (got : List ℕ) → Fetches t (most + 1) got → length got ≤ most → MayHold t got
held_short None most got f s = tt
held_short (Some None) most got f s = absurd f
held_short (Some (Some file)) most got f s =
    let cut : length (take (most + 1) file) ≤ most = rw f at s in
    let few : length file ≤ most + 1 = omega (arith, length-take (most + 1) file) in
    f ∙ take_all (most + 1) file few

-- and those that are too long are the front of a file that is too long
held_long : (t : Told) (most : ℕ) (got : List ℕ) → Fetches t (most + 1) got → most < length got
    → (file : List ℕ) × (MayHold t file × (most < length file))
held_long None most got f s = (got, (tt, s))
held_long (Some None) most got f s = absurd f
held_long (Some (Some file)) most got f s =
    let cut : most < length (take (most + 1) file) = rw f at s in
    (file, (refl, omega (arith, length-take (most + 1) file)))

-- what was fetched and measured
fetched_from : (role : List ℕ) (most : ℕ) (name : List ℕ) (told : List ℕ → Told) (before now : List ℕ → ℕ)
    (got : List ℕ) (stage : Stage (Vec ℕ Global))
    → Fetches (told name) (most + 1) got → IsMeasured role most got stage → IsFetched role most name told before now stage
fetched_from role most name told before now got (Read bytes) f m =
    let short : length got ≤ most = m.0 in
    rw m.1 (held_short (told name) most got f short, short)
fetched_from role most name told before now got (Ends answer) f m =
    let l = held_long (told name) most got f m.0 in
    inr (l.0, (l.1.0, l.1.1, m.1))

-- the same where there was memory
pub fetched_ok : (role : List ℕ) (most : ℕ) (name : List ℕ) (told : List ℕ → Told) (before now : List ℕ → ℕ)
    (got : List ℕ) {E : Type 0} (r : Result (Stage (Vec ℕ Global)) E)
    → Fetches (told name) (most + 1) got → IfOk r (IsMeasured role most got) → IfOk r (IsFetched role most name told before now)
fetched_ok role most name told before now got (Ok stage) f m = fetched_from role most name told before now got stage f m
fetched_ok role most name told before now got (Err e) f m = tt
