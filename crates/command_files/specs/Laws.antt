-- A shelf that tells the same, and had as many faults or more: what its files say, and the answers that may end a run at one.
use Rattle.std.proofs.Common.{ℕ, ◌≡◌, ◌≤◌, List, arith, inl, inr, subst}
use Rattle.std.specs.Prelude.{◌⊎◌}
use Rattle.edge_io.specs.Faults.{Rose, Told}
use Rattle.command_files.specs.Files.{IsFileEnd, Kind, MayHold, Says}

-- a file says the same
pub says_there : {A F : Type 0} (kind : Kind A F) (name : List ℕ) (told told' : List ℕ → Told) (said : A) → told' name ≡ told name
    → Says kind name told' said → Says kind name told said
says_there kind name told told' said same h =
    record { file = h.file; held = subst (λ (t : Told). MayHold t h.file) same h.held; short = h.short; reads = h.reads }

-- a count that rose since a later time rose since an earlier one, where it was no higher
rose_sooner : (a b now : ℕ) → a ≤ b → Rose b now → Rose a now
rose_sooner a b now h r = omega arith

-- a run that may end at a file
ends_there : {A F : Type 0} (kind : Kind A F) (name : List ℕ) (told told' : List ℕ → Told) (before before' now : List ℕ → ℕ)
    (status : ℕ) (text : List ℕ)
    → told' name ≡ told name → before name ≤ before' name → IsFileEnd kind name told' before' now status text
    → IsFileEnd kind name told before now status text
ends_there kind name told told' before before' now status text same fewer (inl fault) =
    inl record { cause = rose_sooner (before name) (before' name) (now name) fewer fault.cause; ends = fault.ends; says = fault.says }
ends_there kind name told told' before before' now status text same fewer (inr (inl h)) =
    inr (inl record { file = h.file; held = subst (λ (t : Told). MayHold t h.file) same h.held; long = h.long; says = h.says })
ends_there kind name told told' before before' now status text same fewer (inr (inr h)) =
    inr (inr record {
      file = h.file;
      held = subst (λ (t : Told). MayHold t h.file) same h.held;
      short = h.short;
      fault = h.fault;
      reads = h.reads;
      says = h.says;
    })

-- a run that may end at a file, or at one behind it
pub ends_along : {A F : Type 0} (kind : Kind A F) (name : List ℕ) (told told' : List ℕ → Told)
    (before before' now : List ℕ → ℕ) (rest rest' : Type 0) (status : ℕ) (text : List ℕ)
    → told' name ≡ told name → before name ≤ before' name → (rest' → rest)
    → IsFileEnd kind name told' before' now status text ⊎ ((said : A) × (Says kind name told' said × rest'))
    → IsFileEnd kind name told before now status text ⊎ ((said : A) × (Says kind name told said × rest))
ends_along kind name told told' before before' now rest rest' status text same fewer go (inl h) =
    inl (ends_there kind name told told' before before' now status text same fewer h)
ends_along kind name told told' before before' now rest rest' status text same fewer go (inr h) =
    inr (h.0, (says_there kind name told told' h.0 same h.1.0, go h.1.1))
