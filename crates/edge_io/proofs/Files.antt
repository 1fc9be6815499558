-- The first file of a name.
use Rattle.std.proofs.Common.{◌≡◌, ◌<◌, ◌≤◌, ◌+◌, ℕ, List, Some, None, String}
use Rattle.std.proofs.Common.{Vec, string_bytes, true, false, length, drop, get_or, refl, add-one, drop-cons}
use Rattle.std.specs.declared.alloc.Global.{Global}
use Rattle.std.specs.Str.{bytes_eq}
use Rattle.std.proofs.lemmas.List.{drop_all}
use Rattle.edge_io.specs.Memory.{file_of}
use Rattle.edge_io.specs.Named.{named}

pub file_here : (files : List (String Global × Vec ℕ Global)) (i : ℕ) (x : String Global × Vec ℕ Global) (name v : List ℕ)
    → i < length files → x ≡ get_or files i x
    → bytes_eq (string_bytes x.0) name ≡ true → v ≡ x.1.items → Some v ≡ file_of (named (drop i files)) name
file_here files i x name v h at e is = rw (drop-cons files i x, ← at, e, is) refl

pub file_past : (files : List (String Global × Vec ℕ Global)) (i : ℕ) (d : String Global × Vec ℕ Global) (name : List ℕ) → i < length files
    → bytes_eq (string_bytes (get_or files i d).0) name ≡ false
    → file_of (named (drop i files)) name ≡ file_of (named (drop (i + 1) files)) name
file_past files i d name h e = rw (drop-cons files i d, e, add-one) refl

pub file_end : (files : List (String Global × Vec ℕ Global)) (i : ℕ) (name : List ℕ)
    → length files ≤ i → file_of (named (drop i files)) name ≡ None
file_end files i name h = rw (drop_all i files h) refl
