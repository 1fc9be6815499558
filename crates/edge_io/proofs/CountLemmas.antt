-- The counts of a map, as a list by name.
use Rattle.std.proofs.Common.{◌≡◌, ℕ, List, [], ◌∷◌, Option, Some}
use Rattle.std.proofs.Common.{Bool, true, false, cond, refl, unwrap_or, is_some, String, string_bytes, map}
use Rattle.std.specs.Ordering.{nat_cmp}
use Rattle.std.specs.declared.alloc.Global.{Global}
use Rattle.std.specs.BTreeMap.{BTreeMap, get_by_text, is_at}
use Rattle.std.specs.Map.{lookup}
use Rattle.std.specs.Cmp.Lexicographic.{slice_cmp}
use Rattle.std.specs.Str.{bytes_eq}
use Rattle.std.proofs.lemmas.Map.Text.{is_eq-slice_cmp}
use Rattle.edge_io.specs.Counts.{count_in, counts_of, has_name}

abbrev pairs : List (String Global × ℕ) → List (List ℕ × ℕ)
pairs es = map (λ e. (string_bytes e.0, e.1)) es

abbrev found : List ℕ → List (String Global × ℕ) → Option ℕ
found name es = lookup (is_at {K = String Global} (λ k. slice_cmp nat_cmp name (string_bytes k))) es

count_in-pairs : (es : List (String Global × ℕ)) (name : List ℕ) → count_in (pairs es) name ≡ unwrap_or (found name es) 0
count_in-pairs [] name = refl
count_in-pairs (e ∷ es) name = rw (is_eq-slice_cmp name (string_bytes e.0)) (by (bytes_eq name (string_bytes e.0)) (count_in-pairs es name))
  where
    by : (b : Bool) → count_in (pairs es) name ≡ unwrap_or (found name es) 0
        → cond b e.1 (count_in (pairs es) name) ≡ unwrap_or (cond b (Some e.1) (found name es)) 0
    by true h = refl
    by false h = h

has_name-pairs : (es : List (String Global × ℕ)) (name : List ℕ) → has_name (pairs es) name ≡ is_some (found name es)
has_name-pairs [] name = refl
has_name-pairs (e ∷ es) name = rw (is_eq-slice_cmp name (string_bytes e.0)) (by (bytes_eq name (string_bytes e.0)) (has_name-pairs es name))
  where
    by : (b : Bool) → has_name (pairs es) name ≡ is_some (found name es)
        → cond b true (has_name (pairs es) name) ≡ is_some (cond b (Some e.1) (found name es))
    by true h = refl
    by false h = h

pub count_in-counts_of : (m : BTreeMap (String Global) ℕ) (name : List ℕ) → count_in (counts_of m) name ≡ unwrap_or (get_by_text m name) 0
count_in-counts_of m name = count_in-pairs m.entries name

pub has_name-counts_of : (m : BTreeMap (String Global) ℕ) (name : List ℕ) → has_name (counts_of m) name ≡ is_some (get_by_text m name)
has_name-counts_of m name = has_name-pairs m.entries name
