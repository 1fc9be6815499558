-- Points read one after another, as a loop does.
use Rattle.std.proofs.Common.{◌≡◌, ℕ, suc, ◌-◌, ◌+◌, ◌≤◌, ◌<◌, List, [], ◌∷◌, ◌++◌, Result, Ok, Err, length, refl, sym, ap, subst, ◌∙◌, append_assoc, arith}
use Rattle.std.proofs.lemmas.List.{append-nil}
use Rattle.dual_certificate.specs.declared.certificate.CertPoint.{CertPoint}
use Rattle.dual_certificate.specs.declared.fault.CertFault.{CertFault}
use Rattle.dual_certificate.specs.declared.fault.CertFault.TheVariants.{TooLong, Form, Range, NoMemory}
use Rattle.dual_certificate.specs.Grammar.{◌>>=◌, Fails, point_at, points_at}

-- the points that were read before, and those that are still read
abbrev pub points_before : List CertPoint → Result (List CertPoint × List ℕ) CertFault → Result (List CertPoint × List ℕ) CertFault
points_before front read = read >>= λ x. Ok (front ++ x.0, x.1)

regroup : (front : List CertPoint) (p : CertPoint) (read : Result (List CertPoint × List ℕ) CertFault)
    → points_before front (read >>= λ x. Ok (p ∷ x.0, x.1)) ≡ points_before (front ++ p ∷ []) read
regroup front p (Ok x) = ap (λ (ps : List CertPoint). Ok (ps, x.1)) (sym (append_assoc front (p ∷ []) x.0))
regroup front p (Err e) = refl

pub goes_on : (front : List CertPoint) (count i room : ℕ) (text : List ℕ) (p : CertPoint) (after : List ℕ) (total : Result (List CertPoint × List ℕ) CertFault) → i < count
    → point_at (6 + i) room text ≡ Ok (p, after) → points_before front (points_at (count - i) (6 + i) room text) ≡ total
    → points_before (front ++ p ∷ []) (points_at (count - (i + 1)) (6 + (i + 1)) (room - length p.cells) after) ≡ total
unfolding points_at
goes_on front count i room text p after total lt h so_far =
    let k : count - i ≡ suc (count - (i + 1)) = omega arith in
    let n : 6 + i + 1 ≡ 6 + (i + 1) = omega arith in
    let one : points_before front (points_at (count - i) (6 + i) room text) ≡ points_before (front ++ p ∷ []) (points_at (count - (i + 1)) (6 + (i + 1)) (room - length p.cells) after) =
    rw (k, h, n) (regroup front p (points_at (count - (i + 1)) (6 + (i + 1)) (room - length p.cells) after)) in
    sym one ∙ so_far

-- what a fault of a step makes of all
fails_first : {A B : Type 0} (e : CertFault) (read : Result A CertFault) (f : A → Result B CertFault) → Fails e read → Fails e (read >>= f)
fails_first TooLong read f h = rw h refl
fails_first (Form n) read f h = rw h refl
fails_first (Range n) read f h = rw h refl
fails_first NoMemory read f h = tt

pub ends : (e : CertFault) (front : List CertPoint) (count i room : ℕ) (text : List ℕ) (total : Result (List CertPoint × List ℕ) CertFault) → i < count
    → Fails e (point_at (6 + i) room text) → points_before front (points_at (count - i) (6 + i) room text) ≡ total → Fails e total
unfolding points_at
ends e front count i room text total lt h so_far =
    let k : count - i ≡ suc (count - (i + 1)) = omega arith in
    let one : points_before front (points_at (suc (count - (i + 1))) (6 + i) room text) ≡ total = rw k at so_far in
    subst (Fails e) one
    (fails_first e (points_at (suc (count - (i + 1))) (6 + i) room text) (λ x. Ok (front ++ x.0, x.1))
    (fails_first e (point_at (6 + i) room text) (λ p. points_at (count - (i + 1)) (6 + i + 1) (room - length p.0.cells) p.1 >>= λ x. Ok (p.0 ∷ x.0, x.1)) h))

pub is_done : (front : List CertPoint) (count i n room : ℕ) (text : List ℕ) (total : Result (List CertPoint × List ℕ) CertFault) → count ≤ i
    → points_before front (points_at (count - i) n room text) ≡ total → total ≡ Ok (front, text)
unfolding points_at
is_done front count i n room text total le so_far =
    let k : count - i ≡ 0 = omega arith in
    let one : points_before front (points_at (count - i) n room text) ≡ Ok (front, text) = rw k (ap (λ (ps : List CertPoint). Ok (ps, text)) (append-nil front)) in
    sym so_far ∙ one
