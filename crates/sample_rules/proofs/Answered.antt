-- An answer that is none for want of memory is the one that there is.
use Rattle.std.proofs.Common.{◌≡◌, ◌≢◌, ◌∙◌, Result, Ok, Err}

pub ok-is : {T F : Type 0} (r : Result T F) (a b : T) → r ≡ Ok a → r ≡ Ok b → a ≡ b
ok-is r a b d e = cc

err-is : {T F : Type 0} (r : Result T F) (a b : F) → r ≡ Err a → r ≡ Err b → a ≡ b
err-is r a b d e = cc

not-both : {T F : Type 0} (r : Result T F) (t : T) (f : F) → r ≡ Err f → r ≡ Ok t → ⊥
not-both r t f d e = cc

pub never : {T F : Type 0} (result answer : Result T F) (memory fault : F) (t : T)
    → (result ≢ Err memory → result ≡ answer) → result ≡ Err fault → (fault ≡ memory → ⊥) → answer ≡ Ok t → ⊥
never result answer memory fault t told is other says =
    let sound : result ≢ Err memory = λ e. other (err-is result fault memory is e) in
    not-both result t fault is (told sound ∙ says)
