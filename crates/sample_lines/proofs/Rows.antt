-- One more section.
use Rattle.std.proofs.Common.{ℕ, ℤ, pos, ◌-ℤ◌, ◌≡◌, ◌+◌, ◌*◌, ◌%◌, ◌++◌, ◌∷◌, ◌∙◌, List, [], zero, suc, refl, sym, ap, append_assoc, arith}
use Rattle.std.specs.Prelude.{codes}
use Rattle.std.specs.List.{flat_map, range_with_len}
use Rattle.std.proofs.lemmas.List.{append-nil}
use Rattle.std.proofs.lemmas.List.Concat.{flat_map-append}
use Rattle.sample_lines.specs.Draws.{drawn, gradient, limit, next_state, state}
use Rattle.sample_lines.specs.Texts.{gradient_line, gradient_lines, limit_line, limit_lines, row_line}

range_more : (a n : ℕ) → range_with_len a (suc n) ≡ range_with_len a n ++ (a + n) ∷ []
range_more a zero = let e : a + 0 ≡ a = omega arith in rw e refl
range_more a (suc n) =
    let e : a + 1 + n ≡ a + suc n = omega arith in
    ap (λ (xs : List ℕ). a ∷ xs) (range_more (a + 1) n ∙ ap (λ (k : ℕ). range_with_len (a + 1) n ++ k ∷ []) e)

-- one more piece
pieces_more : (f : ℕ → List ℕ) (k : ℕ) → flat_map f (range_with_len 0 (k + 1)) ≡ flat_map f (range_with_len 0 k) ++ f k
pieces_more f k =
    let one : k + 1 ≡ suc k = omega arith in
    let last : 0 + k ≡ k = omega arith in
    rw one (ap (flat_map f) (range_more 0 k) ∙ flat_map-append f (range_with_len 0 k) ((0 + k) ∷ [])
    ∙ rw last (ap (λ (xs : List ℕ). flat_map f (range_with_len 0 k) ++ xs) (append-nil (f k))))

pub no_limits : (n : ℕ) → limit_lines n 0 ≡ []
unfolding limit_lines
no_limits n = refl

pub limits_more : (n b : ℕ) → limit_lines n (b + 1) ≡ limit_lines n b ++ limit_line n b
unfolding limit_lines
limits_more n b = pieces_more (limit_line n) b

pub no_gradients : (n : ℕ) → gradient_lines n 0 ≡ []
unfolding gradient_lines
no_gradients n = refl

pub gradients_more : (n b : ℕ) → gradient_lines n (b + 1) ≡ gradient_lines n b ++ gradient_line n b
unfolding gradient_lines
gradients_more n b = pieces_more (gradient_line n) b

-- the states of the draws of section b
pub state_one : (n b : ℕ) → state n (2 * b + 1) ≡ next_state (state n (2 * b))
unfolding state
state_one n b =
    let e : 2 * b + 1 ≡ suc (2 * b) = omega arith in
    rw e refl

pub state_two : (n b : ℕ) → state n (2 * b + 2) ≡ next_state (next_state (state n (2 * b)))
unfolding state
state_two n b =
    let e : 2 * b + 2 ≡ suc (suc (2 * b)) = omega arith in
    rw e refl

pub state_next : (n b : ℕ) → state n (2 * (b + 1)) ≡ next_state (next_state (state n (2 * b)))
state_next n b =
    let e : 2 * (b + 1) ≡ 2 * b + 2 = omega arith in
    rw e (state_two n b)

-- the row of one more limit, where x is the state before its draws
pub limit_row_more : (n b x d : ℕ) (v : ℤ) (out before after : List ℕ) → x ≡ state n (2 * b) → before ≡ out ++ limit_lines n b
    → d ≡ drawn (next_state (next_state x)) → v ≡ pos (54 + 9 * (d % 9)) → after ≡ before ++ row_line (codes "limit") b v
    → after ≡ out ++ limit_lines n (b + 1)
limit_row_more n b x d v out before after xs bs ds vs ts =
    let two = state_two n b in
    let draws : d ≡ drawn (state n (2 * b + 2)) = ds ∙ ap (λ (s : ℕ). drawn (next_state (next_state s))) xs ∙ ap drawn (sym two) in
    let value : v ≡ pos (limit n b) = vs ∙ ap (λ (d : ℕ). pos (54 + 9 * (d % 9))) draws in
    ts ∙ ap (λ (v : ℤ). before ++ row_line (codes "limit") b v) value ∙ ap (λ (t : List ℕ). t ++ limit_line n b) bs
    ∙ append_assoc out (limit_lines n b) (limit_line n b) ∙ ap (λ (t : List ℕ). out ++ t) (sym (limits_more n b))

-- the same of one more gradient
pub gradient_row_more : (n b x d : ℕ) (v : ℤ) (out before after : List ℕ) → x ≡ state n (2 * b) → before ≡ out ++ gradient_lines n b
    → d ≡ drawn (next_state x) → v ≡ pos (d % 101) -ℤ pos 50 → after ≡ before ++ row_line (codes "gradient") b v
    → after ≡ out ++ gradient_lines n (b + 1)
gradient_row_more n b x d v out before after xs bs ds vs ts =
    let one = state_one n b in
    let draws : d ≡ drawn (state n (2 * b + 1)) = ds ∙ ap (λ (s : ℕ). drawn (next_state s)) xs ∙ ap drawn (sym one) in
    let value : v ≡ gradient n b = vs ∙ ap (λ (d : ℕ). pos (d % 101) -ℤ pos 50) draws in
    ts ∙ ap (λ (v : ℤ). before ++ row_line (codes "gradient") b v) value ∙ ap (λ (t : List ℕ). t ++ gradient_line n b) bs
    ∙ append_assoc out (gradient_lines n b) (gradient_line n b) ∙ ap (λ (t : List ℕ). out ++ t) (sym (gradients_more n b))

-- the state after the draws of section b
pub state_after : (n b x y : ℕ) → x ≡ state n (2 * b) → y ≡ next_state (next_state x) → y ≡ state n (2 * (b + 1))
state_after n b x y xs ys = ys ∙ ap (λ (s : ℕ). next_state (next_state s)) xs ∙ sym (state_next n b)

-- four pieces behind a text
pub four_pieces : (o u v w x y a b c d e : List ℕ) → u ≡ o ++ a → v ≡ u ++ b → w ≡ v ++ c → x ≡ w ++ d → y ≡ x ++ e
    → y ≡ o ++ ((a ++ b ++ c ++ d) ++ e)
four_pieces o u v w x y a b c d e p q r s t =
    t ∙ ap (λ (z : List ℕ). z ++ e) (s ∙ ap (λ (z : List ℕ). z ++ d) (r ∙ ap (λ (z : List ℕ). z ++ c) (q ∙ ap (λ (z : List ℕ). z ++ b) p)))
    ∙ simp append_assoc
