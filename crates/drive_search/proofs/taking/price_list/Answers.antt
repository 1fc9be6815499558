use Rattle.std.proofs.Common.{arith, ℕ, zero, suc, ◌+◌, ◌≤◌, ◌++◌, ◌∷◌, ◌^◌, [], List, get_or, ap, ◌∙◌, length-append}
use Rattle.drive_search.proofs.taking.price_list.Goals as goal

-- one more price in range leaves all in range
push_low : (xs : List ℕ) (x b : ℕ) → ((k : ℕ) → get_or xs k 0 ≤ b) → x ≤ b → (k : ℕ) → get_or (xs ++ x ∷ []) k 0 ≤ b
push_low [] x b h p zero = p
push_low [] x b h p (suc k) = h k
push_low (y ∷ ys) x b h p zero = h 0
push_low (y ∷ ys) x b h p (suc k) = push_low ys x b (λ j. h (suc j)) p k

pub loop-j-preserved : goal.loop-j-preserved
loop-j-preserved c = rw c.in_ok-push.ensures.items record {
  count = length-append c.loop-j.list.items (c.min.result ∷ []) ∙ ap (λ (n : ℕ). n + 1) c.loop-j.invariant.count;
  in_range = push_low c.loop-j.list.items c.min.result (2 ^ 50) c.loop-j.invariant.in_range (omega (arith, c.min.ensures));
}
