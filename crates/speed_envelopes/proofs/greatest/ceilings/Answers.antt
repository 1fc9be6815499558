use Rattle.std.proofs.Common.{arith, ℕ, ◌+◌, ◌<◌, ◌≡◌, ◌++◌, ◌∷◌, [], List, length, get_or, inl, inr, sym, ap, ◌∙◌, subst, length-append}
use Rattle.std.proofs.Math.ListN.{get_or-append}
use Rattle.std.proofs.Math.Seq.{get_or-append_seam}
use Rattle.std.proofs.lemmas.Bool.{cases_lt}
use Rattle.speed_envelopes.specs.Capped.{IsCeiling}
use Rattle.speed_envelopes.proofs.Drives.{capped_by, above_by}
use Rattle.speed_envelopes.proofs.greatest.ceilings.Goals as goal

push_each : (xs : List ℕ) (x k : ℕ) (P : ℕ → ℕ → Type 0) → length xs ≡ k → ((j : ℕ) → j < k → P j (get_or xs j 0)) → P k x → (j : ℕ) → j < k + 1 → P j (get_or (xs ++ x ∷ []) j 0)
push_each xs x k P c h p j l = elim (cases_lt j k) [
  | inl m ↦ rw (get_or-append xs (x ∷ []) 0 j (omega arith)) (h j m)
  | inr m ↦ (let e : j ≡ k = omega arith in
      subst (λ (i : ℕ). P i (get_or (xs ++ x ∷ []) i 0)) (c ∙ sym e)
      (rw (get_or-append_seam xs x [] 0) (subst (λ (i : ℕ). P i x) (sym c) p)))
]

pub loop-k-preserved : goal.loop-k-preserved
loop-k-preserved c = rw c.in_ok-push.ensures.items record {
  count = length-append c.loop-k.speeds.items (c.ceiling.result ∷ []) ∙ ap (λ (n : ℕ). n + 1) c.loop-k.invariant.count;
  each = push_each c.loop-k.speeds.items c.ceiling.result c.loop-k.k (IsCeiling c.args.rules.now c.args.narrow.now) c.loop-k.invariant.count c.loop-k.invariant.each c.ceiling.ensures;
}

pub returns-clause-capped : goal.returns-clause-capped
returns-clause-capped c =
    capped_by c.args.rules.now c.args.narrow.now c.loop-k.speeds.items (omega (arith, c.loop-k.invariant.count)) (λ k l. c.loop-k.invariant.each k (omega (arith, c.loop-k.invariant.count)))

pub returns-clause-above : goal.returns-clause-above
returns-clause-above c =
    above_by c.args.rules.now c.args.narrow.now c.loop-k.speeds.items (omega (arith, c.loop-k.invariant.count)) (λ k l. c.loop-k.invariant.each k (omega (arith, c.loop-k.invariant.count)))
