-- The greater and the lesser of two drives are drives.
use Rattle.std.proofs.Common.{ℕ, ◌≤◌, ◌≡◌, ◌+◌, ◌∙◌, List, get_or, max, min, inl, inr, arith}
use Rattle.std.specs.Prelude.{slice_index}
use Rattle.std.proofs.lemmas.Int.{ints}
use Rattle.std.proofs.lemmas.Bool.{cases_lt}
use Rattle.rule_parts.specs.Shaped.{IsShaped}
use Rattle.speed_envelopes.specs.Bounds.{Setting}
use Rattle.speed_envelopes.specs.Levels.{IsLevelStep}
use Rattle.speed_envelopes.specs.Closure.{GreaterIsDrive, LesserIsDrive, GreaterIsNarrowDrive, LesserIsNarrowDrive}
use Rattle.speed_envelopes.specs.declared.bounds.End.TheVariants.{Exit, Entry}
use Rattle.speed_envelopes.proofs.Parts.{asks-rises, gives-rises}
use Rattle.speed_envelopes.proofs.Drives.{greatest_of, capped_drive, levels_of_drive, drive_of_levels, narrow_drive}

greater_step : (s : Setting) (i : ℕ) (a b c : List ℕ) → IsShaped s.rules → ((k : ℕ) → get_or c k 0 ≡ max (get_or a k 0) (get_or b k 0)) → IsLevelStep s a i → IsLevelStep s b i → IsLevelStep s c i
greater_step s i a b c h m p q = record {
  exit = elim (cases_lt (get_or a (i + 1) 0) (get_or b (i + 1) 0)) [
    | inl less ↦ (let e : get_or c (i + 1) 0 ≡ get_or b (i + 1) 0 = omega (arith, m (i + 1)) in
        rw e (omega (arith, ints, q.exit, gives-rises s Exit i (get_or b i 0) (get_or c i 0) h (omega (arith, m i)))))
    | inr more ↦ (let e : get_or c (i + 1) 0 ≡ get_or a (i + 1) 0 = omega (arith, m (i + 1)) in
        rw e (omega (arith, ints, p.exit, gives-rises s Exit i (get_or a i 0) (get_or c i 0) h (omega (arith, m i)))))
  ];
  entry = elim (cases_lt (get_or a i 0) (get_or b i 0)) [
    | inl less ↦ (let e : get_or c i 0 ≡ get_or b i 0 = omega (arith, m i) in
        rw e (omega (arith, ints, q.entry, gives-rises s Entry i (get_or b (i + 1) 0) (get_or c (i + 1) 0) h (omega (arith, m (i + 1))))))
    | inr more ↦ (let e : get_or c i 0 ≡ get_or a i 0 = omega (arith, m i) in
        rw e (omega (arith, ints, p.entry, gives-rises s Entry i (get_or a (i + 1) 0) (get_or c (i + 1) 0) h (omega (arith, m (i + 1))))))
  ];
}

lesser_step : (s : Setting) (i : ℕ) (a b c : List ℕ) → IsShaped s.rules → ((k : ℕ) → get_or c k 0 ≡ min (get_or a k 0) (get_or b k 0)) → IsLevelStep s a i → IsLevelStep s b i → IsLevelStep s c i
lesser_step s i a b c h m p q = record {
  exit = elim (cases_lt (get_or a i 0) (get_or b i 0)) [
    | inl less ↦ (let e : get_or c i 0 ≡ get_or a i 0 = omega (arith, m i) in
        rw e (omega (arith, ints, p.exit, asks-rises s Exit i (get_or c (i + 1) 0) (get_or a (i + 1) 0) h (omega (arith, m (i + 1))))))
    | inr more ↦ (let e : get_or c i 0 ≡ get_or b i 0 = omega (arith, m i) in
        rw e (omega (arith, ints, q.exit, asks-rises s Exit i (get_or c (i + 1) 0) (get_or b (i + 1) 0) h (omega (arith, m (i + 1))))))
  ];
  entry = elim (cases_lt (get_or a (i + 1) 0) (get_or b (i + 1) 0)) [
    | inl less ↦ (let e : get_or c (i + 1) 0 ≡ get_or a (i + 1) 0 = omega (arith, m (i + 1)) in
        rw e (omega (arith, ints, p.entry, asks-rises s Entry i (get_or c i 0) (get_or a i 0) h (omega (arith, m i)))))
    | inr more ↦ (let e : get_or c (i + 1) 0 ≡ get_or b (i + 1) 0 = omega (arith, m (i + 1)) in
        rw e (omega (arith, ints, q.entry, asks-rises s Entry i (get_or c i 0) (get_or b i 0) h (omega (arith, m i)))))
  ];
}

pub greater_is_narrow_drive : GreaterIsNarrowDrive
greater_is_narrow_drive r n a b c s d e g =
    let p = capped_drive r n a s d in
    let q = capped_drive r n b s e in
    let x = levels_of_drive r n a s d in
    let y = levels_of_drive r n b s e in
    let top : (k : ℕ) → slice_index c k ≤ r.top = λ k. omega (arith, g.each k, p.top k, q.top k) in
    drive_of_levels r n c s record {
      count = g.count ∙ p.count;
      start = omega (arith, g.each 0, p.start, q.start);
      stops = λ k l m. omega (arith, g.each k, p.stops k l m, q.stops k l m);
      limits = λ i l. (omega (arith, g.each i, (p.limits i l).0, (q.limits i l).0), omega (arith, g.each (i + 1), (p.limits i l).1, (q.limits i l).1));
      top = top;
      cap = λ k. omega (arith, g.each k, p.cap k, q.cap k);
    } record {
      floored = record { count = g.count ∙ p.count; floors = λ k l. omega (arith, g.each k, x.floored.floors k l); top = top };
      steps = λ i l. greater_step (greatest_of r n) i a b c s g.each (x.steps i l) (y.steps i l);
    }

pub lesser_is_narrow_drive : LesserIsNarrowDrive
lesser_is_narrow_drive r n a b c s d e g =
    let p = capped_drive r n a s d in
    let x = levels_of_drive r n a s d in
    let y = levels_of_drive r n b s e in
    let below : (k : ℕ) → slice_index c k ≤ slice_index a k = λ k. omega (arith, g.each k) in
    drive_of_levels r n c s record {
      count = g.count ∙ p.count;
      start = omega (arith, below 0, p.start);
      stops = λ k l m. omega (arith, below k, p.stops k l m);
      limits = λ i l. (omega (arith, below i, (p.limits i l).0), omega (arith, below (i + 1), (p.limits i l).1));
      top = λ k. omega (arith, below k, p.top k);
      cap = λ k. omega (arith, below k, p.cap k);
    } record {
      floored = record { count = g.count ∙ p.count; floors = λ k l. omega (arith, g.each k, x.floored.floors k l, y.floored.floors k l); top = λ k. omega (arith, below k, p.top k) };
      steps = λ i l. lesser_step (greatest_of r n) i a b c s g.each (x.steps i l) (y.steps i l);
    }

pub greater_is_drive : GreaterIsDrive
greater_is_drive r a b c s d e g = (greater_is_narrow_drive r _ a b c s (narrow_drive r a s d) (narrow_drive r b s e) g).drive

pub lesser_is_drive : LesserIsDrive
lesser_is_drive r a b c s d e g = (lesser_is_narrow_drive r _ a b c s (narrow_drive r a s d) (narrow_drive r b s e) g).drive
