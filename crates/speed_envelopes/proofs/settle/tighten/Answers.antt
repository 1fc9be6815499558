use Rattle.std.proofs.Common.{Bool, None, Some, Option}
use Rattle.std.specs.Prelude.{IfSome, IfNone}
use Rattle.speed_envelopes.specs.declared.bounds.End.TheVariants.{Exit, Entry}
use Rattle.speed_envelopes.proofs.Lowering.{covers, none_below, tightened}
use Rattle.speed_envelopes.proofs.settle.tighten.Goals as goal

pub returns-in_default-clause-none : goal.returns-in_default-clause-none
returns-in_default-clause-none c = λ from h. none_below c.args.bounds.now Exit c.args.i from c.args.levels.now c.known.ensures c.requires.step c.in_default.ensures.none h

if_some : (o : Option Bool) (P Q : Bool → Type 0) → ((b : Bool) → P b → Q b) → IfSome o P → IfSome o Q
if_some (Some b) P Q f h = f b h
if_some None P Q f h = h

if_none : (o : Option Bool) (P Q : Type 0) → (P → Q) → IfNone o P → IfNone o Q
if_none (Some b) P Q f h = h
if_none None P Q f h = f h

pub returns : goal.returns
returns c =
    let s = c.args.bounds.now in
    record {
      some = if_some c.lower-2.result _ _ (λ moved h. tightened s c.args.i c.args.levels.now c.lower.new.levels c.lower-2.new.levels _ moved c.known.ensures c.requires.step c.requires.floored c.in-Some.ensures.some h) c.lower-2.ensures.some;
      none = if_none c.lower-2.result _ _ (λ h from k. none_below s Entry c.args.i from c.lower.new.levels c.known.ensures c.requires.step h
          (covers s Exit c.args.i from c.args.levels.now c.lower.new.levels _ c.known.ensures c.requires.step c.in-Some.ensures.some k)) c.lower-2.ensures.none;
    }
