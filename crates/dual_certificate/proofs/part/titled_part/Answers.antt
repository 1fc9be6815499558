use Rattle.std.proofs.Common.{◌≡◌, ◌∙◌, sym, ap, true, false, length, arith, ◌-◌}
use Rattle.std.specs.Str.{bytes_eq}
use Rattle.dual_certificate.specs.Part.{title_words}
use Rattle.dual_certificate.proofs.PartLaws.{line_passed, title_found, none_found}
use Rattle.dual_certificate.proofs.part.titled_part.Goals as goal

pub returns-then-eq : goal.returns-then-eq
returns-then-eq c =
    let line = c.in-Some.line.now in
    let same : bytes_eq line (title_words c.args.title) ≡ true = ap (bytes_eq line) (sym c.title_words-words.ensures) ∙ (sym c.eq.ensures ∙ c.if-eq.true) in
    sym (c.loop-line.invariant ∙ title_found c.args.title c.loop-line.rest.now (line, c.in-Some.behind.now) (sym c.in-Some.ensures) same)

pub loop-line-preserved : goal.loop-line-preserved
loop-line-preserved c =
    let line = c.in-Some.line.now in
    let other : bytes_eq line (title_words c.args.title) ≡ false = ap (bytes_eq line) (sym c.title_words-words.ensures) ∙ (sym c.eq.ensures ∙ c.if-eq.false) in
    c.loop-line.invariant ∙ line_passed c.args.title c.loop-line.rest.now (line, c.in-Some.behind.now) (sym c.in-Some.ensures) other

pub returns : goal.returns
returns c =
    let nothing : length c.args.report.now - length c.args.report.now ≡ 0 = omega arith in
    rw nothing (sym (c.loop-line.invariant ∙ none_found c.args.title c.loop-line.rest.now (sym c.in_default.ensures)))
