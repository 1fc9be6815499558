use Rattle.std.proofs.Common.{◌≡◌, ◌∙◌, sym, true, false, string_bytes}
use Rattle.std.specs.Str.{bytes_eq}
use Rattle.edge_io.proofs.Files.{file_end, file_here, file_past}
use Rattle.edge_io.proofs.memory_shelf.find_file.Goals as goal

pub returns-then-eq : goal.returns-then-eq
returns-then-eq c =
    let here : bytes_eq (string_bytes c.file-item.result.0) c.args.name.now ≡ true =
    rw c.as_str.ensures.value at (sym c.eq.ensures ∙ c.if-eq.true) in
    file_here c.args.files.now c.loop-file.file-index c.file-item.result c.args.name.now
    c.as_slice.result.now c.loop-file-test.true c.file-item.is here c.as_slice.ensures.value
    ∙ sym c.loop-file.invariant

pub loop-file-preserved : goal.loop-file-preserved
loop-file-preserved c =
    let past : bytes_eq (string_bytes c.file-item.result.0) c.args.name.now ≡ false =
    rw c.as_str.ensures.value at (sym c.eq.ensures ∙ c.if-eq.false) in
    c.loop-file.invariant
    ∙ file_past c.args.files.now c.loop-file.file-index c.file-item.result c.args.name.now c.loop-file-test.true
    (rw (← c.file-item.is) past)

pub returns : goal.returns
returns c = sym (c.loop-file.invariant ∙ file_end c.args.files.now c.loop-file.file-index c.args.name.now c.loop-file-test.false)
