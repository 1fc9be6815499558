use Rattle.std.proofs.Common.{◌<◌, ◌+◌, arith, length, ap, sym, subst}
use Rattle.std.specs.Prelude.{List, slice_index_or}
use Rattle.dual_certificate.specs.declared.certificate.CertCell.{CertCell}
use Rattle.dual_certificate.specs.Contents.{first_of, no_cert_cell}
use Rattle.certificate_checker.proofs.PointLemmas.{first_rises}
use Rattle.certificate_checker.proofs.links.cell_at.Goals as goal

pub overflow_sub-last : goal.overflow_sub-last
overflow_sub-last c =
    let same = c.items-cells.ensures in
    let up : first_of c.args.point.now c.args.c < first_of c.args.point.now (c.args.c + 1) = first_rises c.args.point.now c.args.c c.requires.point (omega (arith, ap length same, c.if-c-cells.true)) in
    let up_read = subst (λ (cs : List CertCell). (slice_index_or cs c.args.c no_cert_cell).first < (slice_index_or cs (c.args.c + 1) no_cert_cell).first) (sym same) up in
    omega (arith, up_read)
