-- What one more row adds to a line or a service: the laws of `RowFile` that the reader counts on.
use Rattle.std.proofs.Common.{◌≡◌, ◌++◌, ◌∷◌, List, [], refl}
use Rattle.std.specs.Result.{result_ok}
use Rattle.std.proofs.lemmas.List.Elements.{filter_map-append}
use Rattle.line_file.specs.Rows.{Fields}
use Rattle.line_file.specs.LineText as line
use Rattle.line_file.specs.ServiceText as service

pub line_from-push : (rows : List Fields) (r : Fields) → line.line_from (rows ++ r ∷ []) ≡ line.with_row (line.line_from rows) (line.row_of r)
line_from-push rows r =
    let limits = filter_map-append (λ (f : Fields). line.limit_in (line.row_of f)) rows (r ∷ []) in
    let gradients = filter_map-append (λ (f : Fields). line.gradient_in (line.row_of f)) rows (r ∷ []) in
    rw (limits, gradients) refl

pub service_from-push : (rows : List Fields) (r : Fields) → service.service_from (rows ++ r ∷ []) ≡ service.with_row (service.service_from rows) (service.call_of r)
service_from-push rows r =
    let calls = filter_map-append (λ (f : Fields). result_ok (service.call_of f)) rows (r ∷ []) in
    rw calls refl
