-- Which condition of a certificate fails first.
use Rattle.std.specs.Prelude.{◌≡◌, ℕ, ◌+◌, ◌==◌, ◌&&◌, Bool, true, false, ℤ, pos, ◌-ℤ◌, List, Option, Some, None, Result, Ok, Err, option_map, length, slice_index}
use Rattle.std.specs.Option.{option_or}
use Rattle.std.specs.Int.RustNames.{int_le}
use Rattle.std.specs.Ordering.{int_eq}
use Rattle.bound_specs.specs.declared.Cell.{Cell}
use Rattle.bound_specs.specs.Chains.{plus}
use Rattle.bound_specs.specs.Links.{Pricing, low_cost}
use Rattle.bound_specs.specs.Prices.{priced_slack}
use Rattle.rail_base.specs.First.{first_below}
use Rattle.rail_specs.specs.Rules.{Rules}
use Rattle.rail_specs.specs.Cost.{cost_of}
use Rattle.drive_rules.specs.Verdict.{verdict}
use Rattle.dual_certificate.specs.declared.certificate.CertPoint.{CertPoint}
use Rattle.dual_certificate.specs.declared.certificate.Certificate.{Certificate}
use Rattle.certificate_checker.specs.declared.refused.Field.TheVariants as field
use Rattle.certificate_checker.specs.declared.refused.Refused.{Refused}
use Rattle.certificate_checker.specs.declared.refused.Refused.TheVariants.{Number, Drive, Cells, Potential, NoMemory}
use Rattle.dual_certificate.specs.Contents.{speeds_of, first_of, cell_of, value_of, point_at}
use Rattle.certificate_checker.specs.Contents.{prices_in, pricing_in}

-- a test, and what is refused where it fails
abbrev pub unless_so : Bool → Refused → Option Refused
unless_so true refused = None
unless_so false refused = Some refused

-- a number is at most another; none stands above every number
abbrev pub is_at_most : Option ℤ → Option ℤ → Bool
is_at_most p None = true
is_at_most None (Some q) = false
is_at_most (Some p) (Some q) = int_le p q

-- a number is there and is this one
abbrev pub is_number : Option ℤ → ℤ → Bool
is_number None n = false
is_number (Some p) n = int_eq p n

-- the conditions that come before the cells, in their order: counts, the drive, its energy
abbrev pub counts_refusal : Rules → Certificate → Option Refused
counts_refusal r c =
    option_or (unless_so (length c.points == length r.steps + 1) (Number field.Points)) (unless_so (length c.prices == length r.timings) (Number field.Prices))

abbrev pub drive_refusal : (ℤ → ℤ) → Rules → Certificate → Option Refused
drive_refusal cost r c =
    option_or (option_map (λ broken. Drive broken.0 broken.1) (verdict r (speeds_of c))) (unless_so (int_eq c.energy (cost_of cost r (speeds_of c))) (Number field.Energy))

abbrev pub early_refusal : (ℤ → ℤ) → Rules → Certificate → Option Refused
early_refusal cost r c = option_or (counts_refusal r c) (drive_refusal cost r c)

-- the cells of point k run from the least to the greatest speed there; they lie side by side as they are spelled
abbrev pub cells_refusal : List ℕ → List ℕ → List CertPoint → ℕ → Option Refused
cells_refusal least greatest points k =
    unless_so ((first_of (point_at points k) 0 == slice_index least k) && ((point_at points k).greatest == slice_index greatest k)) (Cells k)

-- the link over step k from cell a, with its potential, to cell b of the next point
abbrev pub link_refusal : Pricing → ℕ → ℕ → Cell → Option ℤ → CertPoint → ℕ → Option Refused
link_refusal p k a cell value next b = unless_so (is_at_most value (plus (low_cost p k cell (cell_of next b)) (value_of next b))) (Potential k a b)

-- the links from cell a of a point, and those from all cells of point k
abbrev pub links_from : Pricing → ℕ → CertPoint → CertPoint → ℕ → Option Refused
links_from p k point next a = first_below (link_refusal p k a (cell_of point a) (value_of point a) next) (length next.cells)

abbrev pub links_over : Pricing → List CertPoint → ℕ → Option Refused
links_over p points k = first_below (links_from p k (point_at points k) (point_at points (k + 1))) (length (point_at points k).cells)

-- the potential of the last point isn't 0
abbrev pub end_refusal : List CertPoint → ℕ → Option Refused
end_refusal points n = unless_so (is_number (value_of (point_at points n) 0) (pos 0)) (Potential n 0 0)

-- the bound isn't the first potential less what the prices charge for the slack
abbrev pub bound_refusal : Certificate → ℤ → Option Refused
bound_refusal c slack = unless_so (is_number (option_map (λ q. q -ℤ slack) (value_of (point_at c.points 0) 0)) c.bound) (Number field.Bound)

-- the conditions on cells, potentials and bound, in their order, where the drives have these least and greatest speeds
abbrev pub late_refusal : (ℤ → ℤ) → Rules → Certificate → List ℕ → List ℕ → Option Refused
late_refusal cost r c least greatest =
    option_or (first_below (cells_refusal least greatest c.points) (length r.steps + 1))
    (option_or (first_below (links_over (pricing_in cost r c) c.points) (length r.steps))
    (option_or (end_refusal c.points (length r.steps)) (bound_refusal c (priced_slack r (prices_in r c)))))

-- an answer is this refusal, or none where there is none; memory may run out
abbrev pub Refuses : {A : Type 0} → Result A Refused → Option Refused → Type 0
Refuses (Ok x) first = first ≡ None
Refuses (Err NoMemory) first = Unit {0}
Refuses (Err e) first = first ≡ Some e
