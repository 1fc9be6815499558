use Rattle.std.proofs.Common.{refl, rules, ◌≡◌, drop, List, ℕ, ℤ, Option}
use Rattle.std.specs.Prelude.{codes}
use Rattle.rail_base.specs.Lines.{size}
use Rattle.route_file.specs.Route.{is_one, is_train, train_numbers}
use Rattle.route_file.proofs.RouteHeading.{unless-ok, taken, line_good, line_bad}
use Rattle.route_file.proofs.heading.read_heading.Goals as goal

-- the first number of a line
abbrev one : Option (List ℤ) → ℕ
one ns = size ns 0

pub returns-in_err-top-clause-value : goal.returns-in_err-top-clause-value
returns-in_err-top-clause-value c =
    let ls = c.args.lines.now in
    let title = unless-ok _ _ _ c.in_ok-read_title.ensures.title in
    let after-1 = c.read_title.ensures.rest in
    let train = line_good ls _ 1 (codes "train ") 5 2 is_train train_numbers _ after-1 c.in_ok-train.ensures.value in
    let after-2 : c.read_train_line.new.lines ≡ drop 2 ls = taken ls _ _ 1 after-1 c.read_train_line.ensures.rest in
    let top = line_bad ls _ 2 (codes "top ") 1 3 (is_one 1 12000) one _ after-2 c.in_err-top.ensures.value in
    rw (title.0, train.0, top) (search rules)

pub returns-in_err-traction-clause-value : goal.returns-in_err-traction-clause-value
returns-in_err-traction-clause-value c =
    let ls = c.args.lines.now in
    let title = unless-ok _ _ _ c.in_ok-read_title.ensures.title in
    let after-1 = c.read_title.ensures.rest in
    let train = line_good ls _ 1 (codes "train ") 5 2 is_train train_numbers _ after-1 c.in_ok-train.ensures.value in
    let after-2 : c.read_train_line.new.lines ≡ drop 2 ls = taken ls _ _ 1 after-1 c.read_train_line.ensures.rest in
    let top = line_good ls _ 2 (codes "top ") 1 3 (is_one 1 12000) one _ after-2 c.in_ok-top.ensures.value in
    let after-3 : c.read_one.new.lines ≡ drop 3 ls = taken ls _ _ 2 after-2 c.read_one.ensures.rest in
    let traction = line_bad ls _ 3 (codes "traction ") 1 4 (is_one 0 2000000) one _ after-3 c.in_err-traction.ensures.value in
    rw (title.0, train.0, top.0, traction) (search rules)

pub returns-in_err-brake-clause-value : goal.returns-in_err-brake-clause-value
returns-in_err-brake-clause-value c =
    let ls = c.args.lines.now in
    let title = unless-ok _ _ _ c.in_ok-read_title.ensures.title in
    let after-1 = c.read_title.ensures.rest in
    let train = line_good ls _ 1 (codes "train ") 5 2 is_train train_numbers _ after-1 c.in_ok-train.ensures.value in
    let after-2 : c.read_train_line.new.lines ≡ drop 2 ls = taken ls _ _ 1 after-1 c.read_train_line.ensures.rest in
    let top = line_good ls _ 2 (codes "top ") 1 3 (is_one 1 12000) one _ after-2 c.in_ok-top.ensures.value in
    let after-3 : c.read_one.new.lines ≡ drop 3 ls = taken ls _ _ 2 after-2 c.read_one.ensures.rest in
    let traction = line_good ls _ 3 (codes "traction ") 1 4 (is_one 0 2000000) one _ after-3 c.in_ok-traction.ensures.value in
    let after-4 : c.read_one-2.new.lines ≡ drop 4 ls = taken ls _ _ 3 after-3 c.read_one-2.ensures.rest in
    let brake = line_bad ls _ 4 (codes "brake ") 1 5 (is_one 0 2000000) one _ after-4 c.in_err-brake.ensures.value in
    rw (title.0, train.0, top.0, traction.0, brake) (search rules)

pub returns-in_err-latest-clause-value : goal.returns-in_err-latest-clause-value
returns-in_err-latest-clause-value c =
    let ls = c.args.lines.now in
    let title = unless-ok _ _ _ c.in_ok-read_title.ensures.title in
    let after-1 = c.read_title.ensures.rest in
    let train = line_good ls _ 1 (codes "train ") 5 2 is_train train_numbers _ after-1 c.in_ok-train.ensures.value in
    let after-2 : c.read_train_line.new.lines ≡ drop 2 ls = taken ls _ _ 1 after-1 c.read_train_line.ensures.rest in
    let top = line_good ls _ 2 (codes "top ") 1 3 (is_one 1 12000) one _ after-2 c.in_ok-top.ensures.value in
    let after-3 : c.read_one.new.lines ≡ drop 3 ls = taken ls _ _ 2 after-2 c.read_one.ensures.rest in
    let traction = line_good ls _ 3 (codes "traction ") 1 4 (is_one 0 2000000) one _ after-3 c.in_ok-traction.ensures.value in
    let after-4 : c.read_one-2.new.lines ≡ drop 4 ls = taken ls _ _ 3 after-3 c.read_one-2.ensures.rest in
    let brake = line_good ls _ 4 (codes "brake ") 1 5 (is_one 0 2000000) one _ after-4 c.in_ok-brake.ensures.value in
    let after-5 : c.read_one-3.new.lines ≡ drop 5 ls = taken ls _ _ 4 after-4 c.read_one-3.ensures.rest in
    let latest = line_bad ls _ 5 (codes "latest ") 1 6 (is_one 0 172800) one _ after-5 c.in_err-latest.ensures.value in
    rw (title.0, train.0, top.0, traction.0, brake.0, latest) (search rules)

pub returns-clause-value : goal.returns-clause-value
returns-clause-value c =
    let ls = c.args.lines.now in
    let title = unless-ok _ _ _ c.in_ok-read_title.ensures.title in
    let after-1 = c.read_title.ensures.rest in
    let train = line_good ls _ 1 (codes "train ") 5 2 is_train train_numbers _ after-1 c.in_ok-train.ensures.value in
    let after-2 : c.read_train_line.new.lines ≡ drop 2 ls = taken ls _ _ 1 after-1 c.read_train_line.ensures.rest in
    let top = line_good ls _ 2 (codes "top ") 1 3 (is_one 1 12000) one _ after-2 c.in_ok-top.ensures.value in
    let after-3 : c.read_one.new.lines ≡ drop 3 ls = taken ls _ _ 2 after-2 c.read_one.ensures.rest in
    let traction = line_good ls _ 3 (codes "traction ") 1 4 (is_one 0 2000000) one _ after-3 c.in_ok-traction.ensures.value in
    let after-4 : c.read_one-2.new.lines ≡ drop 4 ls = taken ls _ _ 3 after-3 c.read_one-2.ensures.rest in
    let brake = line_good ls _ 4 (codes "brake ") 1 5 (is_one 0 2000000) one _ after-4 c.in_ok-brake.ensures.value in
    let after-5 : c.read_one-3.new.lines ≡ drop 5 ls = taken ls _ _ 4 after-4 c.read_one-3.ensures.rest in
    let latest = line_good ls _ 5 (codes "latest ") 1 6 (is_one 0 172800) one _ after-5 c.in_ok-latest.ensures.value in
    rw (title.0, train.0, top.0, traction.0, brake.0, latest.0, train.1, top.1, traction.1, brake.1, latest.1) refl

pub returns-clause-rest : goal.returns-clause-rest
returns-clause-rest c =
    let ls = c.args.lines.now in
    let after-1 = c.read_title.ensures.rest in
    let after-2 : c.read_train_line.new.lines ≡ drop 2 ls = taken ls _ _ 1 after-1 c.read_train_line.ensures.rest in
    let after-3 : c.read_one.new.lines ≡ drop 3 ls = taken ls _ _ 2 after-2 c.read_one.ensures.rest in
    let after-4 : c.read_one-2.new.lines ≡ drop 4 ls = taken ls _ _ 3 after-3 c.read_one-2.ensures.rest in
    let after-5 : c.read_one-3.new.lines ≡ drop 5 ls = taken ls _ _ 4 after-4 c.read_one-3.ensures.rest in
    taken ls _ _ 5 after-5 c.read_one-4.ensures.rest
