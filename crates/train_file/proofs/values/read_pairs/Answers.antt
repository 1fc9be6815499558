use Rattle.std.proofs.Common.{◌≡◌, ◌<◌, ◌≤◌, sym, length, ap, rules, true}
use Rattle.std.specs.Result.{is_ok}
use Rattle.toml.specs.View.{items_view}
use Rattle.train_file.specs.TrainText.{of_kind, pairs_of}
use Rattle.train_file.proofs.Reading.{pairs_end, pairs_more, pairs_wrong}
use Rattle.train_file.proofs.values.read_pairs.Goals as goal

pub returns-in_default : goal.returns-in_default
returns-in_default c other =
    let vs = c.args.array.now.items in
    let i = c.loop-value.value-index in
    let e = c.deref-value-items.ensures.value in
    let item = rw e at c.value-item.is in
    let within : i < length vs = rw e at c.loop-value-test.true in
    let pair = rw c.in_default.is at c.read_pair.ensures in
    let none = pairs_wrong vs i c.value-item.result c.loop-value.pairs.items (pairs_of (items_view vs)) within c.loop-value.invariant (rw item at pair) in
    sym (ap (of_kind c.args.key) none)

pub loop-value-preserved : goal.loop-value-preserved
loop-value-preserved c =
    let vs = c.args.array.now.items in
    let i = c.loop-value.value-index in
    let e = c.deref-value-items.ensures.value in
    let item = rw e at c.value-item.is in
    let within : i < length vs = rw e at c.loop-value-test.true in
    let pair = rw c.in-Some.is at c.read_pair.ensures in
    let good : is_ok c.push.result ≡ true = search rules in
    let items = rw good at c.push.ensures.items in
    rw items (pairs_more vs i c.value-item.result c.loop-value.pairs.items c.in-Some.pair (pairs_of (items_view vs)) within c.loop-value.invariant (rw item at pair))

pub returns : goal.returns
returns c other =
    let vs = c.args.array.now.items in
    let e = c.deref-value-items.ensures.value in
    let past : length vs ≤ c.loop-value.value-index = rw e at c.loop-value-test.false in
    sym (ap (of_kind c.args.key) (pairs_end vs c.loop-value.value-index c.loop-value.pairs.items (pairs_of (items_view vs)) past c.loop-value.invariant))
