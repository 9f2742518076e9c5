use Rattle.std.specs.Prelude.{◌≡◌, All, length, IsPermutation}
use Rattle.std.specs.List.{range_with_len}
use Rattle.std.proofs.Common.{◌∙◌, ap, subst}
use Rattle.std.proofs.lemmas.List.Sorted.{IsPermutation-refl}
use Rattle.tensor_map.specs.Entries.{IsEntry}
use Rattle.tensor_storage.specs.Columns.{AreColumns}
use Rattle.tensor_storage.proofs.Arranging.{arranged}
use Rattle.tensor_storage.proofs.entries.arrange.Goals as goal

pub returns-then-stand_in_order-clause-arranged : goal.returns-then-stand_in_order-clause-arranged
returns-then-stand_in_order-clause-arranged c =
    arranged c.args.format.now c.args.entries.now.list (range_with_len 0 (length c.args.entries.now.list)) c.requires.format
    (subst (λ n. All (IsEntry n) c.args.entries.now.list) c.requires.order c.len-count.ensures.entries.each) c.requires.increasing
    (IsPermutation-refl (range_with_len 0 (length c.args.entries.now.list))) (c.stand_in_order.ensures c.if-stand_in_order.true)

pub returns-clause-arranged : goal.returns-clause-arranged
returns-clause-arranged c =
    arranged c.args.format.now c.args.entries.now.list c.sort_numbers.new.numbers.items c.requires.format
    (subst (λ n. All (IsEntry n) c.args.entries.now.list) c.requires.order c.len-count.ensures.entries.each) c.requires.increasing
    (subst (λ xs. IsPermutation xs c.sort_numbers.new.numbers.items)
    (c.in_ok-numbers.ensures ∙ ap (range_with_len 0) c.len-count.ensures.value) c.in_ok-sort_numbers.ensures.moved)
    c.in_ok-sort_numbers.ensures.sorted

pub returns-clause-columns : goal.returns-clause-columns
returns-clause-columns c = λ numbers columns same.
    let is : AreColumns c.args.format.now c.args.entries.now.list c.sort_numbers.new.numbers.items c.in_ok-columns.columns =
    subst (λ ns. AreColumns c.args.format.now c.args.entries.now.list ns c.in_ok-columns.columns) c.deref.ensures.value
    c.in_ok-columns.ensures in
    let numbers_same : c.sort_numbers.new.numbers ≡ numbers = cc in
    let columns_same : c.in_ok-columns.columns ≡ columns = cc in
    subst (λ ns. AreColumns c.args.format.now c.args.entries.now.list ns columns) (ap (λ ns. ns.items) numbers_same)
    (subst (AreColumns c.args.format.now c.args.entries.now.list c.sort_numbers.new.numbers.items) columns_same is)
