use Rattle.loop_flags.proofs.FlagLaws.{first_of_product, second_of_product, both_of_product}
use Rattle.loop_flags.proofs.liveness.in_product.Goals as goal

pub returns-then-is_number : goal.returns-then-is_number
returns-then-is_number c =
    second_of_product c.args.places.now c.args.told.now c.args.first.now c.args.second.now c.args.in_first c.args.in_second
    c.in_ok-flag.flag (c.is_number.ensures c.if-is_number.true) c.in_ok-flag.ensures

pub returns-then-is_number-2 : goal.returns-then-is_number-2
returns-then-is_number-2 c =
    first_of_product c.args.places.now c.args.told.now c.args.first.now c.args.second.now c.args.in_first c.args.in_second
    c.in_ok-flag-2.flag (c.is_number-2.ensures c.if-is_number-2.true) c.in_ok-flag-2.ensures

pub returns : goal.returns
returns c =
    both_of_product c.args.places.now c.args.told.now c.args.first.now c.args.second.now c.args.in_first c.args.in_second c.in_ok-one.one
    c.in_ok-left.left c.in_ok-all.all c.in_ok-one.ensures c.in_ok-left.ensures c.in_ok-all.ensures
