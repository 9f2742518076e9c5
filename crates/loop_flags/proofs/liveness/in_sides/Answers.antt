use Rattle.std.specs.Prelude.{IfOk}
use Rattle.std.proofs.Common.{sym, ap, subst}
use Rattle.index_notation.specs.Operators.{is_product}
use Rattle.loop_flags.specs.Flags.{TellsEither, TellsSides}
use Rattle.loop_flags.proofs.FlagLaws.{if_flag, either_of_sides}
use Rattle.loop_flags.proofs.liveness.in_sides.Goals as goal

pub returns-in-Add : goal.returns-in-Add
returns-in-Add c =
    let places = c.args.places.now in
    let told = c.args.told.now in
    let e = c.args.first.now in
    let f = c.args.second.now in
    let x = c.args.in_first in
    let y = c.args.in_second in
    if_flag c.either.result (TellsEither x y) (TellsSides places told c.args.operator e f x y)
    (λ flag w. either_of_sides places told e f x y c.args.operator flag (ap is_product c.in-Add.is) w) c.either.ensures

pub returns-in-Sub : goal.returns-in-Sub
returns-in-Sub c =
    let places = c.args.places.now in
    let told = c.args.told.now in
    let e = c.args.first.now in
    let f = c.args.second.now in
    let x = c.args.in_first in
    let y = c.args.in_second in
    if_flag c.either-in-Sub.result (TellsEither x y) (TellsSides places told c.args.operator e f x y)
    (λ flag w. either_of_sides places told e f x y c.args.operator flag (ap is_product c.in-Sub.is) w) c.either-in-Sub.ensures

pub returns-in-Mul : goal.returns-in-Mul
returns-in-Mul c =
    subst (λ o. IfOk c.in_product.result (TellsSides c.args.places.now c.args.told.now o c.args.first.now c.args.second.now c.args.in_first
    c.args.in_second)) (sym c.in-Mul.is) c.in_product.ensures
