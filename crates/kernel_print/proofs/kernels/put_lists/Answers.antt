use Rattle.std.specs.Prelude.{◌≡◌, ◌+◌, ◌-◌}
use Rattle.std.proofs.Common.{ap, arith}
use Rattle.kernel_print.specs.Text.{lists_text}
use Rattle.kernel_print.proofs.Loops.{none_so_far, more_so_far, all_so_far, rest_told, then_rest, lists_step}
use Rattle.text_lines.proofs.PutPieces.{refused}
use Rattle.kernel_print.proofs.kernels.put_lists.Goals as goal

pub loop-list-init : goal.loop-list-init
loop-list-init g c =
    let all : c.args.count ≡ c.args.count - 0 = omega arith in
    rest_told _ _ _ _ _ (ap (lists_text 0) all) (none_so_far _ (lists_text 0 c.args.count))

pub loop-list-preserved : goal.loop-list-preserved
loop-list-preserved g c =
    more_so_far _ _ _ _ _ _
    (rest_told _ _ _ _ _ (lists_step c.args.count c.loop-list.list c.loop-list-test.true) c.loop-list.invariant)
    c.in_ok-put_name.ensures

pub returns-in_err-put_name : goal.returns-in_err-put_name
returns-in_err-put_name g c =
    then_rest _ _ _ _ _ _ (rest_told _ _ _ _ _ (lists_step c.args.count c.loop-list.list c.loop-list-test.true) c.loop-list.invariant)
    (refused c.from_residual.result c.in_err-put_name.field-0.0 _ _ _
    (lists_text (c.loop-list.list + 1) (c.args.count - (c.loop-list.list + 1))) c.from_residual.ensures.1 c.in_err-put_name.ensures)

pub returns : goal.returns
returns g c =
    let none : c.args.count - c.loop-list.list ≡ 0 = omega arith in
    all_so_far _ _ _ _ (ap (lists_text c.loop-list.list) none) c.loop-list.invariant
