use Rattle.std.specs.Prelude.{if◌then◌else◌, [], ◌∷◌, length, slice_get}
use Rattle.std.proofs.Common.{◌∙◌, sym, ap, subst}
use Rattle.grouped_kernels.specs.Workspaces.{BeginsEmpty}
use Rattle.grouped_kernels.proofs.Workspaces.{pair_workspace, pairs_begin}
use Rattle.pair_workspaces.specs.Sinks.{pair_sink}
use Rattle.pair_workspaces.specs.declared.sink.PairSink.{PairSink}
use Rattle.row_orders.proofs.Lists.{apart_test}
use Rattle.taco_compiler.specs.Tails.{tail_workspaces}
use Rattle.taco_compiler.proofs.Tails.{tail_many}
use Rattle.taco_compiler.proofs.grouped.paired_kernel.Goals as goal

pub kernel_around-requires-clause-workspace : goal.kernel_around-requires-clause-workspace
kernel_around-requires-clause-workspace g c = pair_workspace _ c.requires.several

pub kernel_around-requires-clause-suits : goal.kernel_around-requires-clause-suits
kernel_around-requires-clause-suits g c = ap (λ spaces. slice_get spaces 0) c.in_ok-workspaces.ensures

pub kernel_around-requires-clause-begins : goal.kernel_around-requires-clause-begins
kernel_around-requires-clause-begins g c =
    let s = c.args.statement.now in
    let modes = c.args.modes.now in
    let spaces = c.in_ok-workspaces.workspaces in
    let a = g.S.Semiring.arithmetic in
    let w : PairSink = record { number = 0; keys = length modes } in
    subst (λ code. BeginsEmpty pair_sink w modes s spaces a code) (sym c.new-begun.ensures)
    (pairs_begin w modes s spaces a (ap (λ ws. slice_get ws 0) c.in_ok-workspaces.ensures))

pub kernel_around-requires-clause-spaces : goal.kernel_around-requires-clause-spaces
kernel_around-requires-clause-spaces g c =
    let n = length c.args.modes.now in
    c.in_ok-workspaces.ensures
    ∙ sym (ap tail_workspaces (tail_many c.args.statement.now c.args.formats.now c.args.order.now c.args.first c.args.modes.now
    c.requires.tail) ∙ ap (λ b. if b then (1 ∷ 1 ∷ []) else (n ∷ [])) (apart_test n 1 c.requires.several))
