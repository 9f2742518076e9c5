use Rattle.std.specs.Prelude.{slice_get, slice_index_or}
use Rattle.std.proofs.Common.{◌∙◌, sym, ap, subst, arith}
use Rattle.grouped_kernels.specs.Workspaces.{BeginsEmpty}
use Rattle.grouped_kernels.proofs.Workspaces.{touched_begins, touched_workspace}
use Rattle.touched_workspaces.specs.Sinks.{touched_sink}
use Rattle.touched_workspaces.specs.declared.sink.TouchedSink.{TouchedSink}
use Rattle.taco_compiler.specs.Tails.{tail_workspaces}
use Rattle.taco_compiler.proofs.Tails.{one_alone, tail_many, tail_variable}
use Rattle.taco_compiler.proofs.grouped.marked_kernel.Goals as goal

pub kernel_around-requires-clause-keys : goal.kernel_around-requires-clause-keys
kernel_around-requires-clause-keys g c = sym c.requires.one

pub kernel_around-requires-clause-workspace : goal.kernel_around-requires-clause-workspace
kernel_around-requires-clause-workspace g c = touched_workspace _

pub kernel_around-requires-clause-suits : goal.kernel_around-requires-clause-suits
kernel_around-requires-clause-suits g c = ap (λ spaces. slice_get spaces 1) c.in_ok-workspaces.ensures

pub kernel_around-requires-clause-begins : goal.kernel_around-requires-clause-begins
kernel_around-requires-clause-begins g c =
    let s = c.args.statement.now in
    let modes = c.args.modes.now in
    let spaces = c.in_ok-workspaces.workspaces in
    let a = g.S.Semiring.arithmetic in
    let w : TouchedSink = record { dense = 0; list = 1; variable = slice_index_or modes 0 0; zero = c.zero.result } in
    subst (λ ms. BeginsEmpty touched_sink w ms s spaces a c.in_ok-begun.begun) (sym (one_alone modes c.requires.one))
    (touched_begins w s spaces a c.in_ok-begun.begun c.in_ok-begun.ensures c.zero.ensures (λ same. absurd (omega (arith, same)))
    (tail_variable s c.args.formats.now c.args.order.now c.args.first modes c.requires.grouped.ready c.requires.tail c.requires.one)
    (ap (λ ws. slice_get ws 0) c.in_ok-workspaces.ensures) (ap (λ ws. slice_get ws 1) c.in_ok-workspaces.ensures))

pub kernel_around-requires-clause-spaces : goal.kernel_around-requires-clause-spaces
kernel_around-requires-clause-spaces g c =
    c.in_ok-workspaces.ensures
    ∙ sym (ap tail_workspaces (tail_many c.args.statement.now c.args.formats.now c.args.order.now c.args.first c.args.modes.now
    c.requires.tail ∙ c.requires.one))
