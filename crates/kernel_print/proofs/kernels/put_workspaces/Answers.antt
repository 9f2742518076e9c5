use Rattle.std.specs.Prelude.{ℕ, ◌+◌, drop, slice_index_or, refl}
use Rattle.std.proofs.Common.{ap}
use Rattle.std.proofs.lemmas.List.{drop_all}
use Rattle.kernel_print.specs.Text.{workspaces_text}
use Rattle.kernel_print.proofs.Loops.{none_so_far, more_so_far, all_so_far, rest_told, then_rest, workspaces_step}
use Rattle.text_lines.proofs.PutPieces.{refused}
use Rattle.kernel_print.proofs.kernels.put_workspaces.Goals as goal

pub loop-number-init : goal.loop-number-init
loop-number-init g c = none_so_far _ (workspaces_text 0 c.args.workspaces.now)

pub loop-number-preserved : goal.loop-number-preserved
loop-number-preserved g c =
    let keys : ℕ = slice_index_or c.args.workspaces.now c.loop-number.number 0 in
    more_so_far _ _ _ _ _ _
    (rest_told _ _ _ _ _ (workspaces_step c.args.workspaces.now c.loop-number.number keys c.loop-number-test.true refl)
    c.loop-number.invariant) c.in_ok-put_workspace.ensures

pub returns-in_err-put_workspace : goal.returns-in_err-put_workspace
returns-in_err-put_workspace g c =
    let ws = c.args.workspaces.now in
    let n : ℕ = c.loop-number.number in
    let keys : ℕ = slice_index_or ws n 0 in
    then_rest _ _ _ _ _ _ (rest_told _ _ _ _ _ (workspaces_step ws n keys c.loop-number-test.true refl) c.loop-number.invariant)
    (refused c.from_residual.result c.in_err-put_workspace.field-0.0 _ _ _
    (workspaces_text (n + 1) (drop (n + 1) ws)) c.from_residual.ensures.1 c.in_err-put_workspace.ensures)

pub returns : goal.returns
returns g c =
    all_so_far _ _ _ _ (ap (workspaces_text c.loop-number.number)
    (drop_all c.loop-number.number c.args.workspaces.now c.loop-number-test.false)) c.loop-number.invariant
