use Rattle.std.specs.Prelude.{ℕ, List, ◌++◌, codes}
use Rattle.std.proofs.Common.{ap}
use Rattle.kernel_print.specs.Text.{head_text, kernel_text, workspaces_text, lists_text, statements_text}
use Rattle.text_lines.proofs.PutPieces.{then_printed, refused, retold, part_printed}
use Rattle.kernel_print.proofs.kernels.put_kernel.Goals as goal

pub returns-in_err-put_head-clause-part : goal.returns-in_err-put_head-clause-part
returns-in_err-put_head-clause-part g c =
    let k = c.args.kernel.now in
    part_printed c.from_residual.result _ _ (kernel_text k)
    (refused c.from_residual.result c.in_err-put_head.field-0.0 _ _ (head_text k.semiring)
    (workspaces_text 0 k.workspaces ++ (lists_text 0 k.lists ++ (statements_text 1 k.body ++ codes "}\n"))) c.from_residual.ensures.1
    c.in_err-put_head.ensures)

pub returns-in_err-put_workspaces-clause-part : goal.returns-in_err-put_workspaces-clause-part
returns-in_err-put_workspaces-clause-part g c =
    let k = c.args.kernel.now in
    let r = c.from_residual-in_err-put_workspaces in
    let rest : List ℕ = lists_text 0 k.lists ++ (statements_text 1 k.body ++ codes "}\n") in
    part_printed r.result _ _ (kernel_text k)
    (retold _ _ _ _ _ (ap (λ (ws : List ℕ). head_text k.semiring ++ (workspaces_text 0 ws ++ rest)) c.as_slice.ensures)
    (then_printed _ _ _ _ (head_text k.semiring) (workspaces_text 0 c.as_slice.result.now ++ rest) c.in_ok-put_head.ensures
    (refused r.result c.in_err-put_workspaces.field-0.0 _ _
    (workspaces_text 0 c.as_slice.result.now) rest r.ensures.1 c.in_err-put_workspaces.ensures)))

pub returns-in_err-put_lists-clause-part : goal.returns-in_err-put_lists-clause-part
returns-in_err-put_lists-clause-part g c =
    let k = c.args.kernel.now in
    let r = c.from_residual-in_err-put_lists in
    let body : List ℕ = statements_text 1 k.body ++ codes "}\n" in
    let rest : List ℕ = lists_text 0 k.lists ++ body in
    part_printed r.result _ _ (kernel_text k)
    (retold _ _ _ _ _ (ap (λ (ws : List ℕ). head_text k.semiring ++ (workspaces_text 0 ws ++ rest)) c.as_slice.ensures)
    (then_printed _ _ _ _ (head_text k.semiring) (workspaces_text 0 c.as_slice.result.now ++ rest) c.in_ok-put_head.ensures
    (then_printed _ _ _ _ (workspaces_text 0 c.as_slice.result.now) rest c.in_ok-put_workspaces.ensures
    (refused r.result c.in_err-put_lists.field-0.0 _ _ (lists_text 0 k.lists) body r.ensures.1 c.in_err-put_lists.ensures))))

pub returns-clause-part : goal.returns-clause-part
returns-clause-part g c =
    let k = c.args.kernel.now in
    let body : List ℕ = statements_text 1 k.body ++ codes "}\n" in
    let rest : List ℕ = lists_text 0 k.lists ++ body in
    part_printed c.put_body.result _ _ (kernel_text k)
    (retold _ _ _ _ _ (ap (λ (ws : List ℕ). head_text k.semiring ++ (workspaces_text 0 ws ++ rest)) c.as_slice.ensures)
    (then_printed _ _ _ _ (head_text k.semiring) (workspaces_text 0 c.as_slice.result.now ++ rest) c.in_ok-put_head.ensures
    (then_printed _ _ _ _ (workspaces_text 0 c.as_slice.result.now) rest c.in_ok-put_workspaces.ensures
    (then_printed _ _ _ _ (lists_text 0 k.lists) body c.in_ok-put_lists.ensures c.put_body.ensures))))
