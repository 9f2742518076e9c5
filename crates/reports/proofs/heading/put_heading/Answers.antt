use Rattle.std.specs.Prelude.{ℕ, List, ◌++◌}
use Rattle.std.proofs.Common.{◌∙◌, ap}
use Rattle.index_notation.specs.declared.syntax.Name.{Name}
use Rattle.text_lines.proofs.PutPieces.{part_printed, refused, retold, then_printed}
use Rattle.reports.specs.Reports.{order_line, tensor_lines}
use Rattle.reports.proofs.heading.put_heading.Goals as goal

pub returns-in_err-put_order-clause-part : goal.returns-in_err-put_order-clause-part
returns-in_err-put_order-clause-part g c =
    let order = c.args.order.now in
    let t : List ℕ = tensor_lines 0 c.args.statement.now.tensors c.args.formats.now in
    let r = c.from_residual in
    part_printed r.result _ _ _
    (retold _ _ _ _ _ (ap (λ (vars : List Name). order_line vars order ++ t) c.as_slice.ensures)
    (refused r.result c.in_err-put_order.field-0.0 _ _ (order_line c.as_slice.result.now order) t r.ensures.1 c.in_err-put_order.ensures))

pub returns-clause-part : goal.returns-clause-part
returns-clause-part g c =
    let s = c.args.statement.now in
    let order = c.args.order.now in
    let formats = c.args.formats.now in
    let vars = c.as_slice.result.now in
    let tensors = c.as_slice-2.result.now in
    part_printed c.put_tensors.result _ _ _
    (retold _ _ _ _ _ (ap (λ (vs : List Name). order_line vs order ++ tensor_lines 0 tensors formats) c.as_slice.ensures
    ∙ ap (λ (ts : List Name). order_line s.vars order ++ tensor_lines 0 ts formats) c.as_slice-2.ensures)
    (then_printed _ _ _ _ (order_line vars order) (tensor_lines 0 tensors formats) c.in_ok-put_order.ensures c.put_tensors.ensures))
