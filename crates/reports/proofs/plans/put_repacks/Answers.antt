use Rattle.std.specs.Prelude.{ℕ, ◌+◌, drop}
use Rattle.std.specs.List.{flat_map}
use Rattle.text_lines.proofs.PutPieces.{more_so_far, part_printed, refused, rest_told, then_rest}
use Rattle.text_lines.proofs.ListTexts.{text_step}
use Rattle.reports.proofs.Lines.{got}
use Rattle.reports.specs.Plans.{repack_line}
use Rattle.reports.proofs.plans.put_repacks.Goals as goal

pub loop-repack-preserved : goal.loop-repack-preserved
loop-repack-preserved g c =
    let plan = c.args.plan.now in
    let i : ℕ = c.loop-repack.repack-index in
    more_so_far _ _ _ _ _ _
    (rest_told _ _ _ _ _ (text_step (repack_line c.args.statement.now) plan i c.repack-item.result
    (got plan i c.repack-item.result c.loop-repack-test.true c.repack-item.is))
    c.loop-repack.invariant) c.in_ok-put_repack.ensures

pub returns-in_err-put_repack-clause-part : goal.returns-in_err-put_repack-clause-part
returns-in_err-put_repack-clause-part g c =
    let plan = c.args.plan.now in
    let i : ℕ = c.loop-repack.repack-index in
    part_printed _ _ _ _ (then_rest _ _ _ _ _ _
    (rest_told _ _ _ _ _ (text_step (repack_line c.args.statement.now) plan i c.repack-item.result
    (got plan i c.repack-item.result c.loop-repack-test.true c.repack-item.is))
    c.loop-repack.invariant)
    (refused c.from_residual.result c.in_err-put_repack.field-0.0 _ _ _ (flat_map (repack_line c.args.statement.now) (drop (i + 1) plan))
    c.from_residual.ensures.1 c.in_err-put_repack.ensures))
