use Rattle.std.specs.Prelude.{suc}
use Rattle.std.proofs.Common.{◌∙◌, arith}
use Rattle.level_rows.specs.Runs.{begins_run}
use Rattle.level_rows.proofs.RunNumbers.{few_begun, counted_more, counted_same, behind_long, behind_at}
use Rattle.level_rows.proofs.runs.runs_in.Goals as goal
use Rattle.level_rows.proofs.runs.runs_in.Goals.{then-word-before, else-word-before}

pub overflow_add-runs : goal.overflow_add-runs
overflow_add-runs c =
    let few = few_begun (begins_run c.args.column.now) (suc c.loop-word.word-index) in
    let is = c.loop-word.invariant.0 in
    let within = c.loop-word-test.true in
    let long = behind_long c.args.column.now in
    omega (arith, few, is, within, long)

pub loop-word-preserved : goal.loop-word-preserved
loop-word-preserved c =
    let column = c.args.column.now in
    let at = behind_at column c.loop-word.word-index c.loop-word-test.true in
    elim c.if-word-before.branch [
      | then-word-before w ↦ (
        w.runs-is ∙ counted_more column c.loop-word.word-index c.loop-word.runs c.loop-word.before _ c.loop-word.invariant.0
            c.loop-word.invariant.1 at w.if-word-before.true,
        w.before-is ∙ at,
      )
      | else-word-before w ↦ (
        w.runs-is ∙ counted_same column c.loop-word.word-index c.loop-word.runs c.loop-word.before _ c.loop-word.invariant.0
            c.loop-word.invariant.1 at w.if-word-before.false,
        w.before-is ∙ at,
      )
    ]
