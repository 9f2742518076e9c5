use Rattle.generated_runs.proofs.Drawn.{matrices_are_tensors, three_more, one_more}
use Rattle.generated_runs.proofs.tensors.draw_entries.Goals as goal

pub new-requires : goal.new-requires
new-requires c = matrices_are_tensors

pub loop-drawn-preserved : goal.loop-drawn-preserved
loop-drawn-preserved c =
    let x = c.args.draws.now.state in
    let s = c.loop-drawn.draws.state in (
      c.draw_entry.ensures.order,
      one_more c.args.n x c.loop-drawn._drawn s c.loop-drawn.entries.list c.draw_entry.new.entries.list c.loop-drawn.invariant.1
          c.loop-drawn.invariant.2 c.in_ok-draw_entry.ensures.drawn,
      three_more x c.loop-drawn._drawn s c.draw_entry.new.draws.state c.loop-drawn.invariant.2 c.in_ok-draw_entry.ensures.state,
    )
