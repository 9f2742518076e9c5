use Rattle.std.proofs.Common.{◌∙◌}
use Rattle.std.specs.Process.{exit_status}
use Rattle.taco_top.specs.Program.{words_in}
use Rattle.taco_top.proofs.Programs.{ends_same, wants_memory}
use Rattle.taco_top.proofs.program.run_program.Goals as goal
use Rattle.taco_top.proofs.program.run_program.Goals.{in-Ok, in-Err}

pub returns : goal.returns
returns g c = elim c.match-words_of.branch [
  | in-Ok w ↦ rw (w.files-is, w.out-is, w.err-is) (ends_same _ (words_in c.args.args) (g.F.Folder.state c.args.files.now) _
      (g.O.Sink.state c.args.out.now) _ (g.E.Sink.state c.args.err.now) _ w.taco-status.result (exit_status c.from.result)
      (w.as_slice.ensures.value ∙ w.in-Ok.ensures) (c.from.ensures ∙ w.status-is) w.taco-status.ensures)
  | in-Err w ↦ rw (w.files-is, w.out-is, w.err-is) (wants_memory (words_in c.args.args) (g.F.Folder.state c.args.files.now)
      (g.O.Sink.state c.args.out.now) (g.E.Sink.state c.args.err.now) _ (exit_status c.from.result)
      (c.from.ensures ∙ w.status-is ∙ w.refuse-status.ensures.status) w.refuse-status.ensures.line)
]
