use Rattle.refusals.specs.Lines.{line_of}
use Rattle.taco_top.proofs.Stopped.{line_put}
use Rattle.taco_top.proofs.top.refuse.Goals as goal

pub returns-clause-line : goal.returns-clause-line
returns-clause-line g c = line_put c.put_line.result (g.E.Sink.state c.args.err.now) (g.E.Sink.state c.put_line.new.sink)
    (line_of c.args.fault.now) c.put_line.ensures.whole c.put_line.ensures.part
