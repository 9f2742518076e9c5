use Rattle.pair_workspaces.proofs.RowLaws.{adds_pairs}
use Rattle.pair_workspaces.proofs.sink.PairSinkRowSink.add_row.Goals as goal

pub returns : goal.returns
returns c = adds_pairs c.args.self.now c.args.keys.now c.args.value c.args.free c.in_ok-code.code c.in_ok-code.ensures
