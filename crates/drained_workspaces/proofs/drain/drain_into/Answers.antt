use Rattle.std.specs.Prelude.{◌+◌}
use Rattle.std.proofs.Common.{arith}
use Rattle.drained_workspaces.proofs.DrainLaws.{drains_into}
use Rattle.drained_workspaces.proofs.Prefixes.{so_many, all_below, adds_named}
use Rattle.drained_workspaces.proofs.drain.drain_into.Goals as goal

pub add_row-requires-clause-many : goal.add_row-requires-clause-many
add_row-requires-clause-many g c =
    so_many c.as_slice.result.now c.in_ok-keys.keys c.args.head.now (c.args.free + 1) c.keys-count.result
    (g.W.RowSink.sink.keys c.args.workspace.now) c.as_slice.ensures c.in_ok-keys.ensures c.keys-count.ensures
    (g.K.RowSink.sink.keys c.args.outer.now) c.requires.many

pub add_row-requires-clause-keys : goal.add_row-requires-clause-keys
add_row-requires-clause-keys g c =
    let count = c.keys-count.result in
    all_below c.as_slice.result.now c.in_ok-keys.keys c.args.head.now (c.args.free + 1) count (g.W.RowSink.sink.keys c.args.workspace.now)
    c.as_slice.ensures c.in_ok-keys.ensures c.keys-count.ensures c.args.free (c.args.free + 1 + count + 1) c.requires.head (omega arith)
    (omega arith)

pub returns : goal.returns
returns g c =
    let outer = g.K.RowSink.sink in
    let inner = g.W.RowSink.sink in
    let k = c.args.outer.now in
    let w = c.args.workspace.now in
    let head = c.args.head.now in
    let free = c.args.free in
    let add = c.in_ok-add.add in
    let adds = adds_named c.as_slice.result.now c.in_ok-keys.keys head (free + 1) c.keys-count.result (inner.keys w) c.as_slice.ensures
    c.in_ok-keys.ensures c.keys-count.ensures outer k add c.in_ok-add.ensures in
    drains_into outer g.met.K.RowSink.laws k inner g.W.DrainedWorkspace.draining g.met.W.DrainedWorkspace.draining_laws w head free
    c.in_ok-test.test c.in_ok-sort.sort c.in_ok-take.take add c.in_ok-empty.empty c.in_ok-turn.turn c.in_ok-code.code c.in_ok-sort.ensures
    c.in_ok-test.ensures c.in_ok-take.ensures adds c.in_ok-empty.ensures c.in_ok-turn.ensures c.in_ok-code.ensures
