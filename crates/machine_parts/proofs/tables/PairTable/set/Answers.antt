use Rattle.machine_parts.proofs.PlaceLemmas.{row_gains}
use Rattle.machine_parts.proofs.tables.PairTable.set.Goals as goal

pub returns : goal.returns
returns c =
    row_gains c.set.result c.args.self.now c.make_room.new.self c.index_mut.result.now c.set.new.self c.args.x c.args.y c.args.value
    c.in_ok-make_room.ensures.same c.in_ok-make_room.ensures.room c.index_mut.ensures.value c.set.ensures.value
