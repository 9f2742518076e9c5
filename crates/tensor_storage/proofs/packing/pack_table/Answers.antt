use Rattle.std.specs.Prelude.{replicate, refl}
use Rattle.tensor_storage.specs.Places.{places_in}
use Rattle.tensor_storage.proofs.Standing.{pack_done, distinct_places}
use Rattle.tensor_storage.proofs.packing.pack_table.Goals as goal

pub values_of-requires-clause-apart : goal.values_of-requires-clause-apart
values_of-requires-clause-apart g c =
    distinct_places c.args.format.now c.args.ranges.now (g.T.RowTable.table c.args.table.now) c.in-Ok.packed.levels
    (places_in c.in-Ok.packed.places) (places_in c.in-Ok.packed.places) c.in-Ok.packed.positions c.requires.order c.in-Ok.ensures.0 refl

pub returns-clause-packed : goal.returns-clause-packed
returns-clause-packed g c =
    pack_done g.S.Semiring.arithmetic.zero c.args.format.now c.args.ranges.now (g.T.RowTable.table c.args.table.now)
    c.in-Ok.packed.levels (places_in c.in-Ok.packed.places) (places_in c.in-Ok.packed.places) c.in-Ok.packed.positions
    (replicate c.in-Ok.packed.positions g.S.Semiring.arithmetic.zero) c.in-Ok-values_of.values c.in-Ok-values_of.values
    c.requires.format c.requires.order c.in-Ok.ensures.0 refl refl c.in-Ok-values_of.ensures.stored refl
