use Rattle.std.specs.Prelude.{◌<◌, length, drop, replicate}
use Rattle.std.proofs.Common.{ap, arith, get_or}
use Rattle.limits.proofs.Limits.{orders_are_small, some_positions}
use Rattle.format_spec.specs.declared.format.FormatLevel.{FormatLevel}
use Rattle.format_spec.specs.Formats.{letters_of}
use Rattle.level_core.specs.declared.letter.Letter.TheVariants.{Dense}
use Rattle.tensor_storage.specs.Levels.{meaning}
use Rattle.tensor_storage.specs.Laws.{laws}
use Rattle.tensor_storage.specs.Places.{places_in}
use Rattle.tensor_storage.specs.Storages.{in_level_order}
use Rattle.tensor_storage.proofs.Chains.{chain_some}
use Rattle.tensor_storage.proofs.Paths.{mode_below}
use Rattle.tensor_storage.proofs.PackSteps.{none_packed, fill_may, fill_next, refused_here}
use Rattle.tensor_storage.proofs.packing.pack_levels.Goals as goal

none : FormatLevel
none = record { letter = Dense; mode = 0 }

pub bounds-ranges-format : goal.bounds-ranges-format
unfolding none
bounds-ranges-format g c =
    let below = mode_below c.args.format.now c.requires.format c.loop-level.level none c.loop-level-test.true in
    let many = c.requires.ranges in
    omega (arith, below, many)

pub offset_bounds-ranges-format : goal.offset_bounds-ranges-format
unfolding none
offset_bounds-ranges-format g c =
    let below : (get_or c.args.format.now c.loop-level.level none).mode < length c.args.format.now =
    mode_below c.args.format.now c.requires.format c.loop-level.level none c.loop-level-test.true in
    let short = c.requires.format.short in
    omega (arith, below, short, orders_are_small)

pub loop-level-init : goal.loop-level-init
loop-level-init g c = (
  none_packed meaning laws c.args.format.now (in_level_order c.args.format.now c.args.ranges.now) (g.T.RowTable.table c.args.table.now)
      c.new-levels.result (replicate c.count.result 0) c.requires.format c.new-levels.ensures
      (ap (λ n. replicate n 0) c.count.ensures),
  omega (arith, some_positions),
)

pub fill_placed-requires-clause-rows : goal.fill_placed-requires-clause-rows
unfolding none
fill_placed-requires-clause-rows g c =
    fill_may meaning laws c.args.format.now c.args.ranges.now (g.T.RowTable.table c.args.table.now) c.requires.order c.requires.below
    c.loop-level.level none c.loop-level-test.true c.loop-level.levels (places_in c.loop-level.places) c.loop-level.parents
    c.loop-level.invariant.0 c.in-Ok.stored c.chain_end.result c.in-Ok.ensures c.chain_end.ensures

pub fill_placed-requires-clause-among : goal.fill_placed-requires-clause-among
fill_placed-requires-clause-among g c =
    let some = chain_some (drop c.loop-level.level (letters_of c.args.format.now)) in
    let end = c.chain_end.ensures in
    omega (arith, some, end)

pub loop-level-preserved : goal.loop-level-preserved
unfolding none
loop-level-preserved g c =
    fill_next meaning laws c.args.format.now c.args.ranges.now (g.T.RowTable.table c.args.table.now) c.requires.order c.requires.below
    c.loop-level.level none c.loop-level-test.true c.loop-level.levels (places_in c.loop-level.places) c.loop-level.parents
    c.loop-level.invariant.0 c.in-Ok.stored c.chain_end.result c.in-Ok.ensures c.chain_end.ensures
    (places_in c.in-Ok-fill_placed.filled.places) c.fill_placed.new.stored c.in-Ok-fill_placed.filled.count c.push.new.self
    c.in-Ok-push.ensures.ok c.in-Ok-fill_placed.ensures

pub returns-in-Err-TooMany : goal.returns-in-Err-TooMany
unfolding none
returns-in-Err-TooMany g c =
    let e = rw c.in-Err-TooMany.field-0-is at c.in-Err-TooMany.ensures in
    rw c.in-Err-TooMany.field-0-is
    (refused_here meaning laws c.args.format.now c.args.ranges.now (g.T.RowTable.table c.args.table.now) c.requires.order c.requires.below
    c.loop-level.level none c.loop-level-test.true c.loop-level.levels (places_in c.loop-level.places) c.loop-level.parents
    c.loop-level.invariant.0 c.in-Ok.stored c.chain_end.result c.in-Ok.ensures c.chain_end.ensures e.2 c.fill_placed.new.stored
    c.in-Err-TooMany.count (e.0, e.1, e.3, e.4))
