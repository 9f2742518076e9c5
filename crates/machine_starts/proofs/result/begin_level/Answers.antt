use Rattle.std.proofs.Common.{◌∙◌, ap}
use Rattle.level_core.specs.declared.arrays.LevelArray.TheVariants.{Coordinates as OfCoordinates, Width as OfWidth}
use Rattle.machine_starts.specs.Begun.{with_zeros}
use Rattle.machine_starts.proofs.result.begin_level.Goals as goal

pub returns : goal.returns
returns c =
    let letter = c.args.letter in let parents = c.args.parents in let level = c.args.level in
    c.in_ok-begin_array-3.ensures
    ∙ ap (with_zeros letter OfCoordinates parents level) (c.in_ok-begin_array-2.ensures
    ∙ ap (with_zeros letter OfWidth parents level) c.in_ok-begin_array.ensures)
