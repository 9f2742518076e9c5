use Rattle.std.specs.Prelude.{◌++◌}
use Rattle.std.proofs.Common.{◌∙◌, arith, ap}
use Rattle.appended_results.proofs.FullSteps.{places_at_level}
use Rattle.appended_results.proofs.levels.place_head.Goals as goal

pub returns : goal.returns
returns c letters head test many is headed full =
    let at = c.args.at in
    let result = c.requires.room.result in
    let above = c.requires.above in
    places_at_level letters head at.base at.free at.above headed (omega (arith, above, many)) (omega (arith, result, many)) test
    c.args.coord
    c.requires.coord.below full c.in_ok-counted.counted c.append.new.self (c.in_ok-counted.ensures letters is)
    (c.in_ok-append.ensures.ok ∙ ap (λ k. c.in_ok-counted.counted ++ k) c.in_ok-placed.ensures)
