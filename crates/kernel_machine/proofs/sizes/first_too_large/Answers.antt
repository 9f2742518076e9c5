use Rattle.std.proofs.Common.{arith, ◌+◌}
use Rattle.limits.proofs.Limits.{some_positions}
use Rattle.level_core.specs.declared.letter.Letter.TheVariants.{Dense}
use Rattle.format_spec.specs.declared.format.FormatLevel.{FormatLevel}
use Rattle.kernel_machine.proofs.LevelSizes.{too_large_here, few_before, large_later}
use Rattle.kernel_machine.proofs.sizes.first_too_large.Goals as goal

abbrev none : FormatLevel
none = record { letter = Dense; mode = 0 }

pub loop-number-init : goal.loop-number-init
loop-number-init c = (omega (arith, some_positions), λ h. h, λ level count h. h)

pub returns-then-count-greatest_positions : goal.returns-then-count-greatest_positions
returns-then-count-greatest_positions c =
    let l = c.loop-number in
    let long = c.requires in
    l.invariant.2 (l.number + 1) c.positions_at_start-count.result
    (too_large_here c.args.format.now c.args.sizes.now l.number l.parents c.positions_at_start-count.result none c.loop-number-test.true
    (omega (arith, long)) c.positions_at_start-count.ensures (omega arith))

pub loop-number-preserved : goal.loop-number-preserved
loop-number-preserved c =
    let l = c.loop-number in
    let long = c.requires in
    let below = c.loop-number-test.true in
    let count = c.positions_at_start-count.result in (
      omega arith,
      λ few. l.invariant.1 (few_before c.args.format.now c.args.sizes.now l.number l.parents count none below (omega (arith, long))
          c.positions_at_start-count.ensures (omega arith) few),
      λ level most large. l.invariant.2 level most (large_later c.args.format.now c.args.sizes.now l.number l.parents count none level most
          below (omega (arith, long)) c.positions_at_start-count.ensures (omega arith) large),
    )
