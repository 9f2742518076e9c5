use Rattle.std.proofs.Common.{◌∙◌, sym, arith}
use Rattle.limits.proofs.Limits.{some_positions}
use Rattle.level_core.specs.declared.letter.Letter.TheVariants.{Dense}
use Rattle.format_spec.specs.declared.format.FormatLevel.{FormatLevel}
use Rattle.level_checks.proofs.Loops.{never, no, same_self, same_then}
use Rattle.storage_builder.proofs.Having.{left_first, left_next}
use Rattle.storage_builder.proofs.builder.have_levels.Goals as goal

abbrev none : FormatLevel
none = record { letter = Dense; mode = 0 }

pub loop-number-init : goal.loop-number-init
loop-number-init c = (same_self, omega (arith, some_positions))

pub returns-then-not-is_level : goal.returns-then-not-is_level
returns-then-not-is_level c =
    let a = c.args in
    let l = c.loop-number in
    no (λ h. never (sym c.if-not-is_level.true
    ∙ c.is_level.ensures.1 (left_first a.format.now a.sizes.now a.parts.now l.number l.parents a.values none c.index-parts-number.result
    c.loop-number-test.true c.requires.sizes_long c.requires.parts_long c.index-parts-number.is (l.invariant.0.1 h))))

pub loop-number-preserved : goal.loop-number-preserved
loop-number-preserved c =
    let a = c.args in
    let l = c.loop-number in
    let next = left_next a.format.now a.sizes.now a.parts.now l.number l.parents a.values none c.index-parts-number.result
    c.loop-number-test.true c.requires.sizes_long c.requires.parts_long c.index-parts-number.is c.level_positions-parents.result
    (c.is_level.ensures.0 c.if-not-is_level.false) c.level_positions-parents.ensures.is in
    (same_then next l.invariant.0, c.level_positions-parents.ensures.few)
