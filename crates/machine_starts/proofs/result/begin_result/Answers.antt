use Rattle.std.proofs.Common.{◌∙◌, ◌+◌, ◌≤◌, sym, ap, subst, arith, refl, drop}
use Rattle.limits.specs.Limits.{greatest_position_count}
use Rattle.limits.proofs.Limits.{some_positions, positions_are_small}
use Rattle.level_core.specs.declared.letter.Letter.TheVariants.{Dense}
use Rattle.format_spec.specs.declared.format.FormatLevel.{FormatLevel}
use Rattle.kernel_interpreter.specs.Store.{state_of}
use Rattle.kernel_code.specs.declared.syntax.Arr.TheVariants.{Values}
use Rattle.kernel_code.specs.Meaning.{set_array}
use Rattle.machine_starts.proofs.Steps.{few_here, few_next, result_next, result_done}
use Rattle.machine_starts.proofs.result.begin_result.Goals as goal

abbrev none : FormatLevel
none = record { letter = Dense; mode = 0 }

pub loop-number-init : goal.loop-number-init
loop-number-init c = (omega (arith, some_positions), c.requires.few, refl)

pub overflow_cast-parents : goal.overflow_cast-parents
overflow_cast-parents c =
    let l = c.loop-number in
    let long = c.requires.same in
    let few = few_here c.args.format.now c.args.sizes.now l.number l.parents none c.loop-number-test.true (omega (arith, long))
    l.invariant.1 in
    let within = few.0 in
    let is = c.positions_at_start-positions.ensures in
    omega (arith, within, is, positions_are_small)

pub loop-number-preserved : goal.loop-number-preserved
loop-number-preserved c =
    let l = c.loop-number in
    let long = c.requires.same in
    let below = c.loop-number-test.true in
    let few = few_here c.args.format.now c.args.sizes.now l.number l.parents none below (omega (arith, long)) l.invariant.1 in (
      subst (λ p. p ≤ greatest_position_count) (sym c.positions_at_start-positions.ensures) few.0,
      few_next c.args.format.now c.args.sizes.now l.number l.parents c.positions_at_start-positions.result none below (omega (arith, long))
          l.invariant.1 c.positions_at_start-positions.ensures,
      result_next c.args.nothing c.args.format.now c.args.sizes.now l.number l.parents c.positions_at_start-positions.result none
          (state_of l.machine) (state_of c.begin_level.new.machine) below (omega (arith, long)) c.positions_at_start-positions.ensures
          c.in_ok-begin_level.ensures ∙ l.invariant.2,
    )

pub returns : goal.returns
returns c =
    let l = c.loop-number in
    let s = state_of l.machine in
    c.in_ok-add_array.ensures ∙ ap (set_array s (Values 0)) c.in_ok-values.ensures.items
    ∙ sym (result_done c.args.nothing c.args.format.now (drop l.number c.args.sizes.now) l.number l.parents (l.number + 1) s (omega arith))
    ∙ l.invariant.2
