use Rattle.std.specs.Prelude.{◌+◌, suc, drop, refl}
use Rattle.std.proofs.Common.{◌∙◌, sym, ap, subst, add-one, arith, get_or}
use Rattle.format_spec.specs.declared.format.FormatLevel.{FormatLevel}
use Rattle.format_spec.specs.Formats.{letters_of}
use Rattle.level_core.specs.declared.letter.Letter.TheVariants.{Dense}
use Rattle.kernel_code.specs.declared.syntax.KExpr.{Var}
use Rattle.tensor_storage.specs.Chains.{chain_length}
use Rattle.tensor_storage.proofs.Chains.{letter_left}
use Rattle.result_assembly.specs.Levels.{DrainsFirst}
use Rattle.result_assembly.proofs.AllLevels.{none_drained, next_drained}
use Rattle.result_assembly.proofs.drains.drain_levels.Goals as goal

pub loop-above-init : goal.loop-above-init
loop-above-init c =
    subst (DrainsFirst (letters_of c.args.format.now) 0 c.args.workspace c.args.list c.args.base) (sym c.in_ok-code.ensures)
    (none_drained c.args.format.now c.args.workspace c.args.list c.args.base c.requires.format)

none : FormatLevel
none = record { letter = Dense; mode = 0 }

pub loop-above-preserved : goal.loop-above-preserved
unfolding none
loop-above-preserved c =
    let format = c.args.format.now in
    let above = c.loop-above.above in
    let test = c.loop-above-test.true in
    let levels = c.requires.levels in
    let here = letter_left format above none (omega (arith, test, levels)) in
    subst (λ k. DrainsFirst (letters_of format) k c.args.workspace c.args.list c.args.base c.append.new.self) (sym (add-one above))
    (next_drained (letters_of format) (drop (suc above) (letters_of format)) (get_or format above none).letter above (above + 1)
    c.args.workspace c.args.list c.args.base (c.args.base + above + 1) c.chain_end-through.result (Var (c.args.base + above))
    c.loop-above.code c.in_ok-level.level c.append.new.self here
    (c.chain_end-through.ensures ∙ ap (λ ls. above + chain_length ls) here)
    c.loop-above.invariant (add-one above) refl refl c.in_ok-level.ensures c.in_ok-append.ensures.ok)
