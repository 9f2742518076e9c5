use Rattle.std.specs.Prelude.{◌≡◌, suc, ◌-◌, true, drop, length}
use Rattle.std.proofs.Common.{◌∙◌, sym, ap, subst, arith, get_or}
use Rattle.std.proofs.lemmas.List.{length-map}
use Rattle.format_spec.specs.declared.format.FormatLevel.{FormatLevel}
use Rattle.format_spec.specs.Formats.{letters_of}
use Rattle.level_core.specs.declared.letter.Letter.TheVariants.{Dense}
use Rattle.level_core.specs.Kinds.{properties}
use Rattle.tensor_storage.proofs.Chains.{letter_left}
use Rattle.result_assembly.proofs.Turns.{once_ordered, passes_here}
use Rattle.result_assembly.proofs.values.above_last.Goals as goal

none : FormatLevel
none = record { letter = Dense; mode = 0 }

pub returns-then-props_of : goal.returns-then-props_of
unfolding none
returns-then-props_of c d last =
    let format = c.args.format.now in
    let many = length-map format (λ (level : FormatLevel). level.letter) in
    let at : length format - 1 ≡ d = omega (arith, last, many) in
    let left = letter_left format d none (omega (arith, last, many)) in
    let ordered = subst (λ k. (properties (get_or format k none).letter).ordered ≡ true) at
    (sym (ap (λ p. p.ordered) c.props_of.ensures) ∙ c.if-props_of.true) in
    let here = passes_here (letters_of format) (drop (suc d) (letters_of format)) (get_or format d none).letter d left in
    let once = once_ordered (get_or format d none).letter ordered in
    omega (arith, here, once)
