use Rattle.std.specs.Prelude.{◌<◌, length}
use Rattle.std.proofs.Common.{◌∙◌, sym, ap, arith}
use Rattle.std.proofs.lemmas.List.{get_or-map, length-map}
use Rattle.format_spec.specs.declared.format.FormatLevel.{FormatLevel}
use Rattle.format_spec.specs.Formats.{letters_of}
use Rattle.level_core.specs.declared.letter.Letter.TheVariants.{Dense}
use Rattle.level_core.specs.Kinds.{properties}
use Rattle.appended_results.proofs.FullSteps.{counts_at_level}
use Rattle.appended_results.proofs.levels.append_to_level.Goals as goal

abbrev none : FormatLevel
none = record { letter = Dense; mode = 0 }

pub returns : goal.returns
returns c =
    let format = c.args.format.now in
    let at = c.args.at in
    let above = c.requires.above in
    let all = c.requires.all in
    let here = get_or-map (λ (level : FormatLevel). level.letter) format at.above none Dense (omega (arith, above, all)) in
    c.in_ok-code-3.ensures (letters_of format) c.args.head (length-map format (λ (level : FormatLevel). level.letter) ∙ sym all)
    (here ∙ sym c.in_ok-level.ensures) (sym c.requires.fixed) (let later = c.if-head-at.false in omega (arith, later))
    (ap (λ k. (properties k).full) here ∙ sym (ap (λ p. p.full) c.props_of.ensures) ∙ c.if-props_of.false) c.requires.test

pub returns-then-props_of : goal.returns-then-props_of
returns-then-props_of c =
    let format = c.args.format.now in
    let at = c.args.at in
    let above = c.requires.above in
    let all = c.requires.all in
    let here = get_or-map (λ (level : FormatLevel). level.letter) format at.above none Dense (omega (arith, above, all)) in
    c.in_ok-code-2.ensures (letters_of format) c.args.head c.args.test (length-map format (λ (level : FormatLevel). level.letter) ∙ sym all)
    (sym c.requires.fixed) (let later = c.if-head-at.false in omega (arith, later))
    (ap (λ k. (properties k).full) here ∙ sym (ap (λ p. p.full) c.props_of.ensures) ∙ c.if-props_of.true)

pub returns-then-head-at : goal.returns-then-head-at
returns-then-head-at c =
    let format = c.args.format.now in
    let at = c.args.at in
    let above = c.requires.above in
    let all = c.requires.all in
    let many = length-map format (λ (level : FormatLevel). level.letter) in
    let result = c.requires.room.result in
    let from = c.if-head-at.true in
    let inside : at.above < length (letters_of format) = omega (arith, above, all, many) in
    counts_at_level (letters_of format) c.args.head at.base at.free at.above (omega (arith, from)) inside (omega (arith, result, all, many))
    c.args.test c.args.coord (c.requires.head.tail at.above (omega (arith, from)) inside) c.in_ok-code.code
    (c.in_ok-code.ensures (letters_of format) (sym c.requires.fixed))
