use Rattle.std.specs.Prelude.{length}
use Rattle.std.proofs.Common.{◌∙◌, ap, sym, subst, arith}
use Rattle.std.proofs.lemmas.List.{length-map}
use Rattle.std.specs.Option.{option_map}
use Rattle.format_spec.specs.Formats.{letters_of}
use Rattle.format_spec.specs.Words.{HasOrder, AreLetters}
use Rattle.format_spec.proofs.Parses.{is_order, level_order, level_count, answered}
use Rattle.format_spec.proofs.reading.parse_format.Goals as goal

pub levels_of-requires-clause-count : goal.levels_of-requires-clause-count
levels_of-requires-clause-count c =
    let order = is_order (option_map (λ text. text.now) c.args.order_text) c.args.order c.in-Some.modes.items c.in-Some.ensures in
    let modes = ap length c.as_slice.ensures ∙ order.count in
    let letters = ap length c.as_bytes-2.ensures.value in
    omega (arith, letters, modes, c.if-letters-order.false)

pub format_of-requires-clause-order : goal.format_of-requires-clause-order
format_of-requires-clause-order c =
    let order = is_order (option_map (λ text. text.now) c.args.order_text) c.args.order c.in-Some.modes.items c.in-Some.ensures in
    level_order c.args.order c.in-Some-levels_of.levels.items c.in-Some.modes.items (c.in-Some-levels_of.ensures.1
    ∙ c.as_slice.ensures) order

pub returns : goal.returns
returns c =
    let text = option_map (λ text. text.now) c.args.order_text in
    let levels = c.in-Some-levels_of.levels.items in
    let modes_are = c.in-Some-levels_of.ensures.1 ∙ c.as_slice.ensures in
    let order = is_order text c.args.order c.in-Some.modes.items c.in-Some.ensures in
    answered c.args.letters.now text c.args.order levels c.format_of.result
    (record {
      letters_are = subst (λ letters. AreLetters letters (letters_of levels)) c.as_bytes-2.ensures.value c.in-Some-levels_of.ensures.0;
      count = length-map levels (λ level. level.letter) ∙ level_count c.args.order levels c.in-Some.modes.items modes_are order;
      modes_are = subst (HasOrder text c.args.order) (sym modes_are) c.in-Some.ensures;
    })
    c.format_of.ensures
