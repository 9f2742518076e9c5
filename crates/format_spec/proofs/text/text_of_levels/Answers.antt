use Rattle.std.specs.Prelude.{length}
use Rattle.std.proofs.Common.{◌∙◌, ap, arith}
use Rattle.std.proofs.lemmas.List.{length-append, length-map}
use Rattle.limits.specs.Limits.{greatest_order}
use Rattle.format_spec.specs.Formats.{letters_of}
use Rattle.format_spec.specs.Words.{letter_byte}
use Rattle.format_spec.proofs.ModeTexts.{text_length}
use Rattle.format_spec.proofs.text.text_of_levels.Goals as goal

pub append_bytes-requires : goal.append_bytes-requires
unfolding greatest_order
append_bytes-requires c =
    let levels = c.args.levels.now in
    let letters = ap length c.letters_text-text.ensures.items ∙ length-map (letters_of levels) letter_byte
    ∙ length-map levels (λ level. level.letter) in
    let colon = ap length c.push_reserved.ensures.items ∙ length-append c.letters_text-text.result.items _ in
    let modes = ap length (c.as_slice.ensures ∙ c.modes_in-modes.ensures) ∙ length-map levels (λ level. level.mode) in
    let order = ap length (c.as_slice-2.ensures ∙ c.text_of-order.ensures) ∙ text_length c.as_slice.result.now in
    let room = c.push_reserved.ensures.capacity ∙ c.letters_text-text.ensures.capacity in
    omega (arith, letters, colon, modes, order, room, c.requires.short)
