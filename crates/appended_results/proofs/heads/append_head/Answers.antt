use Rattle.std.specs.Prelude.{◌+◌, ◌*◌}
use Rattle.std.proofs.Common.{◌∙◌, sym, ap, subst, arith}
use Rattle.std.proofs.lemmas.List.{length-map}
use Rattle.format_spec.specs.declared.format.FormatLevel.{FormatLevel}
use Rattle.format_spec.specs.Formats.{letters_of}
use Rattle.appended_results.specs.Codes.{AppendsFirst, AreKeys}
use Rattle.appended_results.specs.Rows.{zeros_code}
use Rattle.appended_results.proofs.HeadCode.{appends_head_whole}
use Rattle.appended_results.proofs.heads.append_head.Goals as goal

pub returns : goal.returns
returns c =
    let format = c.args.format.now in
    let letters = letters_of format in
    let many = length-map format (λ (level : FormatLevel). level.letter) in
    let room = c.requires.room.result in
    let keys = c.args.keys.now in
    appends_head_whole letters c.args.head c.args.base c.args.free c.args.zero keys
    (subst (λ m. AreKeys m c.args.base c.args.free keys) (sym many) c.requires.keys) (omega (arith, room, many))
    c.in_ok-levels.levels c.in_ok-zeros.zeros c.in_ok-keep.keep c.in_ok-code.code
    (subst (λ m. AppendsFirst letters c.args.head c.args.base c.args.free keys m c.in_ok-levels.levels) (sym many) c.in_ok-levels.ensures)
    (c.in_ok-zeros.ensures ∙ ap (λ m. zeros_code (c.args.free + 2 * m + 1) c.args.zero) (sym many)) c.in_ok-keep.ensures
    c.in_ok-code.ensures
