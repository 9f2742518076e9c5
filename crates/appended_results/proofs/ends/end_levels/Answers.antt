use Rattle.std.specs.Prelude.{◌≡◌, suc, ◌+◌, ◌*◌, length}
use Rattle.std.proofs.Common.{sym, subst, arith, add-one, get_or}
use Rattle.std.proofs.lemmas.List.{get_or-map, length-map}
use Rattle.format_spec.specs.declared.format.FormatLevel.{FormatLevel}
use Rattle.format_spec.specs.Formats.{letters_of}
use Rattle.level_core.specs.declared.letter.Letter.TheVariants.{Dense}
use Rattle.appended_results.specs.Ends.{EndsFirst, EndsOne}
use Rattle.appended_results.proofs.EndLaws.{none_ended, next_ended}
use Rattle.appended_results.proofs.ends.end_levels.Goals as goal

abbrev none : FormatLevel
none = record { letter = Dense; mode = 0 }

pub loop-above-init : goal.loop-above-init
loop-above-init c =
    subst (EndsFirst (letters_of c.args.format.now) c.args.base c.args.free 0) (sym c.new-code.ensures)
    (none_ended (letters_of c.args.format.now) c.args.base c.args.free)

pub loop-above-preserved : goal.loop-above-preserved
loop-above-preserved c =
    let format = c.args.format.now in
    let letters = letters_of format in
    let above = c.loop-above.above in
    let test = c.loop-above-test.true in
    let many = length-map format (λ (level : FormatLevel). level.letter) in
    let room = c.requires.room.result in
    subst (λ k. EndsFirst letters c.args.base c.args.free k c.append.new.self) (sym (add-one above))
    (next_ended letters c.args.base c.args.free above (omega (arith, test, many)) (omega (arith, room, many)) c.loop-above.code
    c.in_ok-level.level c.append.new.self c.loop-above.invariant
    (subst (λ k. EndsOne k (suc above) (c.args.base + 4 * above) c.args.free c.in_ok-level.level)
    (sym (get_or-map (λ (level : FormatLevel). level.letter) format above none Dense test))
    (subst (λ n. EndsOne (get_or format above none).letter n (c.args.base + 4 * above) c.args.free c.in_ok-level.level) (add-one above)
    c.in_ok-level.ensures))
    c.in_ok-append.ensures.ok)

pub returns : goal.returns
returns c =
    let all : c.loop-above.above ≡ length c.args.format.now = omega arith in
    subst (λ k. EndsFirst (letters_of c.args.format.now) c.args.base c.args.free k c.loop-above.code) all c.loop-above.invariant
