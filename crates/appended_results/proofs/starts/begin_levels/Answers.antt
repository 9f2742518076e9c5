use Rattle.std.specs.Prelude.{◌≡◌, ◌+◌, ◌*◌, length}
use Rattle.std.proofs.Common.{sym, subst, arith, add-one}
use Rattle.std.proofs.lemmas.List.{get_or-map}
use Rattle.format_spec.specs.declared.format.FormatLevel.{FormatLevel}
use Rattle.format_spec.specs.Formats.{letters_of}
use Rattle.level_core.specs.declared.letter.Letter.TheVariants.{Dense}
use Rattle.appended_results.specs.Begins.{BeginsFirst, BeginsOne}
use Rattle.appended_results.proofs.BeginLaws.{none_begun, next_begun}
use Rattle.appended_results.proofs.starts.begin_levels.Goals as goal

abbrev none : FormatLevel
none = record { letter = Dense; mode = 0 }

pub loop-above-init : goal.loop-above-init
loop-above-init c =
    let letters = letters_of c.args.format.now in
    let levels = length c.args.format.now in
    subst (BeginsFirst letters levels c.args.base 0) (sym c.new-code.ensures) (none_begun letters levels c.args.base)

pub loop-above-preserved : goal.loop-above-preserved
loop-above-preserved c =
    let format = c.args.format.now in
    let letters = letters_of format in
    let above = c.loop-above.above in
    let test = c.loop-above-test.true in
    subst (λ k. BeginsFirst letters (length format) c.args.base k c.append.new.self) (sym (add-one above))
    (next_begun letters (length format) c.args.base above test c.loop-above.code c.in_ok-level.level c.append.new.self
    c.loop-above.invariant
    (subst (λ k. BeginsOne k (c.args.base + 4 * above) c.in_ok-level.level)
    (sym (get_or-map (λ (level : FormatLevel). level.letter) format above none Dense test)) c.in_ok-level.ensures)
    c.in_ok-append.ensures.ok)

pub returns : goal.returns
returns c =
    let levels = length c.args.format.now in
    let all : c.loop-above.above ≡ length c.args.format.now = omega arith in
    subst (λ k. BeginsFirst (letters_of c.args.format.now) levels c.args.base k c.loop-above.code) all c.loop-above.invariant
