use Rattle.std.specs.Prelude.{◌≡◌, ◌<◌, ◌&&◌, length, slice_index, refl}
use Rattle.std.proofs.Common.{◌∙◌, sym, ap, subst, arith, add-one, get_or}
use Rattle.std.proofs.lemmas.List.{get_or-map, length-map}
use Rattle.kernel_code.specs.Keeps.{Mentions}
use Rattle.format_spec.specs.declared.format.FormatLevel.{FormatLevel}
use Rattle.format_spec.specs.Formats.{letters_of}
use Rattle.level_core.specs.declared.letter.Letter.TheVariants.{Dense}
use Rattle.level_core.specs.Kinds.{properties}
use Rattle.appended_results.specs.Places.{is_fixed}
use Rattle.appended_results.specs.Codes.{AppendsFirst, AreKeys, begins_code, inner_of}
use Rattle.appended_results.proofs.TestLaws.{begins_mentions}
use Rattle.appended_results.proofs.LoopLaws.{none_appended, next_appended}
use Rattle.appended_results.proofs.heads.append_levels.Goals as goal

abbrev none : FormatLevel
none = record { letter = Dense; mode = 0 }

pub loop-above-init : goal.loop-above-init
loop-above-init c =
    let letters = letters_of c.args.format.now in (
      subst (AppendsFirst letters c.args.head c.args.base c.args.free c.args.keys.now 0) (sym c.new-code.ensures)
          (none_appended letters c.args.head c.args.base c.args.free c.args.keys.now),
      refl,
    )

pub append_to_level-requires-clause-test : goal.append_to_level-requires-clause-test
append_to_level-requires-clause-test c =
    let inner = inner_of (length c.args.format.now) c.args.free in
    let many = length-map c.args.format.now (λ (level : FormatLevel). level.letter) in
    let within = c.requires.head.within in
    let room = c.requires.room.result in
    subst (Mentions (λ y. y < inner) (λ a. ⊥)) (sym c.in_ok-test.ensures)
    (begins_mentions c.args.base c.args.head c.args.free inner c.args.keys.now (omega (arith, within, many, room)) (omega arith)
    c.requires.head.some (λ e h. (c.requires.keys.outside e (omega (arith, h, within, many))).below) c.chain_end.result)

pub loop-above-preserved : goal.loop-above-preserved
loop-above-preserved c =
    let format = c.args.format.now in
    let letters = letters_of format in
    let above = c.loop-above.above in
    let test = c.loop-above-test.true in
    let many = length-map format (λ (level : FormatLevel). level.letter) in
    let room = c.requires.room.result in
    let keys = c.args.keys.now in (
      subst (λ k. AppendsFirst letters c.args.head c.args.base c.args.free keys k c.append.new.self) (sym (add-one above))
          (next_appended letters c.args.head c.args.base c.args.free above keys
          (subst (λ m. AreKeys m c.args.base c.args.free keys) (sym many) c.requires.keys) (omega (arith, room, many))
          c.in_ok-test.test (slice_index keys above) c.loop-above.code c.in_ok-level.level c.append.new.self
          (c.in_ok-test.ensures ∙ ap (begins_code c.args.base c.args.head keys) c.chain_end.ensures) refl
          c.loop-above.invariant.0 c.in_ok-level.ensures c.in_ok-append.ensures.ok),
      c.stays_fixed-fixed.ensures ∙ ap (λ f. f && (properties (get_or format above none).letter).full) c.loop-above.invariant.1
          ∙ ap (λ k. is_fixed letters above && (properties k).full)
          (sym (get_or-map (λ (level : FormatLevel). level.letter) format above none Dense test))
          ∙ ap (is_fixed letters) (sym (add-one above)),
    )

pub returns : goal.returns
returns c =
    let letters = letters_of c.args.format.now in
    let all : c.loop-above.above ≡ length c.args.format.now = omega arith in
    subst (λ k. AppendsFirst letters c.args.head c.args.base c.args.free c.args.keys.now k c.loop-above.code) all c.loop-above.invariant.0
