use Rattle.std.specs.Bool.{then_some}
use Rattle.std.proofs.Common.{◌≡◌, ◌∙◌, ◌+◌, ◌++◌, ◌∷◌, [], ap, arith, drop, slice_index_or}
use Rattle.level_core.specs.declared.letter.Letter.TheVariants.{Dense}
use Rattle.format_spec.specs.declared.format.FormatLevel.{FormatLevel}
use Rattle.format_spec.specs.Formats.{letters_of}
use Rattle.level_core.specs.declared.letter.Properties.{Properties}
use Rattle.level_core.specs.Kinds.{properties}
use Rattle.machine_starts.specs.Begun.{sizes_lent}
use Rattle.machine_starts.proofs.Steps.{lent_next, lent_done}
use Rattle.machine_starts.proofs.result.sizes_lent.Goals as goal

abbrev none : FormatLevel
none = record { letter = Dense; mode = 0 }

pub loop-number-preserved : goal.loop-number-preserved
loop-number-preserved c =
    let l = c.loop-number in
    let format = c.args.format.now in
    let sizes = c.args.sizes.now in
    let long = c.requires in
    let letter = (slice_index_or format l.number none).letter in
    let size = slice_index_or sizes l.number 0 in
    let one : c.then_some.result ≡ then_some (properties letter).full size =
    c.then_some.ensures ∙ ap (λ (p : Properties). then_some p.full size) c.props_of-full.ensures in
    ap (λ xs. xs ++ sizes_lent (drop (l.number + 1) (letters_of format)) (drop (l.number + 1) sizes))
    (c.in_ok-push.ensures.items ∙ ap (λ o. l.lent.items ++ o ∷ []) one)
    ∙ lent_next format sizes l.number none l.lent.items c.loop-number-test.true (omega (arith, long)) ∙ l.invariant

pub returns : goal.returns
returns c =
    let l = c.loop-number in
    lent_done c.args.format.now (drop l.number c.args.sizes.now) l.number l.lent.items (omega arith) ∙ l.invariant
