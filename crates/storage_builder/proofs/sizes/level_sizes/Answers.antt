use Rattle.std.specs.Prelude.{◌≤◌, ◌++◌, [], ◌∷◌, take, All, slice_index, slice_index_or}
use Rattle.std.proofs.Common.{◌∙◌, sym, ap, subst, arith}
use Rattle.std.proofs.lemmas.List.Elements.{All-push, All-get_or}
use Rattle.limits.specs.Limits.{greatest_position_count}
use Rattle.level_core.specs.declared.letter.Letter.TheVariants.{Dense}
use Rattle.format_spec.specs.declared.format.FormatLevel.{FormatLevel}
use Rattle.tensor_storage.specs.Storages.{in_level_order}
use Rattle.storage_builder.proofs.Room.{mode_within, size_more}
use Rattle.storage_builder.proofs.sizes.level_sizes.Goals as goal

abbrev none : FormatLevel
none = record { letter = Dense; mode = 0 }

pub range_of-requires : goal.range_of-requires
range_of-requires c =
    let within = mode_within c.args.format.now c.loop-level.level none c.requires.format c.loop-level-test.true in
    let enough = c.requires.enough in
    omega (arith, within, enough)

pub loop-level-preserved : goal.loop-level-preserved
loop-level-preserved c =
    let l = c.loop-level in
    let format = c.args.format.now in
    let ranges = c.args.ranges.now in
    let mode = (slice_index_or format l.level none).mode in
    let within = mode_within format l.level none c.requires.format c.loop-level-test.true in
    let enough = c.requires.enough in
    let small : slice_index ranges mode ≤ greatest_position_count =
    All-get_or (λ range. range ≤ greatest_position_count) ranges mode 0 (omega (arith, within, enough)) c.requires.small in (
      c.in_ok-push.ensures.items ∙ ap (λ ns. ns ++ c.range_of.result ∷ []) l.invariant.0
          ∙ ap (λ n. take l.level (in_level_order format ranges) ++ n ∷ []) c.range_of.ensures
          ∙ sym (size_more format ranges l.level none c.loop-level-test.true),
      subst (All (λ size. size ≤ greatest_position_count)) (sym c.in_ok-push.ensures.items)
          (All-push (λ size. size ≤ greatest_position_count) l.sizes.items c.range_of.result l.invariant.1
          (subst (λ n. n ≤ greatest_position_count) (sym c.range_of.ensures) small)),
    )
