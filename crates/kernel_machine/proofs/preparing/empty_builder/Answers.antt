use Rattle.std.proofs.Common.{◌≡◌, ◌∙◌, ap, subst, take}
use Rattle.std.specs.Prelude.{IfOk, List, length, replicate}
use Rattle.level_core.specs.declared.letter.Letter.TheVariants.{Dense}
use Rattle.format_spec.specs.declared.format.FormatLevel.{FormatLevel}
use Rattle.tensor_storage.specs.Storages.{in_level_order}
use Rattle.storage_builder.specs.Building.{building}
use Rattle.tensor_storage.specs.Handed.{no_words}
use Rattle.kernel_machine.proofs.LevelSizes.{taken_order}
use Rattle.kernel_machine.proofs.preparing.empty_builder.Goals as goal

abbrev none : FormatLevel
none = record { letter = Dense; mode = 0 }

pub returns : goal.returns
returns c =
    let format = c.args.format in
    let ranges = c.args.ranges.now in
    let cut : c.in-Some.shape ≡ take (length format) ranges =
    c.in-Some.ensures.ranges ∙ ap (λ (f : List FormatLevel). take (length f) ranges) c.levels-order.ensures.value in
    let e : in_level_order format c.in-Some.shape ≡ in_level_order format ranges =
    ap (in_level_order format) cut ∙ taken_order format ranges none c.levels-order.ensures.format in
    subst (λ sizes. IfOk c.new-2.result (λ b. b ≡ building format sizes (replicate (length format) no_words))) e c.new-2.ensures
