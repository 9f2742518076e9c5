use Rattle.std.specs.Prelude.{◌-◌, ◌<◌, length, slice_index_or}
use Rattle.std.proofs.Common.{ap, arith}
use Rattle.std.proofs.lemmas.List.{get_or-map, length-map}
use Rattle.level_core.specs.declared.letter.Letter.TheVariants.{Dense}
use Rattle.format_spec.specs.Formats.{FormatLevel}
use Rattle.format_spec.proofs.format.Format.mode.Goals as goal

pub returns-clause-within : goal.returns-clause-within
returns-clause-within c =
    let levels = c.self.inside.levels.items in
    let default : FormatLevel = record { letter = Dense; mode = 0 } in
    let view = ap length c.self.view_is in
    let inside : c.args.level - 1 < length levels = omega (arith, view, c.requires.first, c.requires.last) in
    let count = length-map levels (λ level. level.mode) in
    let at = get_or-map (λ level. level.mode) levels (c.args.level - 1) default 0 inside in
    let below = c.self.invariant.format.order.below (c.args.level - 1) 0 (omega (arith, inside, count)) in
    let same = ap (λ ls. (slice_index_or ls (c.args.level - 1) default).mode) c.as_slice.ensures in
    omega (arith, same, at, below, view)
