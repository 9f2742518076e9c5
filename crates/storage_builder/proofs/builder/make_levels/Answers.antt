use Rattle.std.specs.Prelude.{◌≤◌, length}
use Rattle.std.proofs.Common.{◌∙◌, rules}
use Rattle.level_core.specs.declared.letter.Letter.TheVariants.{Dense}
use Rattle.format_spec.specs.declared.format.FormatLevel.{FormatLevel}
use Rattle.storage_builder.proofs.Making.{format_ready, format_next, format_done}
use Rattle.storage_builder.proofs.builder.make_levels.Goals as goal

abbrev none : FormatLevel
none = record { letter = Dense; mode = 0 }

pub into_level-requires-clause-handed : goal.into_level-requires-clause-handed
into_level-requires-clause-handed c =
    let l = c.loop-number in
    format_ready c.args.format.now c.args.sizes.now c.args.parts.items l.number l.parents l.parts.items l.levels.items l.invariant.0
    none _ c.replace-part.result c.loop-number-test.true c.requires.sizes_long c.requires.parts_long
    (c.replace-part.ensures.value ∙ c.index_mut.ensures.value) c.requires.ready.0 c.requires.ready.1

pub positions_of-parents-requires : goal.positions_of-parents-requires
positions_of-parents-requires c =
    let l = c.loop-number in
    let here = format_ready c.args.format.now c.args.sizes.now c.args.parts.items l.number l.parents l.parts.items l.levels.items
    l.invariant.0 none _ c.replace-part.result c.loop-number-test.true c.requires.sizes_long c.requires.parts_long
    (c.replace-part.ensures.value ∙ c.index_mut.ensures.value) c.requires.ready.0 c.requires.ready.1 in
    (c.in_ok-level.ensures.alike here.0 here.1).has_parents l.parents here.1.has_parents

pub loop-number-preserved : goal.loop-number-preserved
loop-number-preserved c =
    let l = c.loop-number in (
      format_next c.args.format.now c.args.sizes.now c.args.parts.items l.number l.parents l.parts.items l.levels.items l.invariant.0
          none _ c.replace-part.result c.loop-number-test.true c.requires.sizes_long c.requires.parts_long
          (c.replace-part.ensures.value ∙ c.index_mut.ensures.value)
          c.in_ok-level.level c.push_reserved.new.self.items c.positions_of-parents.result c.replace-part.new.dest
          c.in_ok-level.ensures.alike c.push_reserved.ensures.items c.positions_of-parents.ensures,
      c.push_reserved.ensures.capacity ∙ l.invariant.1,
    )

pub returns-clause-made : goal.returns-clause-made
returns-clause-made c =
    let l = c.loop-number in
    let all : length c.args.format.now ≤ l.number = search rules in
    format_done c.args.format.now c.args.sizes.now c.args.parts.items l.number l.parents l.parts.items l.levels.items l.invariant.0 all
