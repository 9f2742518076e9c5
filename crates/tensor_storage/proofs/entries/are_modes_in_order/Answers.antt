use Rattle.std.proofs.Common.{◌∙◌, below_more}
use Rattle.std.proofs.lemmas.List.{get_or-map}
use Rattle.format_spec.specs.declared.format.FormatLevel.{FormatLevel}
use Rattle.tensor_storage.proofs.entries.are_modes_in_order.Goals as goal

pub loop-level-preserved : goal.loop-level-preserved
loop-level-preserved c = below_more _ _ c.loop-level.invariant
    (get_or-map (λ (stored : FormatLevel). stored.mode) c.args.format.now c.loop-level.level _ 0 c.loop-level-test.true
    ∙ c.if-format-level.false)
