use Rattle.std.specs.Prelude.{◌-◌, slice_index}
use Rattle.std.proofs.Common.{◌∙◌, ap, sym}
use Rattle.level_rows.specs.Filling.{places_once}
use Rattle.level_rows.proofs.AtOnce.{last_own, last_first}
use Rattle.level_rows.proofs.numbering.last_parent.Goals as goal

pub returns-then-each : goal.returns-then-each
returns-then-each c =
    c.saturating_sub.ensures ∙ last_own c.args.count
    ∙ ap (λ b. slice_index (places_once b c.args.count) (c.args.count - 1)) (sym c.if-each.true)

pub returns : goal.returns
returns c = last_first c.args.count
    ∙ ap (λ b. slice_index (places_once b c.args.count) (c.args.count - 1)) (sym c.if-each.false)
