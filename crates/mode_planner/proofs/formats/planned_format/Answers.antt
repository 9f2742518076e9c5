use Rattle.std.specs.Prelude.{length}
use Rattle.std.proofs.Common.{◌∙◌, sym, subst}
use Rattle.format_spec.specs.Formats.{IsOrder}
use Rattle.mode_planner.proofs.StoredFormats.{order_is}
use Rattle.mode_planner.proofs.formats.planned_format.Goals as goal

pub with_modes-requires : goal.with_modes-requires
with_modes-requires c =
    subst (IsOrder (length c.args.format.now)) (sym (c.as_slice.ensures ∙ c.in_ok-modes.ensures))
    (order_is c.args.count c.args.format.now c.args.vars.now c.requires.same c.requires.once c.requires.below)
