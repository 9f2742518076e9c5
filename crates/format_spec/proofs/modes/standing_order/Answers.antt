use Rattle.std.specs.Prelude.{◌++◌, ◌∷◌, [], length}
use Rattle.std.proofs.Common.{◌∙◌, ap, arith, lit<}
use Rattle.limits.specs.Limits.{greatest_order}
use Rattle.format_spec.proofs.Counting.{standing_length, standing_append}
use Rattle.format_spec.proofs.modes.standing_order.Goals as goal

pub push_reserved-requires : goal.push_reserved-requires
unfolding greatest_order
push_reserved-requires c =
    let count = ap length c.loop-mode.invariant.0 ∙ standing_length c.loop-mode.mode in
    (lit< tt, omega (arith, count, c.loop-mode.invariant.1, c.loop-mode-test.true, c.requires))

pub loop-mode-preserved : goal.loop-mode-preserved
loop-mode-preserved c = (
  c.push_reserved.ensures.items ∙ ap (λ modes. modes ++ c.loop-mode.mode ∷ []) c.loop-mode.invariant.0 ∙ standing_append c.loop-mode.mode,
  c.push_reserved.ensures.capacity ∙ c.loop-mode.invariant.1,
)
