use Rattle.std.specs.Prelude.{◌+◌, ◌%◌, slice_index, refl}
use Rattle.std.proofs.Common.{◌∙◌, ap, arith}
use Rattle.hashed_level.proofs.SearchLaws.{place_next, passes_more}
use Rattle.hashed_level.proofs.slots.sought.Goals as goal

pub loop-steps-preserved : goal.loop-steps-preserved
loop-steps-preserved c =
    let f = slice_index c.args.slots.now in
    let i = c.loop-steps.invariant in
    let on = c.if-ends_search.ensures.no refl in
    let less = c.loop-steps-test.true in (
      ap (λ a. (a + 1) % c.args.width) i.0 ∙ place_next c.args.width c.args.x c.loop-steps.steps,
      omega (arith, less),
      passes_more f c.args.width c.args.base c.args.x c.loop-steps.steps i.2 (λ z. on.0 (ap (λ a. f (c.args.base + a)) i.0 ∙ z))
          (λ z. on.1 (ap (λ a. f (c.args.base + a)) i.0 ∙ z)),
    )
