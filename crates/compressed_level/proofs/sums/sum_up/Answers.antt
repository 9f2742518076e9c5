use Rattle.std.proofs.Common.{◌+◌, ◌∙◌, sym, subst, arith}
use Rattle.limits.proofs.Limits.{positions_are_small}
use Rattle.coordinate_lists.proofs.Words.{fits_wide}
use Rattle.compressed_level.specs.SumLaws.{Summing}
use Rattle.compressed_level.proofs.SumLaws.{sums_length, sums_within, sums_go}
use Rattle.compressed_level.proofs.sums.sum_up.Goals as goal

pub get-sum-requires : goal.get-sum-requires
get-sum-requires c = let long =
    sums_length c.args.numbers.now.items c.loop-i.numbers.items c.loop-i.i c.loop-i.sum c.loop-i.invariant.0 in let below =
    c.loop-i-test.true in let end = c.len-i-end.ensures in omega (arith, long, below, end)

pub overflow_add-sum : goal.overflow_add-sum
overflow_add-sum c =
    let within = sums_within c.args.numbers.now.items c.loop-i.numbers.items c.loop-i.i c.loop-i.sum c.get-sum.result c.loop-i.invariant.0
    c.get-sum.ensures in
    let limit = c.requires.few in
    let small = positions_are_small in
    grind (arith, within, limit, small)

pub set-requires-clause-place : goal.set-requires-clause-place
set-requires-clause-place c = let long =
    sums_length c.args.numbers.now.items c.loop-i.numbers.items c.loop-i.i c.loop-i.sum c.loop-i.invariant.0 in let below =
    c.loop-i-test.true in let end = c.len-i-end.ensures in omega (arith, long, below, end)

pub set-requires-clause-fits : goal.set-requires-clause-fits
set-requires-clause-fits c = fits_wide c.loop-i.numbers.wide (c.loop-i.sum + c.get-sum.result) c.loop-i.invariant.2

pub loop-i-preserved : goal.loop-i-preserved
loop-i-preserved c = (
  subst (λ ns. Summing c.args.numbers.now.items ns (c.loop-i.i + 1) (c.loop-i.sum + c.get-sum.result)) (sym c.set.ensures.items)
      (sums_go c.args.numbers.now.items c.loop-i.numbers.items c.loop-i.i c.loop-i.sum c.get-sum.result c.loop-i.invariant.0
      c.get-sum.ensures),
  c.set.ensures.spare ∙ c.loop-i.invariant.1,
  c.set.ensures.wide ∙ c.loop-i.invariant.2,
)
