use Rattle.std.specs.Prelude.{ℕ, ◌+◌, ◌≤◌, ◌<◌, List, [], ◌∷◌, ◌++◌, length, take, slice_index}
use Rattle.std.proofs.Common.{◌∙◌, sym, ap, arith, rules}
use Rattle.limits.specs.Limits.{greatest_position_count}
use Rattle.limits.proofs.Limits.{positions_are_small}
use Rattle.level_core.specs.Logs.{running, total}
use Rattle.coordinate_lists.proofs.Words.{fits_wide}
use Rattle.compressed_level.proofs.Handed.{sum_more, sums_more, sum_within}
use Rattle.compressed_level.proofs.made.sums_of.Goals as goal

pub overflow_add-sum : goal.overflow_add-sum
overflow_add-sum c =
    let words : List ℕ = c.args.numbers.now in
    let l = c.loop-number in
    let here : l.number-index < length words = search rules in
    let few : total words ≤ greatest_position_count = c.requires in
    let within = sum_within words l.number-index here in
    let sum = l.invariant.1 in
    omega (arith, few, within, sum, positions_are_small)

pub push-requires-clause-fits : goal.push-requires-clause-fits
push-requires-clause-fits c =
    fits_wide c.loop-number.sums.wide (c.loop-number.sum + slice_index c.args.numbers.now c.loop-number.number-index)
    c.loop-number.invariant.3

pub loop-number-preserved : goal.loop-number-preserved
loop-number-preserved c =
    let words : List ℕ = c.args.numbers.now in
    let l = c.loop-number in
    let here : l.number-index < length words = search rules in
    let sum = l.invariant.1 in
    let more = sum_more words l.number-index here in
    let room = l.invariant.2 in
    let left = c.push.ensures.spare in (
      c.push.ensures.items ∙ ap (λ ns. ns ++ (l.sum + slice_index words l.number-index) ∷ []) l.invariant.0
          ∙ ap (λ n. running 0 (take l.number-index words) ++ (n + slice_index words l.number-index) ∷ []) sum
          ∙ sym (sums_more words l.number-index here),
      omega (arith, sum, more),
      omega (arith, room, left),
      c.push.ensures.wide ∙ l.invariant.3,
    )
