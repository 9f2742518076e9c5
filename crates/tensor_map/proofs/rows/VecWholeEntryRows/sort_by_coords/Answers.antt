use Rattle.std.proofs.Common.{rules}
use Rattle.std.proofs.lemmas.List.Sorted.{answers_always}
use Rattle.tensor_map.specs.Sorted.{is_before}
use Rattle.tensor_map.proofs.Sorting.{is_before_orders}
use Rattle.tensor_map.proofs.rows.VecWholeEntryRows.sort_by_coords.Goals as goal

pub returns-clause-sorted : goal.returns-clause-sorted
returns-clause-sorted c =
    c.sort_unstable_by.ensures.sorted is_before is_before_orders (answers_always _ _ _ (λ f a r f' k. search rules))
