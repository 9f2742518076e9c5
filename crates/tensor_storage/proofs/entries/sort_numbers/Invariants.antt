use Rattle.std.specs.List.Sorted.{IsPermutation, IsSortedBy}
use Rattle.tensor_storage.proofs.LevelSorts.{is_before_from}
use Rattle.tensor_storage.proofs.entries.sort_numbers.Given as goal

abbrev pub invariant-loop-level : goal.invariant-loop-level
invariant-loop-level l =
    IsPermutation l.fn.numbers.items l.numbers.items × IsSortedBy (is_before_from l.format l.entries.list l.level-counter) l.numbers.items
