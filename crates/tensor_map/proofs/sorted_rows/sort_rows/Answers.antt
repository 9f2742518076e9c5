use Rattle.std.proofs.Common.{◌∙◌}
use Rattle.tensor_map.proofs.Sorting.{sorts_and_adds}
use Rattle.tensor_map.proofs.sorted_rows.sort_rows.Goals as goal

pub returns-clause-sorts : goal.returns-clause-sorts
returns-clause-sorts g c =
    sorts_and_adds g.S.Semiring.arithmetic g.met.S.Semiring.laws _ _ _ c.sort_by_coords.ensures.permutation c.sort_by_coords.ensures.sorted
    (c.keep_first.ensures ∙ c.add_neighbours-kept.ensures.front)
