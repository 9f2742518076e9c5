use Rattle.std.proofs.Common.{rules, ◌≡◌, ◌∙◌, ap, map}
use Rattle.std.specs.Prelude.{nat_lt}
use Rattle.std.specs.Cmp.{nat_cmp_total}
use Rattle.std.specs.Ordering.{is_lt, nat_cmp}
use Rattle.std.proofs.lemmas.Fn.{always_returns_same}
use Rattle.std.proofs.lemmas.List.Sorted.{ranks_by}
use Rattle.kernel_code.proofs.SortLemmas.{stable_sort_is, by_numbers}
use Rattle.kernel_code.specs.Rows.{ListRow}
use Rattle.machine_parts.specs.declared.rows.ScratchRow.{ScratchRow}
use Rattle.machine_parts.specs.Rows.{as_row}
use Rattle.machine_parts.proofs.SumLemmas.{sorted_map}
use Rattle.machine_parts.proofs.rows.sort_rows.Goals as goal

pub returns : goal.returns
returns c =
    let key = λ (r : ScratchRow). r.coordinate in
    let lt = λ (x : ScratchRow) (y : ScratchRow). is_lt (nat_cmp x.coordinate y.coordinate) in
    let old = c.args.rows.now.items in
    ap (map as_row) (stable_sort_is lt (ranks_by nat_cmp_total key) old c.sort_by_key.new.self.items
    (c.in_ok-sort_by_key.ensures.sorted key (always_returns_same _ (λ a r. r ≡ a.0.now.coordinate) _ (λ a r q k. search rules)))
    (c.in_ok-sort_by_key.ensures.stable key (always_returns_same _ (λ a r. r ≡ a.0.now.coordinate) _ (λ a r q k. search rules)))
    ∙ by_numbers key old)
    ∙ sorted_map as_row (λ (q : ListRow) (r : ListRow). nat_lt q.coordinate r.coordinate) old
