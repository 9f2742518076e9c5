use Rattle.std.proofs.Common.{rules, ◌≡◌, ◌∙◌, ℕ, List, Bool, ap, map}
use Rattle.std.specs.Cmp.{IsStrictWeakOrder}
use Rattle.std.specs.Cmp.Lexicographic.{nat_list_cmp_total}
use Rattle.std.proofs.lemmas.Fn.{always_returns_same}
use Rattle.std.specs.Ordering.{is_lt}
use Rattle.std.proofs.lemmas.List.Sorted.{ranks_by}
use Rattle.machine_parts.specs.declared.sums.PlacedRow.{PlacedRow}
use Rattle.kernel_code.specs.Rows.{keys_at, row_before}
use Rattle.machine_parts.specs.Rows.{row_of}
use Rattle.kernel_code.proofs.SortLemmas.{stable_sort_is}
use Rattle.machine_parts.proofs.SumLemmas.{read, sorted_map}
use Rattle.machine_parts.proofs.sums.sort_places.Goals as goal

abbrev before : List (List ℕ) → PlacedRow → PlacedRow → Bool
before columns p q = row_before (row_of columns p) (row_of columns q)

before_orders : (columns : List (List ℕ)) → IsStrictWeakOrder (before columns)
before_orders columns = ranks_by nat_list_cmp_total (λ (p : PlacedRow). keys_at columns p.place)

pub returns : goal.returns
returns c =
    let columns = read c.args.columns.now in
    let old = c.args.rows.now.items in
    ap (map (row_of columns)) (stable_sort_is (before columns) (before_orders columns) old c.sort_by.new.self.items
    (c.in_ok-sort_by.ensures.sorted (before columns) (before_orders columns)
    (always_returns_same _ (λ a r. is_lt r ≡ before columns a.0.now a.1.0.now) _ (λ a r q k. search rules)))
    (c.in_ok-sort_by.ensures.stable (before columns) (before_orders columns)
    (always_returns_same _ (λ a r. is_lt r ≡ before columns a.0.now a.1.0.now) _ (λ a r q k. search rules))))
    ∙ sorted_map (row_of columns) row_before old
