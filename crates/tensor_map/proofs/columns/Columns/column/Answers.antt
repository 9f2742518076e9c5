use Rattle.std.proofs.Common.{◌<◌, ◌≡◌, ◌≤◌, ◌∙◌, sym, ap, subst, length, arith, get_or, take, Vec, Global, ℕ}
use Rattle.std.proofs.lemmas.List.{length-take-le}
use Rattle.limits.specs.Limits.{greatest_order}
use Rattle.tensor_map.specs.Entries.{Entries, column_in}
use Rattle.tensor_map.proofs.ColumnRows.{column_is}
use Rattle.tensor_map.proofs.columns.Columns.column.Goals as goal

pub slice_bounds-result-end : goal.slice_bounds-result-end
unfolding greatest_order
slice_bounds-result-end c =
    let all : length (take c.self.inside.order c.self.inside.modes) ≡ c.self.inside.order =
    length-take-le c.self.inside.order c.self.inside.modes (omega (arith, c.self.invariant.0, c.self.invariant.2)) in
    let order : c.self.inside.order ≡ c.args.self.now.order = ap (λ (row : Entries). row.order) c.self.view_is in
    let long : length c.self.inside.values.items ≤ length c.index-columns-mode.result.items =
    subst (λ (column : Vec ℕ Global). length c.self.inside.values.items ≤ length column.items) (sym c.index-columns-mode.is)
    (c.self.invariant.1 c.args.mode c.index-columns-mode.result (omega (arith, c.requires, all, order))) in
    let many : c.len.result ≡ length c.self.inside.values.items = omega (arith, c.len.ensures, c.self.inside.values.ok.0) in
    let slice : length c.as_slice-column.result.now ≡ length c.index-columns-mode.result.items = ap length
    c.as_slice-column.ensures.value in
    sym (length-take-le c.len.result c.as_slice-column.result.now (omega (arith, long, many, slice)))

pub returns : goal.returns
unfolding greatest_order
returns c =
    let all : length (take c.self.inside.order c.self.inside.modes) ≡ c.self.inside.order =
    length-take-le c.self.inside.order c.self.inside.modes (omega (arith, c.self.invariant.0, c.self.invariant.2)) in
    let order : c.self.inside.order ≡ c.args.self.now.order = ap (λ (row : Entries). row.order) c.self.view_is in
    let within : c.args.mode < length (take c.self.inside.order c.self.inside.modes) = omega (arith, c.requires, all, order) in
    let many : c.len.result ≡ length c.self.inside.values.items = omega (arith, c.len.ensures, c.self.inside.values.ok.0) in
    ap (take c.len.result) (c.as_slice-column.ensures.value ∙ ap (λ (column : Vec ℕ Global). column.items) c.index-columns-mode.is)
    ∙ ap (λ n. take n (get_or (take c.self.inside.order c.self.inside.modes) c.args.mode c.index-columns-mode.result).items) many
    ∙ column_is (λ (column : Vec ℕ Global). column.items) (take c.self.inside.order c.self.inside.modes) c.self.inside.values.items
    c.args.mode c.index-columns-mode.result within (c.self.invariant.1 c.args.mode c.index-columns-mode.result within)
    ∙ ap (λ (row : Entries). column_in row.list c.args.mode) c.self.view_is
