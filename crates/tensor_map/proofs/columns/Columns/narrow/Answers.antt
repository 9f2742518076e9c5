use Rattle.std.proofs.Common.{◌<◌, ◌≡◌, ◌≤◌, ◌∙◌, sym, ap, subst, length, arith, get_or, take, Vec, Global, ℕ}
use Rattle.std.proofs.lemmas.List.{get_or_default, length-take-le, get_or-map}
use Rattle.limits.specs.Limits.{greatest_order}
use Rattle.tensor_map.specs.Entries.{Entry, Entries}
use Rattle.tensor_map.proofs.ColumnRows.{length_rows, entry_at}
use Rattle.tensor_map.proofs.columns.Columns.narrow.Goals as goal

pub index-requires : goal.index-requires
unfolding greatest_order
index-requires c =
    let many : length c.self.inside.values.items ≡ length c.args.self.now.list =
    sym (length_rows _ _ _ _) ∙ ap (λ (row : Entries). length row.list) c.self.view_is in
    let all : length (take c.self.inside.order c.self.inside.modes) ≡ c.self.inside.order =
    length-take-le c.self.inside.order c.self.inside.modes (omega (arith, c.self.invariant.0, c.self.invariant.2)) in
    let order : c.self.inside.order ≡ c.args.self.now.order = ap (λ (row : Entries). row.order) c.self.view_is in
    let long : length c.self.inside.values.items ≤ length c.index-columns-mode.result.items =
    subst (λ (column : Vec ℕ Global). length c.self.inside.values.items ≤ length column.items) (sym c.index-columns-mode.is)
    (c.self.invariant.1 c.args.mode c.index-columns-mode.result (omega (arith, c.requires.mode))) in
    omega (arith, c.index-columns-mode.result.ok.0, c.requires.entry)

pub returns : goal.returns
unfolding greatest_order
returns c d =
    let many : length c.self.inside.values.items ≡ length c.args.self.now.list =
    sym (length_rows _ _ _ _) ∙ ap (λ (row : Entries). length row.list) c.self.view_is in
    let all : length (take c.self.inside.order c.self.inside.modes) ≡ c.self.inside.order =
    length-take-le c.self.inside.order c.self.inside.modes (omega (arith, c.self.invariant.0, c.self.invariant.2)) in
    let order : c.self.inside.order ≡ c.args.self.now.order = ap (λ (row : Entries). row.order) c.self.view_is in
    let mode_in : c.args.mode < length (take c.self.inside.order c.self.inside.modes) = omega (arith, c.requires.mode) in
    let entry_in : c.args.i < length c.self.inside.values.items = omega (arith, c.requires.entry) in
    let long : length c.self.inside.values.items ≤ length c.index-columns-mode.result.items =
    subst (λ (column : Vec ℕ Global). length c.self.inside.values.items ≤ length column.items) (sym c.index-columns-mode.is)
    (c.self.invariant.1 c.args.mode c.index-columns-mode.result mode_in) in
    c.index.ensures ∙ get_or_default c.index-columns-mode.result.items c.args.i c.index.result.now 0 (omega arith)
    ∙ ap (λ (column : Vec ℕ Global). get_or column.items c.args.i 0) c.index-columns-mode.is
    ∙ sym (get_or-map (λ (column : Vec ℕ Global). get_or column.items c.args.i 0) (take c.self.inside.order c.self.inside.modes)
    c.args.mode c.index-columns-mode.result 0 mode_in)
    ∙ sym (ap (λ (entry : Entry). get_or entry.coords c.args.mode 0) (entry_at _ _ c.self.inside.values.items c.args.i d entry_in))
    ∙ ap (λ (row : Entries). get_or (get_or row.list c.args.i d).coords c.args.mode 0) c.self.view_is
