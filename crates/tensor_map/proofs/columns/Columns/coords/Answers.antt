use Rattle.std.proofs.Common.{◌<◌, ◌≡◌, ◌≤◌, ◌∙◌, sym, ap, subst, length, arith, get_or, take, ◌∷◌, ◌++◌, [], Vec, Global, ℕ}
use Rattle.std.proofs.lemmas.List.{get_or_default, length-map, take_all, length-take}
use Rattle.tensor_map.specs.Columns.{row_of}
use Rattle.tensor_map.specs.Entries.{Entry, Entries}
use Rattle.tensor_map.proofs.ColumnRows.{length_rows, entry_at, row_more}
use Rattle.tensor_map.proofs.columns.Columns.coords.Goals as goal

pub index-requires : goal.index-requires
index-requires c =
    let many : length c.self.inside.values.items ≡ length c.args.self.now.list =
    sym (length_rows _ _ _ _) ∙ ap (λ (row : Entries). length row.list) c.self.view_is in
    let long : length c.self.inside.values.items ≤ length c.column-item.result.items =
    subst (λ (column : Vec ℕ Global). length c.self.inside.values.items ≤ length column.items) (sym c.column-item.is)
    (c.self.invariant.1 c.loop-column.column-index c.column-item.result c.loop-column-test.true) in
    omega (arith, c.column-item.result.ok.0)

pub push-requires : goal.push-requires
push-requires c =
    let many : length c.loop-column.coords ≡ length (take c.loop-column.column-index (take c.self.inside.order c.self.inside.modes)) =
    ap length c.loop-column.invariant ∙ length-map _ _ in
    let few : length (take c.loop-column.column-index (take c.self.inside.order c.self.inside.modes)) ≤ c.loop-column.column-index =
    simp length-take (omega arith) in
    let all : length (take c.self.inside.order c.self.inside.modes) ≤ c.self.inside.order = simp length-take (omega arith) in
    omega (arith, c.self.invariant.0)

pub loop-column-preserved : goal.loop-column-preserved
loop-column-preserved c =
    let long : length c.self.inside.values.items ≤ length c.column-item.result.items =
    subst (λ (column : Vec ℕ Global). length c.self.inside.values.items ≤ length column.items) (sym c.column-item.is)
    (c.self.invariant.1 c.loop-column.column-index c.column-item.result c.loop-column-test.true) in
    let many : length c.self.inside.values.items ≡ length c.args.self.now.list =
    sym (length_rows _ _ _ _) ∙ ap (λ (row : Entries). length row.list) c.self.view_is in
    let read : c.index.result.now ≡ get_or c.column-item.result.items c.args.i 0 =
    c.index.ensures ∙ get_or_default c.column-item.result.items c.args.i c.index.result.now 0 (omega arith) in
    c.push.ensures
    ∙ (λ i. c.loop-column.invariant i ++ read i ∷ [])
    ∙ ap (λ (column : Vec ℕ Global). row_of (λ (x : Vec ℕ Global). x.items)
    (take c.loop-column.column-index (take c.self.inside.order c.self.inside.modes)) c.args.i ++ get_or column.items c.args.i 0 ∷ [])
    c.column-item.is
    ∙ sym (row_more (λ (x : Vec ℕ Global). x.items) (take c.self.inside.order c.self.inside.modes) c.args.i c.loop-column.column-index
    c.column-item.result c.loop-column-test.true)

pub returns : goal.returns
returns c d =
    let many : length c.self.inside.values.items ≡ length c.args.self.now.list =
    sym (length_rows _ _ _ _) ∙ ap (λ (row : Entries). length row.list) c.self.view_is in
    let within : c.args.i < length c.self.inside.values.items = omega arith in
    c.loop-column.invariant
    ∙ ap (λ columns. row_of (λ (column : Vec ℕ Global). column.items) columns c.args.i) (take_all _ _ c.loop-column-test.false)
    ∙ sym (ap (λ (entry : Entry). entry.coords) (entry_at _ _ c.self.inside.values.items c.args.i d within))
    ∙ ap (λ (row : Entries). (get_or row.list c.args.i d).coords) c.self.view_is
