use Rattle.std.proofs.Common.{◌<◌, ◌≡◌, ◌∙◌, sym, ap, length, arith, get_or, take, drop, ◌++◌, Vec, Global, ℕ}
use Rattle.std.specs.Prelude.{slice_set}
use Rattle.std.proofs.lemmas.List.{take_at, length-take-le, get_or_default}
use Rattle.limits.specs.Limits.{greatest_order}
use Rattle.tensor_map.specs.Columns.{rows_of}
use Rattle.tensor_map.specs.Entries.{Entries}
use Rattle.tensor_map.proofs.ColumnRows.{length_rows, rows_overwritten}
use Rattle.tensor_map.proofs.columns.Columns.overwrite.Goals as goal

pub copy_coordinates-requires-clause-first : goal.copy_coordinates-requires-clause-first
copy_coordinates-requires-clause-first c mode d h =
    let many : length c.self.inside.values.items ≡ length c.args.self.now.list =
    sym (length_rows _ _ _ _) ∙ ap (λ (row : Entries). length row.list) c.self.view_is in
    omega (arith, c.self.invariant.1 mode d h)

pub copy_coordinates-requires-clause-second : goal.copy_coordinates-requires-clause-second
copy_coordinates-requires-clause-second c mode d h =
    let many : length c.self.inside.values.items ≡ length c.args.self.now.list =
    sym (length_rows _ _ _ _) ∙ ap (λ (row : Entries). length row.list) c.self.view_is in
    omega (arith, c.self.invariant.1 mode d h)

pub index-requires : goal.index-requires
index-requires c =
    let many : length c.self.inside.values.items ≡ length c.args.self.now.list =
    sym (length_rows _ _ _ _) ∙ ap (λ (row : Entries). length row.list) c.self.view_is in
    omega (arith, c.self.inside.values.ok.0)

pub index_mut-requires : goal.index_mut-requires
index_mut-requires c =
    let many : length c.self.inside.values.items ≡ length c.args.self.now.list =
    sym (length_rows _ _ _ _) ∙ ap (λ (row : Entries). length row.list) c.self.view_is in
    omega (arith, c.self.inside.values.ok.0)

pub returns-clause-list : goal.returns-clause-list
unfolding greatest_order
returns-clause-list c d =
    let many : length c.self.inside.values.items ≡ length c.args.self.now.list =
    sym (length_rows _ _ _ _) ∙ ap (λ (row : Entries). length row.list) c.self.view_is in
    let all : length (take c.self.inside.order c.self.inside.modes) ≡ c.self.inside.order =
    length-take-le c.self.inside.order c.self.inside.modes (omega (arith, c.self.invariant.0)) in
    let front : take c.self.inside.order (c.copy_coordinates.new.columns ++ drop c.self.inside.order c.self.inside.modes)
    ≡ c.copy_coordinates.new.columns = take_at _ _ c.self.inside.order (c.copy_coordinates.auto.columns ∙ all) in
    let from_in : c.args.from < length c.self.inside.values.items = omega arith in
    let read : c.index.result.now ≡ get_or c.self.inside.values.items c.args.from 0 =
    c.index.ensures ∙ get_or_default c.self.inside.values.items c.args.from c.index.result.now 0 from_in in
    ap (λ columns. rows_of (λ (column : Vec ℕ Global). column.items) columns
    (slice_set c.self.inside.values.items c.args.to c.index.result.now))
    front
    ∙ rows_overwritten (λ (column : Vec ℕ Global). column.items) (take c.self.inside.order c.self.inside.modes)
    c.copy_coordinates.new.columns c.self.inside.values.items _ c.args.to c.args.from d c.copy_coordinates.auto.columns
    c.self.invariant.1 (omega arith) from_in c.copy_coordinates.ensures (ap (slice_set c.self.inside.values.items c.args.to) read)
    ∙ ap (λ (row : Entries). slice_set row.list c.args.to (get_or row.list c.args.from d)) c.self.view_is
