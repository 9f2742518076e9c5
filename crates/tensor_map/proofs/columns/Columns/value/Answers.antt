use Rattle.std.proofs.Common.{◌<◌, ◌≡◌, ◌∙◌, sym, ap, length, arith, get_or}
use Rattle.std.proofs.lemmas.List.{get_or_default}
use Rattle.tensor_map.specs.Entries.{Entry, Entries}
use Rattle.tensor_map.proofs.ColumnRows.{length_rows, entry_at}
use Rattle.tensor_map.proofs.columns.Columns.value.Goals as goal

pub index-requires : goal.index-requires
index-requires c =
    let long : length c.self.inside.values.items ≡ length c.args.self.now.list =
    sym (length_rows _ _ _ _) ∙ ap (λ (row : Entries). length row.list) c.self.view_is in
    omega (arith, c.self.inside.values.ok.0)

pub returns : goal.returns
returns c d =
    let long : length c.self.inside.values.items ≡ length c.args.self.now.list =
    sym (length_rows _ _ _ _) ∙ ap (λ (row : Entries). length row.list) c.self.view_is in
    let within : c.args.i < length c.self.inside.values.items = omega arith in
    c.index.ensures ∙ get_or_default c.self.inside.values.items c.args.i c.index.result.now 0 within
    ∙ sym (ap (λ (entry : Entry). entry.value) (entry_at _ _ c.self.inside.values.items c.args.i d within))
    ∙ ap (λ (row : Entries). (get_or row.list c.args.i d).value) c.self.view_is
