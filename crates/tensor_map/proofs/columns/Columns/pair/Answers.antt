use Rattle.std.proofs.Common.{◌<◌, ◌≡◌, ◌∙◌, sym, ap, length, arith, get_or, take, ◌∷◌, []}
use Rattle.std.proofs.lemmas.List.{length-take-le}
use Rattle.limits.specs.Limits.{greatest_order}
use Rattle.tensor_map.specs.Entries.{Entries}
use Rattle.tensor_map.proofs.ColumnRows.{length_rows, row_long, two_is}
use Rattle.tensor_map.proofs.columns.Columns.pair.Goals as goal

pub returns : goal.returns
unfolding greatest_order
returns c d =
    let many : length c.self.inside.values.items ≡ length c.args.self.now.list =
    sym (length_rows _ _ _ _) ∙ ap (λ (row : Entries). length row.list) c.self.view_is in
    let all : length (take c.self.inside.order c.self.inside.modes) ≡ c.self.inside.order =
    length-take-le c.self.inside.order c.self.inside.modes (omega (arith, c.self.invariant.0, c.self.invariant.2)) in
    let order : c.self.inside.order ≡ c.args.self.now.order = ap (λ (row : Entries). row.order) c.self.view_is in
    let entry_in : c.args.i < length c.self.inside.values.items = omega (arith, c.requires.entry) in
    let two : length (get_or c.args.self.now.list c.args.i d).coords ≡ 2 =
    sym (ap (λ (row : Entries). length (get_or row.list c.args.i d).coords) c.self.view_is)
    ∙ row_long _ _ c.self.inside.values.items c.args.i d entry_in ∙ all ∙ order ∙ c.requires.two in
    c.new.ensures ∙ (λ j. record {
      coords = ((λ k. c.narrow-row.ensures d k ∷ c.narrow-column.ensures d k ∷ [])
          ∙ two_is (get_or c.args.self.now.list c.args.i d).coords two) j;
      value = c.value.ensures d j;
    })
