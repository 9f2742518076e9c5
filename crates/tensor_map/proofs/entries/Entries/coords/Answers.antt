use Rattle.std.proofs.Common.{◌<◌, ◌∙◌, ap, sym, subst, length}
use Rattle.tensor_map.specs.Entries.{Entry, Entries}
use Rattle.tensor_map.proofs.entries.Entries.coords.Goals as goal

pub returns-clause-long : goal.returns-clause-long
returns-clause-long c =
    let entry : Entry = record { coords = c.coords.result; value = 0 } in
    let within : c.args.i < length c.self.inside.list.list =
    subst (λ (row : Entries). c.args.i < length row.list) (sym c.self.view_is) c.requires in
    ap length (c.coords.ensures entry) ∙ (c.self.invariant.row.each c.args.i entry within).long
    ∙ ap (λ (row : Entries). row.order) c.self.view_is
