use Rattle.std.proofs.Common.{sym, subst}
use Rattle.tensor_map.specs.Entries.{Entries, IsEntry}
use Rattle.std.specs.Prelude.{All}
use Rattle.tensor_map.specs.EntryLists.{listed_in}
use Rattle.tensor_map.proofs.entry_list.EntryList.sort_sum.Goals as goal

pub columns_of-requires-clause-long : goal.columns_of-requires-clause-long
columns_of-requires-clause-long g c k d h =
    let all : All (IsEntry c.self.inside.order) (listed_in c.self.inside.form) =
    subst (λ (row : Entries). All (IsEntry row.order) row.list) (sym c.self.view_is) c.requires in
    let old : All (IsEntry c.self.inside.order) c.in-Pairs.pairs.items =
    subst (λ form. All (IsEntry c.self.inside.order) (listed_in form)) c.in-Pairs.is all in
    (c.sort_rows.ensures.sorts.each c.self.inside.order old k d h).long

pub columns_of-requires-in-Rows-clause-long : goal.columns_of-requires-in-Rows-clause-long
columns_of-requires-in-Rows-clause-long g c k d h =
    let all : All (IsEntry c.self.inside.order) (listed_in c.self.inside.form) =
    subst (λ (row : Entries). All (IsEntry row.order) row.list) (sym c.self.view_is) c.requires in
    let old : All (IsEntry c.self.inside.order) c.in-Rows.rows.items =
    subst (λ form. All (IsEntry c.self.inside.order) (listed_in form)) c.in-Rows.is all in
    (c.sort_rows-in-Rows.ensures.sorts.each c.self.inside.order old k d h).long
