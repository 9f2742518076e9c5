use Rattle.std.proofs.Common.{◌∙◌, sym, subst}
use Rattle.tensor_map.specs.Entries.{StrictlyIncreasing}
use Rattle.tensor_map.specs.EntryLists.{AreInOrder}
use Rattle.tensor_map.specs.declared.entry_list.EntryForm.TheVariants.{Columns}
use Rattle.tensor_map.proofs.Noted.{increasing_more}
use Rattle.tensor_map.proofs.entry_list.EntryList.push.Goals as goal

pub invariant_of-self-then-come_last : goal.invariant_of-self-then-come_last
invariant_of-self-then-come_last c =
    let stood : AreInOrder c.self.inside.order (Columns c.in-Columns.columns) =
    subst (AreInOrder c.self.inside.order) c.in-Columns.is c.self.invariant.in_order in
    record {
      short = c.self.invariant.short;
      in_order = (
        c.push.ensures.order ∙ stood.0,
        subst StrictlyIncreasing (sym c.in_ok-push.ensures.ok)
            (increasing_more c.in-Columns.columns.list (record { coords = c.args.coords.now; value = c.args.value }) stood.1
            (c.come_last.ensures.0 c.if-come_last.true)),
      );
    }
