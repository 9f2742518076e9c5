use Rattle.std.proofs.Common.{◌∙◌, sym, subst, rules}
use Rattle.std.proofs.lemmas.List.Elements.{filter_from_retain}
use Rattle.tensor_map.specs.Entries.{is_nonzero, StrictlyIncreasing}
use Rattle.tensor_map.specs.EntryLists.{AreInOrder}
use Rattle.tensor_map.specs.declared.entry_list.EntryForm.TheVariants.{Columns, Pairs}
use Rattle.tensor_map.proofs.Lemmas.{increasing_filter}
use Rattle.tensor_map.proofs.entry_list.EntryList.nonzero.Goals as goal
use Rattle.tensor_map.proofs.entry_list.EntryList.nonzero.Goals.{in-Columns, in-Pairs, in-Rows}

pub invariant_of-self : goal.invariant_of-self
invariant_of-self g c = elim c.match-self.branch [
  | in-Columns w ↦ (
      let stood : AreInOrder c.self.inside.order (Columns w.in-Columns.columns) =
      subst (AreInOrder c.self.inside.order) w.in-Columns.is c.self.invariant.in_order in
      rw w.self-inside-is (record {
        short = c.self.invariant.short;
        in_order = (
          w.keep_nonzero.ensures.order ∙ stood.0,
          subst StrictlyIncreasing (sym w.keep_nonzero.ensures.kept) (increasing_filter (is_nonzero g.S.Semiring.arithmetic) _ stood.1),
        );
      }))
  | in-Pairs w ↦ (
      let stood : AreInOrder c.self.inside.order (Pairs w.in-Pairs.pairs) =
      subst (AreInOrder c.self.inside.order) w.in-Pairs.is c.self.invariant.in_order in
      rw w.self-inside-is (record { short = c.self.invariant.short; in_order = stood }))
  | in-Rows w ↦ rw w.self-inside-is (record { short = c.self.invariant.short; in_order = tt })
]

pub returns-clause-kept : goal.returns-clause-kept
returns-clause-kept g c = elim c.match-self.branch [
  | in-Columns w ↦ rw (w.self-inside-is, ← c.self.view_is) (rw w.in-Columns.is w.keep_nonzero.ensures.kept)
  | in-Pairs w ↦ rw (w.self-inside-is, ← c.self.view_is) (rw w.in-Pairs.is (filter_from_retain _ (is_nonzero g.S.Semiring.arithmetic)
      (λ p x b q k. search rules) _ w.in-Pairs.pairs.items w.retain.new.self.items w.retain.ensures.filtered))
  | in-Rows w ↦ rw (w.self-inside-is, ← c.self.view_is) (rw w.in-Rows.is (filter_from_retain _ (is_nonzero g.S.Semiring.arithmetic)
      (λ p x b q k. search rules) _ w.in-Rows.rows.items w.retain-in-Rows.new.self.items w.retain-in-Rows.ensures.filtered))
]
