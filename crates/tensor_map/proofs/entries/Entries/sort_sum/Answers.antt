use Rattle.std.proofs.Common.{◌≤◌, ◌∙◌, sym, subst}
use Rattle.std.specs.Prelude.{All}
use Rattle.limits.specs.Limits.{greatest_order}
use Rattle.tensor_map.specs.Entries.{AreEntries, IsEntry}
use Rattle.tensor_map.proofs.Noted.{same_greatest}
use Rattle.tensor_map.proofs.entries.Entries.sort_sum.Goals as goal

row_of : (g : _) (c : goal.After-sort_sum g) → AreEntries c.sort_sum.new.self
row_of g c = record {
  short = subst (λ n. n ≤ greatest_order) (sym c.sort_sum.ensures.order) c.self.invariant.row.short;
  each = subst (λ n. All (IsEntry n) c.sort_sum.new.self.list) (sym c.sort_sum.ensures.order)
      (c.sort_sum.ensures.sorts.each _ c.self.invariant.row.each);
}

pub invariant_of-self : goal.invariant_of-self
invariant_of-self g c = record {
  row = row_of g c;
  most = λ mode. c.self.invariant.most mode ∙ sym (same_greatest _ _ mode c.sort_sum.ensures.sorts.listed);
}

pub returns-clause-entries : goal.returns-clause-entries
returns-clause-entries g c = row_of g c
