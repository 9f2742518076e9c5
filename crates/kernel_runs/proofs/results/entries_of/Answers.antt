use Rattle.kernel_runs.proofs.results.entries_of.Goals as goal

pub returns-clause-lists : goal.returns-clause-lists
returns-clause-lists g c = record {
  all = c.in_ok-entries.entries;
  lists = c.in_ok-entries.ensures;
  order = c.nonzero.ensures.order;
  kept = c.nonzero.ensures.kept;
  nonzero = c.nonzero.ensures.none;
  values = c.nonzero.ensures.values;
  increasing = c.nonzero.ensures.increasing c.in_ok-entries.ensures.increasing;
}
