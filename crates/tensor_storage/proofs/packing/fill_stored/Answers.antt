use Rattle.std.specs.Prelude.{◌≤◌}
use Rattle.std.proofs.Common.{arith}
use Rattle.std.proofs.lemmas.Bool.Decides.{nat_tests}
use Rattle.tensor_storage.proofs.Tables.{all_apart}
use Rattle.tensor_storage.proofs.packing.fill_stored.Goals as goal

pub invariant_of-narrow : goal.invariant_of-narrow
invariant_of-narrow g c = record {
  lent = c.in-Some.ensures;
  among = c.requires.among;
  apart = λ all.
      let within : c.args.levels ≤ c.args.rows.now.through = grind (arith, nat_tests, all) in
      all_apart (g.T.RowTable.table c.args.rows.now.table.now) c.args.levels c.args.rows.now.through c.requires.order within;
}
