use Rattle.std.specs.Prelude.{◌≡◌, length}
use Rattle.std.proofs.Common.{ap, arith}
use Rattle.limits.proofs.Limits.{orders_are_small}
use Rattle.statement_facts.proofs.facts.facts_of_tensor.Goals as goal

pub facts_of_levels-requires : goal.facts_of_levels-requires
facts_of_levels-requires c = record {
  few =
      let same : length c.levels.result.now ≡ length c.args.format.now = ap length c.levels.ensures.value in
      let short = c.levels.ensures.format.short in
      let small = orders_are_small in
      omega (arith, same, short, small);
}
