use Rattle.std.proofs.Common.{rules}
use Rattle.std.proofs.lemmas.Iterator.{IsFirst-from_position, YieldsList-from_slice}
use borrow.Author.Tests.{tests}
use Rattle.format_spec.specs.Formats.{IsUnordered, IsOrdered}
use Rattle.format_spec.proofs.rules.first_unordered.Goals as goal

pub returns : goal.returns
returns c = IsFirst-from_position _ _ _ IsUnordered IsOrdered c.position.ensures.ran (YieldsList-from_slice c.args.levels.now cc)
    (λ x q k. search (rules, tests)) (λ x q k. search (rules, tests))
