use Rattle.std.proofs.Common.{◌≡◌, ◌++◌, take}
use Rattle.expr_terms.proofs.expansion.old_name.Given as goal

abbrev pub invariant-loop-name : goal.invariant-loop-name
invariant-loop-name l = l.all ≡ take 1 l.names ++ take l.name-index l.names
