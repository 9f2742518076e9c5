use Rattle.std.proofs.Common.{◌≡◌, ◌≤◌, drop}
use Rattle.limits.specs.Limits.{greatest_literal}
use Rattle.notation_grammar.specs.Faults.{value_after}
use Rattle.notation_reader.proofs.literals.value_of.Given as goal

abbrev pub invariant-loop-digit : goal.invariant-loop-digit
invariant-loop-digit l = record {
  same : value_after 0 l.digits ≡ value_after l.value (drop l.digit-index l.digits);
  within : l.value ≤ greatest_literal;
}
