use Rattle.std.proofs.Common.{◌≡◌, ◌+◌, length}
use Rattle.text_lines.specs.Tokens.{tokens}
use Rattle.tns_io.proofs.entry_lines.has_fields.Given as goal

abbrev pub invariant-loop : goal.invariant-loop
invariant-loop l = length (tokens l.line) ≡ l.counter + length (tokens l.rest)
