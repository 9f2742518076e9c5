use Rattle.std.proofs.Common.{◌≡◌, drop}
use Rattle.std.specs.List.{list_all}
use Rattle.index_notation.specs.Tokens.{goes_on}
use Rattle.bindings.proofs.word.go_on_in_name.Given as goal

abbrev pub invariant-loop-byte : goal.invariant-loop-byte
invariant-loop-byte l = list_all goes_on l.bytes ≡ list_all goes_on (drop l.byte-index l.bytes)
