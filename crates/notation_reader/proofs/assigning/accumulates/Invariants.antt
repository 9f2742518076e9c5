use Rattle.std.proofs.Common.{◌≡◌, drop}
use Rattle.notation_grammar.specs.Faults.{symbols_of}
use Rattle.notation_reader.specs.Assigning.{accumulates}
use Rattle.notation_reader.proofs.assigning.accumulates.Given as goal

abbrev pub invariant-loop-placed : goal.invariant-loop-placed
invariant-loop-placed l = accumulates (symbols_of l.symbols) ≡ accumulates (symbols_of (drop l.placed-index l.symbols))
