use Rattle.std.proofs.Common.{ℕ, List}
use Rattle.bindings.specs.Tables.{IsBound}
use Rattle.bindings.proofs.Formats.{FormatsSoFar}
use Rattle.bindings.proofs.binding.formats_of.Given as goal

abbrev pub invariant-loop-tensor : goal.invariant-loop-tensor
invariant-loop-tensor l = (words : List (List ℕ)) → IsBound l.statement words l.bound
    → FormatsSoFar l.statement words l.tensor l.formats.items
