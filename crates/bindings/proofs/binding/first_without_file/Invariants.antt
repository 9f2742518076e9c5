use Rattle.std.proofs.Common.{ℕ, List}
use Rattle.bindings.specs.Tables.{IsBound}
use Rattle.bindings.specs.Outcome.{HaveFiles}
use Rattle.bindings.proofs.binding.first_without_file.Given as goal

abbrev pub invariant-loop-tensor : goal.invariant-loop-tensor
invariant-loop-tensor l = (words : List (List ℕ)) → IsBound l.statement words l.bound → HaveFiles l.statement words l.tensor
