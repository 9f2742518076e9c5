use Rattle.std.specs.Prelude.{ℕ, ◌<◌, slice_index}
use Rattle.appended_results.specs.Levels.{IsMine}
use Rattle.appended_results.proofs.sink.are_other.Given as goal

-- none of those so far
abbrev pub invariant-loop-variable : goal.invariant-loop-variable
invariant-loop-variable l = (e : ℕ) → e < l.variable-index → IsMine l.base l.levels (slice_index l.variables e) → ⊥
