-- Turns are only ever added: a run leaves at least as many as it starts with, so that what is told of a
-- run within n turns in all can be told piece by piece.
use Rattle.std.specs.Prelude.{ℕ, ◌≤◌}
use Rattle.kernel_code.specs.Meaning.{Outcome, Ended, Stuck, Over, More}
use Rattle.kernel_code.specs.Kernels.{all_turns}

-- a run that leaves at least n turns
abbrev pub AtLeast : ℕ → Outcome → Type 0
AtLeast n (Ended s) = n ≤ all_turns s.turns
AtLeast n (Stuck t statement) = n ≤ all_turns t
AtLeast n (Over t a count) = n ≤ all_turns t
AtLeast n More = Unit {0}
