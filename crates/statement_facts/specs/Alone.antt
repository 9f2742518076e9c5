-- Variables that alone stand at a mode of a tensor: its size is their range.
use Rattle.std.specs.Prelude.{◌≡◌, ℕ, List, [], Option, Some, None}
use Rattle.index_notation.specs.declared.syntax.Access.{Access}
use Rattle.index_notation.specs.declared.syntax.Statement.{Statement}
use Rattle.expr_terms.specs.Ranges.{greatest_of, ranges_at, mode_size}
pub use Rattle.statement_facts.specs.declared.alone.Standing.{Standing}
pub use Rattle.statement_facts.specs.declared.alone.Standing.TheVariants.{Nothing, One, Several}

-- which variables stand at a mode of a tensor, in accesses: none, so that there are no ranges; one, so that the greatest range is its
abbrev pub StandsIn : ℕ → ℕ → List Access → Standing → Type 0
StandsIn tensor mode accesses Nothing = (ranges : ℕ → ℕ) → ranges_at ranges tensor mode accesses ≡ []
StandsIn tensor mode accesses (One v) = (ranges : ℕ → ℕ) → greatest_of (ranges_at ranges tensor mode accesses) ≡ ranges v
StandsIn tensor mode accesses Several = Unit {0}

-- the size of the mode is the range of the variable
abbrev pub StandsAlone : Statement → ℕ → ℕ → Option ℕ → Type 0
StandsAlone s tensor mode None = Unit {0}
StandsAlone s tensor mode (Some v) = (ranges : ℕ → ℕ) → mode_size s ranges tensor mode ≡ ranges v
