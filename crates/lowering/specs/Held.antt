-- When what is stored of the accesses of a statement is what its operands tell.
use Rattle.std.specs.Prelude.{◌≡◌, ℕ, zero, suc, ◌+◌, ◌<◌, length, Option, Some, slice_get}
use Rattle.numbers.specs.Arithmetic.{Arithmetic}
use Rattle.level_core.specs.declared.span.Span.{Span}
use Rattle.level_core.specs.Entries.{one}
use Rattle.tensor_storage.specs.Children.{child_of}
use Rattle.index_notation.specs.declared.syntax.Statement.{Statement}
use Rattle.expr_terms.specs.Value.{access_value_or_zero}
use Rattle.expr_terms.specs.ValueLaws.{AreWords}
use Rattle.workspaces.specs.Presence.{access_is_present, TellsPart}
use Rattle.concrete_notation.specs.Contributions.{Inputs}
use Rattle.loop_code.specs.Loops.{Layout, Stored, follow, word_of}
use Rattle.lowering.specs.Sums.{AreSummed, first_sum}

-- the positions to which the coordinates of the first levels of an access lead at a point, if they are stored
abbrev pub path_span : Layout → Stored → ℕ → ℕ → (ℕ → ℕ) → Option Span
path_span layout stored k zero point = Some (one 0)
path_span layout stored k (suc d) point =
    follow (path_span layout stored k d point) (λ p. child_of (stored.entries k (suc d) p) (point (layout.variable k (suc d))))

-- the value to which the coordinates of all its levels lead
abbrev pub path_value : Layout → Stored → (ℕ → ℕ) → ℕ → Option ℕ
path_value layout stored point k = word_of (stored.word k) (path_span layout stored k (layout.levels k) point)

-- at every point each access of a tensor leads to a value exactly where its coordinates are a path of the tensor, to that of the tensor,
-- which is zero elsewhere; of a sum what is told is the sum, and its value is where a position stands. All values are words
pub record AreHeld (a : Arithmetic) (layout : Layout) (stored : Stored) (s : Statement) (inputs : Inputs) : Type 0 where
  pub words : AreWords inputs.values
  pub told : (k : ℕ) → k < first_sum s → (point : ℕ → ℕ)
      → TellsPart a (access_is_present inputs.paths point (slice_get s.accesses k)) (access_value_or_zero a inputs.values point
      (slice_get s.accesses k))
      (path_value layout stored point k)
  pub summed : AreSummed a s inputs
  pub plain : (n : ℕ) → n < length s.sums → (value : ℕ) → stored.word (first_sum s + n) value ≡ value
