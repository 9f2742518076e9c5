-- When a statement can be run over its operands.
use Rattle.std.specs.Prelude.{◌≡◌, ℕ, List, Option, Result, Ok, Vec}
use Rattle.std.specs.declared.alloc.Global.{Global}
use Rattle.tensor_map.specs.Entries.{Entries}
use Rattle.format_spec.specs.declared.format.FormatLevel.{FormatLevel}
use Rattle.index_notation.specs.declared.syntax.Statement.{Statement}
use Rattle.expr_terms.specs.Ranges.{ranges_of}
use Rattle.expr_terms.specs.Told.{given_at, bound_at}
use Rattle.expr_terms.specs.declared.bound.Bound.{Bound}
use Rattle.expr_terms.specs.declared.range_fault.RangeFault.{RangeFault}
use Rattle.operand_packing.specs.Operands.{AreOperands, AreRanges}

-- the ranges of a statement's variables, or their first refusal: by those that words give, and by what each mode of the operands,
-- tensor 1 and on, tells
abbrev pub told_ranges : Statement → List (Option ℕ) → List (Vec Bound Global) → Result (List ℕ) RangeFault
told_ranges s given bounds = ranges_of s (given_at given) (bound_at bounds)

-- the operands and formats are those of the statement, and whatever ranges these are, they are above the operands' coordinates
pub record IsRunnable (s : Statement) (formats : List (List FormatLevel)) (given : List (Option ℕ)) (operands : List Entries)
    (bounds : List (Vec Bound Global)) : Type 0 where
  pub operands_are : AreOperands s formats operands
  pub ranges_fit : (ranges : List ℕ) → told_ranges s given bounds ≡ Ok ranges → AreRanges s operands ranges
