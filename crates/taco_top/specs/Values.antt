-- The semiring that the words of a command line name: how values are added and multiplied, whether they have a minus, and how they are
-- written.
use Rattle.std.specs.Prelude.{ℕ, Bool, true, false, List, Option, None, Some, codes}
use Rattle.numbers.specs.Arithmetic.{Arithmetic, on_words}
use Rattle.numbers.specs.Ring.{ring}
use Rattle.semirings.specs.MinPlus.{lengths}
use Rattle.semirings.specs.Bits.{flags}
use Rattle.command_line.specs.CommandLine.{CommandLine, Statement, Workload, Exec, command_line_of}
use Rattle.command_line.specs.declared.Over.{Over}
use Rattle.command_line.specs.declared.Over.TheVariants as named

pub record Values : Type 0 where
  pub arithmetic : Arithmetic
  pub has_minus : Bool
  pub is_ring : Bool
  pub is_signed : Bool
  pub name : List ℕ

-- those of a semiring with these members
abbrev pub semiring : Arithmetic → Bool → Bool → Bool → List ℕ → Values
semiring a minus alone signed name = record { arithmetic = a; has_minus = minus; is_ring = alone; is_signed = signed; name = name }

abbrev pub values_of : Over → Values
values_of named.Ring = semiring ring true true true (codes "ring")
values_of named.MinPlus = semiring (on_words lengths) false false false (codes "minplus")
values_of named.Bits = semiring (on_words flags) false false true (codes "bits")

-- the semiring that a command line names, or the ring; `exec` names none, since its kernel does
abbrev pub values_of_line : Option CommandLine → Values
values_of_line None = values_of named.Ring
values_of_line (Some (Statement task over expr words)) = values_of over
values_of_line (Some (Workload size)) = values_of named.Ring
values_of_line (Some (Exec path budget expr words)) = values_of named.Ring

abbrev pub values_in : List (List ℕ) → Values
values_in words = values_of_line (command_line_of words)
