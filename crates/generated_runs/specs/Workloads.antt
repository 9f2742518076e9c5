-- The generated workload: `A(i,j) = B(i,j) * C(i,j) + D(i,j)` over square matrices that are drawn, all in format `ds`, and what its run
-- tells.
use Rattle.std.specs.Prelude.{false, ◌≡◌, ℕ, ◌+◌, List, [], ◌∷◌, length, map, Some}
use Rattle.numbers.specs.Ring.{ring}
use Rattle.numbers.specs.Sums.{total_of}
use Rattle.tensor_map.specs.Entries.{Entries}
use Rattle.kernel_code.specs.declared.syntax.Kernel.{Kernel}
use Rattle.kernel_code.specs.declared.syntax.Turns.{Turns}
use Rattle.level_core.specs.declared.letter.Letter.TheVariants.{Dense, Compressed}
use Rattle.format_spec.specs.declared.format.FormatLevel.{FormatLevel}
use Rattle.index_notation.specs.declared.operator.Operator.TheVariants as op
use Rattle.index_notation.specs.declared.syntax.Name.{Name}
use Rattle.index_notation.specs.declared.syntax.Access.{Access}
use Rattle.index_notation.specs.declared.syntax.Expr.{Access as AccessOf, Binary}
use Rattle.index_notation.specs.declared.syntax.Statement.{Statement}
use Rattle.generated_runs.specs.Generated.{IsGenerated}
use Rattle.tensor_storage.specs.Storages.{Storage}
use Rattle.taco_compiler.specs.Compiled.{IsCompiled, IsOrder}
use Rattle.kernel_runs.specs.Runs.{IsRun}
use Rattle.reports.specs.declared.workload.Workload.{Workload}

-- a name of one letter
abbrev pub letter_name : ℕ → Name
letter_name letter = record { bytes = letter ∷ [] }

-- a matrix at row i and column j, which are variables 0 and 1
abbrev pub matrix_at : ℕ → Access
matrix_at tensor = record { tensor = tensor; vars = 0 ∷ 1 ∷ [] }

-- A(i,j) = B(i,j) * C(i,j) + D(i,j)
unfoldable pub workload_statement : Statement
workload_statement = record {
  tensors = letter_name 65 ∷ letter_name 66 ∷ letter_name 67 ∷ letter_name 68 ∷ [];
  vars = letter_name 105 ∷ letter_name 106 ∷ [];
  left = matrix_at 0;
  accumulate = false;
  accesses = matrix_at 1 ∷ matrix_at 2 ∷ matrix_at 3 ∷ [];
  sums = [];
  expr = Binary op.Add (Binary op.Mul (AccessOf 0) (AccessOf 1)) (AccessOf 2);
}

-- `ds`: all rows, and of each the columns that are stored
abbrev pub by_rows : List FormatLevel
by_rows = record { letter = Dense; mode = 0 } ∷ record { letter = Compressed; mode = 1 } ∷ []

-- of each tensor
unfoldable pub workload_formats : List (List FormatLevel)
workload_formats = by_rows ∷ by_rows ∷ by_rows ∷ by_rows ∷ []

-- a kernel that is compiled for the statement is run over these operands, with one range of both variables: it leaves these entries and
-- its loops make these turns
pub record IsComputed (size : ℕ) (operands : List Entries) (entries : Entries) (turns : Turns) : Type 0 where
  pub order : List ℕ
  pub is_order : IsOrder workload_statement workload_formats order
  pub kernel : Kernel
  pub compiled : IsCompiled ring workload_statement workload_formats order kernel
  pub shape : List ℕ
  pub tensor : Storage
  pub run : IsRun ring workload_statement workload_formats kernel (Some size ∷ Some size ∷ []) operands [] shape entries tensor turns

-- the operands of this size are drawn, and the statement is computed over them. It is told how many entries each operand has, the turns,
-- the number of rows and entries, which is the cost, how many values of the result aren't zero, and their sum
pub record IsWorkload (size : ℕ) (workload : Workload) : Type 0 where
  pub first : Entries
  pub second : Entries
  pub third : Entries
  pub first_is : IsGenerated size 0 first
  pub second_is : IsGenerated size 1 second
  pub third_is : IsGenerated size 2 third
  pub result : Entries
  pub computed : IsComputed size (first ∷ second ∷ third ∷ []) result workload.turns
  pub size_told : workload.size ≡ size
  pub first_told : workload.first ≡ length first.list
  pub second_told : workload.second ≡ length second.list
  pub third_told : workload.third ≡ length third.list
  pub cost_told : workload.cost ≡ size + length first.list + length second.list + length third.list
  pub values_told : workload.values ≡ length result.list
  pub sum_told : workload.sum ≡ total_of ring (map (λ entry. entry.value) result.list)
