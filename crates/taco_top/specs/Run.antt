-- What a statement's command is about: the statement, the operands' files and the result's path, from the words alone.
use Rattle.std.specs.Prelude.{ℕ, ◌-◌, ◌==◌, List, [], Option, length, map, unwrap_or}
use Rattle.std.specs.List.{range_with_len}
use Rattle.std_collections.specs.Map.{lookup}
use Rattle.format_spec.specs.declared.format.FormatLevel.{FormatLevel}
use Rattle.index_notation.specs.declared.syntax.Statement.{Statement}
use Rattle.bindings.specs.Bindings.{order_of}
use Rattle.bindings.specs.Outcome.{first_named}
use Rattle.bindings.specs.Tables.{file_in}
use Rattle.command_line.specs.declared.Over.{Over}
use Rattle.command_line.specs.declared.Task.{Task}
use Rattle.taco_top.specs.declared.asked.Asked.{Asked}
use Rattle.taco_top.specs.Asked.{Asks}

-- the path of a tensor's file, if it has one
abbrev pub path_of : List (ℕ × List ℕ) → ℕ → Option (List ℕ)
path_of files tensor = lookup (λ k. tensor == k) files

-- the operands are the tensors from number 1 on
abbrev pub operands_of : Statement → List ℕ
operands_of s = range_with_len 1 (length s.tensors - 1)

-- the order of each operand
abbrev pub orders_of : Statement → List ℕ
orders_of s = map (order_of s) (operands_of s)

-- the path of an operand's file, which words bind to its name
abbrev pub operand_path : Statement → List (ℕ × List ℕ) → ℕ → List ℕ
operand_path s files tensor = unwrap_or (path_of files (first_named s.tensors tensor)) []

-- the path of each operand's file
abbrev pub paths_of : Statement → List (ℕ × List ℕ) → List (List ℕ)
paths_of s files = map (operand_path s files) (operands_of s)

-- what words ask for: a task, the semiring of the values, a statement, a format for each tensor, the files of tensors, and the ranges
-- that words give variables
pub record Request : Type 0 where
  pub task : Task
  pub over : Over
  pub statement : Statement
  pub formats : List (List FormatLevel)
  pub files : List (ℕ × List ℕ)
  pub given : List (Option ℕ)

abbrev pub AsksFor : List (List ℕ) → Request → Type 0
AsksFor words r = Asks words r.task r.over r.statement r.formats r.files r.given

-- what the words ask for, as it is kept
abbrev pub request_of : Asked → Request
request_of asked = record {
  task = asked.task;
  over = asked.over;
  statement = asked.statement;
  formats = asked.bindings.formats.items;
  files = map file_in asked.bindings.files.entries;
  given = asked.bindings.ranges.items;
}
