-- What `clap` makes of a command line is what `command_line_of` says.
use Rattle.std.specs.Prelude.{◌≡◌, ◌≤◌, ℕ, List, String, Some, length, map, string_bytes, is_some, true, false}
use Rattle.std.specs.declared.alloc.Global.{Global}
use Rattle.clap.specs.Lexer.{usize_max}
use Rattle.clap.specs.Takes.{takes}
use Rattle.clap.specs.declared.builder.value_parser.ValueParser.{ValueParser}
use Rattle.limits.specs.Limits.{greatest_workload}
use Rattle.command_line.specs.CommandLine.{CommandLine, Workload, Exec, command_line_of, greatest_budget}
use Rattle.command_line.specs.Clap.{TakesNames, taco_app, clap_line}

-- `clap` takes the words exactly where they are a line, and its matches then say that line
abbrev pub IsRead : ValueParser → List (List ℕ) → Type 0
IsRead names words = (takes (taco_app names) words ≡ is_some (command_line_of words))
    × (takes (taco_app names) words ≡ true → clap_line names words ≡ command_line_of words)

abbrev pub ReadsAll : Type 0
ReadsAll = (names : ValueParser) → TakesNames names → (words : List (String Global)) → length words ≤ usize_max
    → IsRead names (map string_bytes words)

-- by each parser of semirings' names `clap` takes the words, and its matches say this line; or takes them by none
abbrev pub IsToldOf : CommandLine → List (List ℕ) → Type 0
IsToldOf line words = (names : ValueParser) → TakesNames names
    → (takes (taco_app names) words ≡ true) × (clap_line names words ≡ Some line)

abbrev pub IsUntold : List (List ℕ) → Type 0
IsUntold words = (names : ValueParser) → TakesNames names → takes (taco_app names) words ≡ false

-- a workload's size is within the limit
abbrev pub AreLimited : Type 0
AreLimited = (words : List (List ℕ)) (size : ℕ) → command_line_of words ≡ Some (Workload size) → size ≤ greatest_workload

-- the turns that a kernel's run may take are, too
abbrev pub HaveFewTurns : Type 0
HaveFewTurns = (words : List (List ℕ)) (path : List ℕ) (budget : ℕ) (expr : List ℕ) (rest : List (List ℕ))
    → command_line_of words ≡ Some (Exec path budget expr rest) → budget ≤ greatest_budget
