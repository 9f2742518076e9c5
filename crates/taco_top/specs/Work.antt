-- What a command line asks for, of whichever command, or why it asks for nothing.
use Rattle.std.specs.Prelude.{◌≡◌, ◌≤◌, ◌⊎◌, ℕ, List, Some, map}
use Rattle.limits.specs.Limits.{greatest_workload}
use Rattle.index_notation.specs.Statement.{IsNumberedWithSums}
use Rattle.command_line.specs.CommandLine.{command_line_of}
use Rattle.command_line.specs.CommandLine as command_line
use Rattle.bindings.specs.Tables.{file_in}
use Rattle.refusals.specs.declared.fault.Fault.{Fault}
use Rattle.taco_top.specs.Asked.{Asks, IsRefusedByWords}
use Rattle.taco_top.specs.Exec.{AsksExec, IsExecRefused, exec_request}
use Rattle.taco_top.specs.declared.asked.Work.{Work}
use Rattle.taco_top.specs.declared.asked.Work.TheVariants as work

-- what is asked for: this task of a statement, the generated workload of this size, or the run of a given kernel
abbrev pub IsAsked : List (List ℕ) → Work → Type 0
IsAsked words (work.Statement asked) =
    Asks words asked.task asked.over asked.statement asked.bindings.formats.items (map file_in asked.bindings.files.entries)
    asked.bindings.ranges.items
    × IsNumberedWithSums asked.statement
IsAsked words (work.Workload size) =
    (command_line_of words ≡ Some (command_line.Workload size)) × (size ≤ greatest_workload)
IsAsked words (work.Execution e) = AsksExec words (exec_request e) × IsNumberedWithSums e.statement

-- the first refusal of the words
abbrev pub IsUnasked : List (List ℕ) → Fault → Type 0
IsUnasked words why = IsRefusedByWords words why ⊎ IsExecRefused words why
