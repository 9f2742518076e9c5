-- What the words of `exec` ask for, and why they are refused before any file is opened.
use Rattle.std.specs.Prelude.{◌≡◌, ℕ, List, Option, Some, map, true}
use Rattle.format_spec.specs.declared.format.FormatLevel.{FormatLevel}
use Rattle.index_notation.specs.declared.syntax.Statement.{Statement}
use Rattle.notation_grammar.specs.Notation.{IsFaultOf}
use Rattle.command_line.specs.CommandLine.{Exec, command_line_of}
use Rattle.bindings.specs.Outcome.{Binds}
use Rattle.bindings.specs.Tables.{file_in}
use Rattle.refusals.specs.declared.fault.NamedFault.TheVariants.{Name, Binding}
use Rattle.refusals.specs.declared.fault.Fault.{Fault}
use Rattle.refusals.specs.declared.fault.Fault.TheVariants.{Notation, Named, Memory}
use Rattle.taco_top.specs.Asked.{AreNamed, IsBindingFault, IsNameRefused}
use Rattle.taco_top.specs.Run.{orders_of, paths_of}
use Rattle.taco_top.specs.declared.asked.Execution.{Execution}

-- the path of a kernel's file, the turns that its run may take, and what a request for a statement has: the statement, a format for each
-- tensor, the files of tensors, and the ranges that words give variables. The semiring is that of the kernel's first line
pub record ExecRequest : Type 0 where
  pub path : List ℕ
  pub budget : ℕ
  pub statement : Statement
  pub formats : List (List FormatLevel)
  pub files : List (ℕ × List ℕ)
  pub given : List (Option ℕ)

-- the orders and the paths of the operands' files
abbrev pub exec_orders : ExecRequest → List ℕ
exec_orders r = orders_of r.statement

abbrev pub exec_paths : ExecRequest → List (List ℕ)
exec_paths r = paths_of r.statement r.files

-- the command line asks to run the kernel of this path within so many turns, for a statement of this text
abbrev pub AsksExecOf : List (List ℕ) → List ℕ → ℕ → List ℕ → List (List ℕ) → Type 0
AsksExecOf words path budget text rest = command_line_of words ≡ Some (Exec path budget text rest)

-- and for a statement that the text stands for. A minus is never refused: what the statement says counts for its operands, ranges and
-- formats alone
pub record ExecNames (words : List (List ℕ)) (path : List ℕ) (budget : ℕ) (s : Statement) (rest : List (List ℕ)) : Type 0 where
  pub text : List ℕ
  pub line : AsksExecOf words path budget text rest
  pub named : AreNamed text s

-- what the words ask for
pub record AsksExec (words : List (List ℕ)) (r : ExecRequest) : Type 0 where
  pub rest : List (List ℕ)
  pub names : ExecNames words r.path r.budget r.statement rest
  pub binds : Binds r.statement rest true r.formats r.files r.given

-- and that as it is kept
abbrev pub exec_request : Execution → ExecRequest
exec_request e = record {
  path = e.path.now;
  budget = e.budget;
  statement = e.statement;
  formats = e.bindings.formats.items;
  files = map file_in e.bindings.files.entries;
  given = e.bindings.ranges.items;
}

-- the first refusal of the words, in order: of the statement's text, its names, the words behind it, missing files, formats; or want of
-- memory
abbrev pub IsExecRefused : List (List ℕ) → Fault → Type 0
IsExecRefused words (Notation fault) =
    (path : List ℕ) × (budget : ℕ) × (text : List ℕ) × (rest : List (List ℕ)) × AsksExecOf words path budget text rest
    × IsFaultOf text fault
IsExecRefused words (Named s (Name fault)) =
    (path : List ℕ) × (budget : ℕ) × (text : List ℕ) × (rest : List (List ℕ)) × AsksExecOf words path budget text rest
    × IsNameRefused text s fault
IsExecRefused words (Named s (Binding fault)) =
    (path : List ℕ) × (budget : ℕ) × (rest : List (List ℕ)) × ExecNames words path budget s rest × IsBindingFault s rest true fault
IsExecRefused words Memory =
    (path : List ℕ) × (budget : ℕ) × (text : List ℕ) × (rest : List (List ℕ)) × AsksExecOf words path budget text rest
IsExecRefused words _ = ⊥
