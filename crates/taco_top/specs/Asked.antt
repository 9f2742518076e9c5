-- What the words of a command line ask for, and why they are refused before any file is opened: the first of the refusals in
-- order.
use Rattle.std.specs.Prelude.{◌≡◌, ℕ, Bool, List, Option, Some, None, map, true, false}
use denote.Ref.{Bor}
use Rattle.format_spec.specs.declared.format.FormatLevel.{FormatLevel}
use Rattle.index_notation.specs.declared.syntax.Statement.{Statement}
use Rattle.notation_grammar.specs.Notation.{IsNotationOf, IsFaultOf}
use Rattle.expr_terms.specs.Expanded.{expanded}
use Rattle.expr_terms.specs.declared.names.NameFault.{NameFault}
use Rattle.expr_terms.specs.declared.names.NameFault.TheVariants.{BadSum}
use Rattle.nested_sums.specs.Bad.{AreFine, IsFirstBad}
use Rattle.nested_sums.specs.Pieces.{HasMeaningWithSums, has_minus_with_sums}
use Rattle.expr_terms.specs.Names.{HasNoNameFault, IsFirstNameFault}
use Rattle.command_line.specs.CommandLine.{command_line_of}
use Rattle.command_line.specs.CommandLine as command_line
use Rattle.command_line.specs.declared.Over.{Over}
use Rattle.command_line.specs.declared.Task.{Task}
use Rattle.command_line.specs.declared.Task.TheVariants as task
use Rattle.bindings.specs.Outcome.{Binds, IsRefused}
use Rattle.bindings.specs.declared.fault.BindingFault.{BindingFault}
use Rattle.bindings.specs.declared.fault.BindingFault.TheVariants as binding
use Rattle.refusals.specs.declared.fault.NamedFault.TheVariants.{Name, Binding}
use Rattle.refusals.specs.declared.fault.Fault.{Fault}
use Rattle.refusals.specs.declared.fault.Fault.TheVariants.{Usage, Notation, Named, NoMinus, Memory}
use Rattle.taco_top.specs.Values.{values_of}

abbrev pub texts_in : List (Bor (List ℕ)) → List (List ℕ)
texts_in words = map (λ word. word.now) words

-- a kernel and a plan are printed without a look at files
abbrev pub needs_files : Task → Bool
needs_files task.Run = true
needs_files task.Kernel = false
needs_files task.Report = true
needs_files task.Auto = true
needs_files task.Plan = false

-- a plan asks for no kernel
abbrev pub needs_kernel : Task → Bool
needs_kernel task.Run = true
needs_kernel task.Kernel = true
needs_kernel task.Report = true
needs_kernel task.Auto = true
needs_kernel task.Plan = false

-- a kernel for the formats as they are given needs an order of loops by them; one by a plan doesn't
abbrev pub needs_order : Task → Bool
needs_order task.Run = true
needs_order task.Kernel = true
needs_order task.Report = true
needs_order task.Auto = false
needs_order task.Plan = false

-- these write the result, the others print a text
abbrev pub writes_result : Task → Bool
writes_result task.Run = true
writes_result task.Kernel = false
writes_result task.Report = false
writes_result task.Auto = true
writes_result task.Plan = false

-- the command line asks this task for a statement of this text
abbrev pub AsksOf : List (List ℕ) → Task → Over → List ℕ → List (List ℕ) → Type 0
AsksOf words task over text rest = command_line_of words ≡ Some (command_line.Statement task over text rest)

-- a minus stands on the right of the statement, maybe inside a nested sum, and the semiring has none
pub record LacksMinus (over : Over) (s : Statement) : Type 0 where
  pub has_none : (values_of over).has_minus ≡ false
  pub stands : has_minus_with_sums s ≡ true

-- ---- the refusals, stage by stage
abbrev pub IsLineRefused : List (List ℕ) → Fault → Type 0
IsLineRefused words Usage = command_line_of words ≡ None
IsLineRefused words Memory = Unit {0}
IsLineRefused words _ = ⊥

-- why the names of a statement of a text are refused: the fault of an access as it is written, or else of a nested sum
abbrev pub IsNameRefused : List ℕ → Statement → NameFault → Type 0
IsNameRefused text s (BadSum var) =
    (written : Statement) × IsNotationOf text written × HasNoNameFault written × (s ≡ expanded written) × IsFirstBad s var
IsNameRefused text s fault = IsNotationOf text s × IsFirstNameFault s fault

-- a text stands for a statement: the names of what is written are in order, and no nested sum's variable is bound and free
pub record AreNamed (text : List ℕ) (s : Statement) : Type 0 where
  pub written : Statement
  pub notation : IsNotationOf text written
  pub names : HasNoNameFault written
  pub stands_for : s ≡ expanded written
  pub fine : AreFine s

-- the command line asks this task for a statement, the names of whose accesses are in order as it is written; this is the one that it
-- stands for, in which each minus has a meaning
pub record Names (words : List (List ℕ)) (task : Task) (over : Over) (s : Statement) (rest : List (List ℕ)) : Type 0 where
  pub text : List ℕ
  pub line : AsksOf words task over text rest
  pub named : AreNamed text s
  pub meant : HasMeaningWithSums (values_of over).has_minus s

-- what the words ask for
pub record Asks (words : List (List ℕ)) (task : Task) (over : Over) (s : Statement) (formats : List (List FormatLevel))
    (files : List (ℕ × List ℕ)) (ranges : List (Option ℕ)) : Type 0 where
  pub rest : List (List ℕ)
  pub names : Names words task over s rest
  pub binds : Binds s rest (needs_files task) formats files ranges

-- why a text stands for none
abbrev pub IsStatementRefused : List ℕ → Fault → Type 0
IsStatementRefused text (Notation fault) = IsFaultOf text fault
IsStatementRefused text (Named s (Name fault)) = IsNameRefused text s fault
IsStatementRefused text Memory = Unit {0}
IsStatementRefused text _ = ⊥

-- a minus has no meaning over the semiring of this name
abbrev pub IsMinusFault : Over → Statement → Bor (List ℕ) → Type 0
IsMinusFault over s name = LacksMinus over s × (name.now ≡ (values_of over).name)

abbrev pub IsMinusRefused : Over → Statement → Fault → Type 0
IsMinusRefused over s (NoMinus name) = IsMinusFault over s name
IsMinusRefused over s _ = ⊥

-- why words bind nothing to the names of a statement, with files needed or not
abbrev pub IsBindingFault : Statement → List (List ℕ) → Bool → BindingFault → Type 0
IsBindingFault s words need (binding.Memory error) = ⊥
IsBindingFault s words need fault = IsRefused s words need fault

abbrev pub IsBindingRefused : Statement → List (List ℕ) → Bool → Fault → Type 0
IsBindingRefused s words need (Named t (Binding fault)) = (t ≡ s) × IsBindingFault s words need fault
IsBindingRefused s words need Memory = Unit {0}
IsBindingRefused s words need _ = ⊥

-- ---- all of them: the first refusal of the words
abbrev pub IsRefusedByWords : List (List ℕ) → Fault → Type 0
IsRefusedByWords words Usage = command_line_of words ≡ None
IsRefusedByWords words (Notation fault) =
    (task : Task) × (over : Over) × (text : List ℕ) × (rest : List (List ℕ)) × AsksOf words task over text rest × IsFaultOf text fault
IsRefusedByWords words (Named s (Name fault)) =
    (task : Task) × (over : Over) × (text : List ℕ) × (rest : List (List ℕ)) × AsksOf words task over text rest
    × IsNameRefused text s fault
IsRefusedByWords words (NoMinus name) =
    (task : Task) × (over : Over) × (text : List ℕ) × (rest : List (List ℕ)) × AsksOf words task over text rest
    × (s : Statement) × AreNamed text s × IsMinusFault over s name
IsRefusedByWords words (Named s (Binding fault)) =
    (task : Task) × (over : Over) × (rest : List (List ℕ)) × Names words task over s rest × IsBindingFault s rest (needs_files task) fault
IsRefusedByWords words Memory = Unit {0}
IsRefusedByWords words _ = ⊥

-- a refusal for want of memory
abbrev pub IsWant : Fault → Type 0
IsWant Memory = Unit {0}
IsWant _ = ⊥
