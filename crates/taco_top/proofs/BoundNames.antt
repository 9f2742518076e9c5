-- What the words bind to a statement's names is what they ask for.
use Rattle.std.specs.Prelude.{◌≡◌, ℕ, true, List, map, Result, Ok, Err, IsErrAnd, MatchResult}
use Rattle.std.proofs.Common.{sym, subst}
use Rattle.index_notation.specs.Statement.{IsNumberedWithSums}
use Rattle.index_notation.specs.declared.syntax.Statement.{Statement}
use Rattle.command_line.specs.declared.Over.{Over}
use Rattle.command_line.specs.declared.Task.{Task}
use Rattle.bindings.specs.Outcome.{Binds}
use Rattle.bindings.specs.Tables.{file_in}
use Rattle.refusals.specs.declared.fault.NamedFault.TheVariants as named
use Rattle.refusals.specs.declared.fault.Fault.{Fault}
use Rattle.refusals.specs.declared.fault.Fault.TheVariants as fault
use Rattle.taco_top.specs.Asked.{AreNamed, Asks, AsksOf, Names, IsRefusedByWords, IsBindingFault, IsBindingRefused, IsMinusRefused}
use Rattle.taco_top.specs.Asked.{IsStatementRefused, needs_files}
use Rattle.taco_top.specs.Exec.{AsksExec, AsksExecOf, ExecNames, ExecRequest, IsExecRefused, exec_request}
use Rattle.taco_top.specs.declared.asked.Execution.{Execution}
use Rattle.taco_top.specs.declared.asked.Asked.{Asked}

module _ (words : List (List ℕ)) (task : Task) (over : Over) (s : Statement) (rest : List (List ℕ)) (names : Names words task over s rest)
    (numbered : IsNumberedWithSums s) where
  abbrev IsBound : Asked → Type 0
  IsBound asked = (asked.task ≡ task) × (asked.over ≡ over) × (asked.statement ≡ s)
      × Binds s rest (needs_files task) asked.bindings.formats.items (map file_in asked.bindings.files.entries) asked.bindings.ranges.items

  abbrev IsFor : Asked → Type 0
  IsFor asked = Asks words asked.task asked.over asked.statement asked.bindings.formats.items
      (map file_in asked.bindings.files.entries) asked.bindings.ranges.items × IsNumberedWithSums asked.statement

  bound : (asked : Asked) → IsBound asked → IsFor asked
  bound asked (task_is, over_is, statement_is, binds) = (
    subst (λ t. Asks words t asked.over asked.statement asked.bindings.formats.items (map file_in asked.bindings.files.entries)
        asked.bindings.ranges.items) (sym task_is)
        (subst (λ o. Asks words task o asked.statement asked.bindings.formats.items (map file_in asked.bindings.files.entries)
        asked.bindings.ranges.items) (sym over_is)
        (subst (λ u. Asks words task over u asked.bindings.formats.items (map file_in asked.bindings.files.entries)
        asked.bindings.ranges.items) (sym statement_is) (record { rest = rest; names = names; binds = binds }))),
    subst IsNumberedWithSums (sym statement_is) numbered,
  )

  unbound : (why : Fault) → IsBindingRefused s rest (needs_files task) why → IsRefusedByWords words why
  unbound (fault.Named t (named.Binding why)) (same, is) = (
    task,
    over,
    rest,
    subst (λ u. Names words task over u rest) (sym same) names,
    subst (λ u. IsBindingFault u rest (needs_files task) why) (sym same) is,
  )
  unbound fault.Memory is = tt
  unbound fault.Usage is = absurd is
  unbound (fault.Notation why) is = absurd is
  unbound (fault.Named t (named.Name why)) is = absurd is
  unbound (fault.Named t (named.Cycle cycle)) is = absurd is
  unbound (fault.Named t (named.Range why)) is = absurd is
  unbound (fault.Named t (named.SizeLimit large)) is = absurd is
  unbound (fault.NoMinus name) is = absurd is
  unbound (fault.WorkspaceLimit count) is = absurd is
  unbound (fault.ReadFault path) is = absurd is
  unbound (fault.FileBytes path) is = absurd is
  unbound (fault.BadFile path line kind) is = absurd is
  unbound (fault.Kernel why) is = absurd is
  unbound (fault.WriteFault path) is = absurd is

  pub asked_for : (result : Result Asked Fault) → MatchResult result IsBound (IsBindingRefused s rest (needs_files task))
      → MatchResult result IsFor (IsRefusedByWords words)
  asked_for (Ok asked) is = bound asked is
  asked_for (Err why) is = unbound why is

-- a refusal is answered as it is
pub refused_as : {T : Type 0} (P : T → Type 0) (Q : Fault → Type 0) (result : Result T Fault) (why : Fault)
    → IsErrAnd result (λ other. other ≡ why) → Q why → MatchResult result P Q
refused_as P Q (Ok value) why is refused = absurd is
refused_as P Q (Err other) why is refused = subst Q (sym is) refused

-- a minus that means nothing, in a statement whose names are in order
pub by_minus : (words : List (List ℕ)) (task : Task) (over : Over) (text : List ℕ) (rest : List (List ℕ)) (s : Statement)
    → AsksOf words task over text rest → AreNamed text s → (why : Fault) → IsMinusRefused over s why
    → IsRefusedByWords words why
by_minus words task over text rest s line names (fault.NoMinus name) is = (task, over, text, rest, line, s, names, is)
by_minus words task over text rest s line names fault.Memory is = absurd is
by_minus words task over text rest s line names fault.Usage is = absurd is
by_minus words task over text rest s line names (fault.Notation why) is = absurd is
by_minus words task over text rest s line names (fault.Named t why) is = absurd is
by_minus words task over text rest s line names (fault.WorkspaceLimit count) is = absurd is
by_minus words task over text rest s line names (fault.ReadFault path) is = absurd is
by_minus words task over text rest s line names (fault.FileBytes path) is = absurd is
by_minus words task over text rest s line names (fault.BadFile path number kind) is = absurd is
by_minus words task over text rest s line names (fault.Kernel why) is = absurd is
by_minus words task over text rest s line names (fault.WriteFault path) is = absurd is

-- ---- the same of a kernel that is given

module _ (words : List (List ℕ)) (path : List ℕ) (budget : ℕ) (s : Statement) (rest : List (List ℕ))
    (exec_names : ExecNames words path budget s rest) (numbered : IsNumberedWithSums s) where
  abbrev IsExecBound : Execution → Type 0
  IsExecBound e = (e.path.now ≡ path) × (e.budget ≡ budget) × (e.statement ≡ s)
      × Binds s rest true e.bindings.formats.items (map file_in e.bindings.files.entries) e.bindings.ranges.items

  abbrev IsExecFor : Execution → Type 0
  IsExecFor e = AsksExec words (exec_request e) × IsNumberedWithSums e.statement

  -- with the path, the turns and the statement that are kept
  abbrev kept_request : List ℕ → ℕ → Statement → Execution → ExecRequest
  kept_request path budget s e = record {
    path = path;
    budget = budget;
    statement = s;
    formats = e.bindings.formats.items;
    files = map file_in e.bindings.files.entries;
    given = e.bindings.ranges.items;
  }

  exec_bound : (e : Execution) → IsExecBound e → IsExecFor e
  exec_bound e (path_is, budget_is, statement_is, binds) = (
    subst (λ p. AsksExec words (kept_request p e.budget e.statement e)) (sym path_is)
        (subst (λ n. AsksExec words (kept_request path n e.statement e)) (sym budget_is)
        (subst (λ u. AsksExec words (kept_request path budget u e)) (sym statement_is)
        (record { rest = rest; names = exec_names; binds = binds }))),
    subst IsNumberedWithSums (sym statement_is) numbered,
  )

  exec_unbound : (why : Fault) → IsBindingRefused s rest true why → IsExecRefused words why
  exec_unbound (fault.Named t (named.Binding why)) (same, is) = (
    path,
    budget,
    rest,
    subst (λ u. ExecNames words path budget u rest) (sym same) exec_names,
    subst (λ u. IsBindingFault u rest true why) (sym same) is,
  )
  exec_unbound fault.Memory is = (path, budget, exec_names.text, rest, exec_names.line)
  exec_unbound fault.Usage is = absurd is
  exec_unbound (fault.Notation why) is = absurd is
  exec_unbound (fault.Named t (named.Name why)) is = absurd is
  exec_unbound (fault.Named t (named.Cycle cycle)) is = absurd is
  exec_unbound (fault.Named t (named.Range why)) is = absurd is
  exec_unbound (fault.Named t (named.SizeLimit large)) is = absurd is
  exec_unbound (fault.NoMinus name) is = absurd is
  exec_unbound (fault.WorkspaceLimit count) is = absurd is
  exec_unbound (fault.ReadFault path) is = absurd is
  exec_unbound (fault.FileBytes path) is = absurd is
  exec_unbound (fault.BadFile path line kind) is = absurd is
  exec_unbound (fault.Kernel why) is = absurd is
  exec_unbound (fault.WriteFault path) is = absurd is

  pub executed_for : (result : Result Execution Fault) → MatchResult result IsExecBound (IsBindingRefused s rest true)
      → MatchResult result IsExecFor (IsExecRefused words)
  executed_for (Ok e) is = exec_bound e is
  executed_for (Err why) is = exec_unbound why is

-- a text that stands for no statement
pub unnamed_execution : (words : List (List ℕ)) (path : List ℕ) (budget : ℕ) (text : List ℕ) (rest : List (List ℕ))
    → AsksExecOf words path budget text rest → (why : Fault) → IsStatementRefused text why → IsExecRefused words why
unnamed_execution words path budget text rest line (fault.Notation why) is = (path, budget, text, rest, line, is)
unnamed_execution words path budget text rest line fault.Memory is = (path, budget, text, rest, line)
unnamed_execution words path budget text rest line fault.Usage is = absurd is
unnamed_execution words path budget text rest line (fault.Named t (named.Name why)) is = (path, budget, text, rest, line, is)
unnamed_execution words path budget text rest line (fault.Named t (named.Binding why)) is = absurd is
unnamed_execution words path budget text rest line (fault.Named t (named.Cycle cycle)) is = absurd is
unnamed_execution words path budget text rest line (fault.Named t (named.Range why)) is = absurd is
unnamed_execution words path budget text rest line (fault.Named t (named.SizeLimit large)) is = absurd is
unnamed_execution words path budget text rest line (fault.NoMinus name) is = absurd is
unnamed_execution words path budget text rest line (fault.WorkspaceLimit count) is = absurd is
unnamed_execution words path budget text rest line (fault.ReadFault at) is = absurd is
unnamed_execution words path budget text rest line (fault.FileBytes at) is = absurd is
unnamed_execution words path budget text rest line (fault.BadFile at number kind) is = absurd is
unnamed_execution words path budget text rest line (fault.Kernel why) is = absurd is
unnamed_execution words path budget text rest line (fault.WriteFault at) is = absurd is

pub unnamed : (words : List (List ℕ)) (task : Task) (over : Over) (text : List ℕ) (rest : List (List ℕ))
    → AsksOf words task over text rest → (why : Fault) → IsStatementRefused text why → IsRefusedByWords words why
unnamed words task over text rest line (fault.Notation why) is = (task, over, text, rest, line, is)
unnamed words task over text rest line fault.Memory is = tt
unnamed words task over text rest line fault.Usage is = absurd is
unnamed words task over text rest line (fault.Named t (named.Name why)) is = (task, over, text, rest, line, is)
unnamed words task over text rest line (fault.Named t (named.Binding why)) is = absurd is
unnamed words task over text rest line (fault.Named t (named.Cycle cycle)) is = absurd is
unnamed words task over text rest line (fault.Named t (named.Range why)) is = absurd is
unnamed words task over text rest line (fault.Named t (named.SizeLimit large)) is = absurd is
unnamed words task over text rest line (fault.NoMinus name) is = absurd is
unnamed words task over text rest line (fault.WorkspaceLimit count) is = absurd is
unnamed words task over text rest line (fault.ReadFault at) is = absurd is
unnamed words task over text rest line (fault.FileBytes at) is = absurd is
unnamed words task over text rest line (fault.BadFile at number kind) is = absurd is
unnamed words task over text rest line (fault.Kernel why) is = absurd is
unnamed words task over text rest line (fault.WriteFault at) is = absurd is
