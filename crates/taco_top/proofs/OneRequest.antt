-- A command line asks for one thing, or is refused.
use Rattle.std.specs.Prelude.{◌≡◌, ℕ, Bool, true, false, List, [], Option, Some, None}
use Rattle.std.proofs.Common.{◌∙◌, sym, ap, subst, true≢false}
use Rattle.format_spec.specs.declared.format.FormatLevel.{FormatLevel}
use Rattle.index_notation.specs.declared.syntax.Statement.{Statement}
use Rattle.notation_reader.proofs.NotationLaws as notations
use Rattle.nested_sums.specs.Pieces.{HasMeaningWithSums, has_minus_with_sums}
use Rattle.command_line.specs.declared.Over.{Over}
use Rattle.command_line.specs.declared.Over.TheVariants.{Ring}
use Rattle.command_line.specs.declared.Task.{Task}
use Rattle.command_line.specs.declared.Task.TheVariants.{Run}
use Rattle.command_line.specs.CommandLine.{CommandLine, Exec, Workload, command_line_of}
use Rattle.command_line.specs.CommandLine as command_line
use Rattle.bindings.proofs.OneAnswer as bindings
use Rattle.bindings.specs.Outcome.{Binds}
use Rattle.bindings.specs.declared.fault.BindingFault.{BindingFault}
use Rattle.bindings.specs.declared.fault.BindingFault.TheVariants as binding
use Rattle.refusals.specs.declared.fault.NamedFault.TheVariants as named
use Rattle.refusals.specs.declared.fault.Fault.{Fault}
use Rattle.refusals.specs.declared.fault.Fault.TheVariants as fault
use Rattle.taco_top.proofs.NamedTexts.{named_never_refused, named_once}
use Rattle.taco_top.specs.Values.{values_of}
use Rattle.taco_top.specs.Asked.{AreNamed, Asks, AsksOf, Names, IsRefusedByWords, IsBindingFault, IsWant, needs_files}

abbrev task_of : Option CommandLine → Task
task_of None = Run
task_of (Some (command_line.Statement task over expr words)) = task
task_of (Some (Workload size)) = Run
task_of (Some (Exec path budget expr words)) = Run

abbrev over_of : Option CommandLine → Over
over_of None = Ring
over_of (Some (command_line.Statement task over expr words)) = over
over_of (Some (Workload size)) = Ring
over_of (Some (Exec path budget expr words)) = Ring

abbrev expr_of : Option CommandLine → List ℕ
expr_of None = []
expr_of (Some (command_line.Statement task over expr words)) = expr
expr_of (Some (Workload size)) = []
expr_of (Some (Exec path budget expr words)) = []

abbrev words_of : Option CommandLine → List (List ℕ)
words_of None = []
words_of (Some (command_line.Statement task over expr words)) = words
words_of (Some (Workload size)) = []
words_of (Some (Exec path budget expr words)) = []

-- two readings of a command line
one_task : (words : List (List ℕ)) (task other : Task) (over under : Over) (text texts : List ℕ) (rest others : List (List ℕ))
    → AsksOf words task over text rest → AsksOf words other under texts others → task ≡ other
one_task words task other over under text texts rest others is be = ap task_of (sym is ∙ be)

one_over : (words : List (List ℕ)) (task other : Task) (over under : Over) (text texts : List ℕ) (rest others : List (List ℕ))
    → AsksOf words task over text rest → AsksOf words other under texts others → over ≡ under
one_over words task other over under text texts rest others is be = ap over_of (sym is ∙ be)

one_text : (words : List (List ℕ)) (task other : Task) (over under : Over) (text texts : List ℕ) (rest others : List (List ℕ))
    → AsksOf words task over text rest → AsksOf words other under texts others → text ≡ texts
one_text words task other over under text texts rest others is be = ap expr_of (sym is ∙ be)

one_rest : (words : List (List ℕ)) (task other : Task) (over under : Over) (text texts : List ℕ) (rest others : List (List ℕ))
    → AsksOf words task over text rest → AsksOf words other under texts others → rest ≡ others
one_rest words task other over under text texts rest others is be = ap words_of (sym is ∙ be)

one_statement : (words : List (List ℕ)) (task other : Task) (over under : Over) (s t : Statement) (rest others : List (List ℕ))
    → Names words task over s rest → Names words other under t others → s ≡ t
one_statement words task other over under s t rest others is be =
    named_once be.text s t
    (subst (λ text. AreNamed text s) (one_text words task other over under is.text be.text rest others is.line be.line) is.named) be.named

module _ (words : List (List ℕ)) (task other : Task) (over under : Over) (s t : Statement) (formats layouts : List (List FormatLevel))
    (files others : List (ℕ × List ℕ)) (ranges given : List (Option ℕ))
    (asks : Asks words task over s formats files ranges) (ask : Asks words other under t layouts others given) where
  pub same_task : task ≡ other
  same_task = one_task words task other over under asks.names.text ask.names.text asks.rest ask.rest asks.names.line ask.names.line

  pub same_over : over ≡ under
  same_over = one_over words task other over under asks.names.text ask.names.text asks.rest ask.rest asks.names.line ask.names.line

  pub same_statement : s ≡ t
  same_statement = one_statement words task other over under s t asks.rest ask.rest asks.names ask.names

  same_rest : asks.rest ≡ ask.rest
  same_rest = one_rest words task other over under asks.names.text ask.names.text asks.rest ask.rest asks.names.line ask.names.line

  -- what the other reading binds, for the same task, statement and words
  same_binds : Binds s asks.rest (needs_files task) layouts others given
  same_binds =
      subst (λ u. Binds u asks.rest (needs_files task) layouts others given) (sym same_statement)
      (subst (λ rest. Binds t rest (needs_files task) layouts others given) (sym same_rest)
      (subst (λ for. Binds t ask.rest (needs_files for) layouts others given) (sym same_task) ask.binds))

  pub same_formats : formats ≡ layouts
  same_formats = bindings.same_formats s asks.rest (needs_files task) formats layouts files others ranges given asks.binds same_binds

  pub same_files : files ≡ others
  same_files = bindings.same_files s asks.rest (needs_files task) formats layouts files others ranges given asks.binds same_binds

  pub same_ranges : ranges ≡ given
  same_ranges = bindings.same_ranges s asks.rest (needs_files task) formats layouts files others ranges given asks.binds same_binds

apart : {A : Type 0} {x : A} → None ≡ Some x → ⊥
apart h = cc

-- where there is no minus, none stands in a statement with a meaning
lacks_none : (b : Bool) (s : Statement) → HasMeaningWithSums b s → b ≡ false → has_minus_with_sums s ≡ true → ⊥
lacks_none true s meant none stands = absurd (true≢false none)
lacks_none false s meant none stands = true≢false (sym stands ∙ meant)

-- what is bound isn't refused
pub binding_apart : (s : Statement) (words : List (List ℕ)) (need : Bool) (formats : List (List FormatLevel)) (files : List (ℕ × List ℕ))
    (ranges : List (Option ℕ)) (why : BindingFault) → Binds s words need formats files ranges
    → IsBindingFault s words need why → ⊥
binding_apart s words need formats files ranges (binding.Word word why) binds is =
    bindings.never_both s words need formats files ranges (binding.Word word why) binds is
binding_apart s words need formats files ranges (binding.NoFile tensor) binds is =
    bindings.never_both s words need formats files ranges (binding.NoFile tensor) binds is
binding_apart s words need formats files ranges (binding.BadFormat tensor why) binds is =
    bindings.never_both s words need formats files ranges (binding.BadFormat tensor why) binds is
binding_apart s words need formats files ranges (binding.Memory error) binds is = is

module _ (words : List (List ℕ)) (task : Task) (over : Over) (s : Statement) (formats : List (List FormatLevel)) (files : List (ℕ × List ℕ))
    (ranges : List (Option ℕ)) (asks : Asks words task over s formats files ranges) where
  -- the text of another reading is that of this one
  named_of : (other : Task) (under : Over) (text : List ℕ) (rest : List (List ℕ)) → AsksOf words other under text rest → AreNamed text s
  named_of other under text rest line =
      subst (λ t. AreNamed t s) (one_text words task other over under asks.names.text text asks.rest rest asks.names.line line)
      asks.names.named

  -- what is bound is so for the task and the words of another reading
  binds_of : (other : Task) (under : Over) (t : Statement) (rest : List (List ℕ)) → Names words other under t rest
      → Binds t rest (needs_files other) formats files ranges
  binds_of other under t rest names =
      subst (λ u. Binds u rest (needs_files other) formats files ranges)
      (one_statement words task other over under s t asks.rest rest asks.names names)
      (subst (λ r. Binds s r (needs_files other) formats files ranges)
      (one_rest words task other over under asks.names.text names.text asks.rest rest asks.names.line names.line)
      (subst (λ for. Binds s asks.rest (needs_files for) formats files ranges)
      (one_task words task other over under asks.names.text names.text asks.rest rest asks.names.line names.line) asks.binds))

  only_want : (why : Fault) → IsRefusedByWords words why → IsWant why
  only_want fault.Usage is = apart (sym is ∙ asks.names.line)
  only_want (fault.Notation why) (other, under, text, rest, line, is) =
      let one = named_of other under text rest line in notations.never_both text one.written why one.notation is
  only_want (fault.Named t (named.Name why)) (other, under, text, rest, line, is) =
      named_never_refused text s (named_of other under text rest line) t why is
  only_want (fault.NoMinus name) (other, under, text, rest, line, t, named, is) =
      lacks_none (values_of over).has_minus s asks.names.meant
      (ap (λ o. (values_of o).has_minus) (one_over words task other over under asks.names.text text asks.rest rest asks.names.line line)
      ∙ is.0.has_none)
      (ap has_minus_with_sums (named_once text s t (named_of other under text rest line) named) ∙ is.0.stands)
  only_want (fault.Named t (named.Binding why)) (other, under, rest, names, is) =
      binding_apart t rest (needs_files other) formats files ranges why (binds_of other under t rest names) is
  only_want (fault.Named t (named.Cycle cycle)) is = is
  only_want (fault.Named t (named.Range why)) is = is
  only_want (fault.Named t (named.SizeLimit large)) is = is
  only_want (fault.WorkspaceLimit count) is = is
  only_want (fault.ReadFault path) is = is
  only_want (fault.FileBytes path) is = is
  only_want (fault.BadFile path line kind) is = is
  only_want (fault.Kernel reason) is = is
  only_want (fault.WriteFault path) is = is
  only_want fault.Memory is = is

pub never_both : (words : List (List ℕ)) (task : Task) (over : Over) (s : Statement) (formats : List (List FormatLevel)) (files : List
    (ℕ × List ℕ))
    (ranges : List (Option ℕ)) (why : Fault)
    → Asks words task over s formats files ranges → IsRefusedByWords words why → IsWant why
never_both words task over s formats files ranges why asks is = only_want words task over s formats files ranges asks why is

-- a command line is no statement's and a workload's both
abbrev IsStatement : Option CommandLine → Type 0
IsStatement None = ⊥
IsStatement (Some (command_line.Statement task over expr words)) = Unit {0}
IsStatement (Some (Workload size)) = ⊥
IsStatement (Some (Exec path budget expr words)) = ⊥

no_statement : (words : List (List ℕ)) (size : ℕ) (task : Task) (over : Over) (text : List ℕ) (rest : List (List ℕ))
    → command_line_of words ≡ Some (Workload size) → AsksOf words task over text rest → ⊥
no_statement words size task over text rest is be = subst IsStatement (sym be ∙ is) tt

pub workload_alone : (words : List (List ℕ)) (size : ℕ) (task : Task) (over : Over) (s : Statement) (formats : List (List FormatLevel))
    (files : List (ℕ × List ℕ)) (ranges : List (Option ℕ))
    → command_line_of words ≡ Some (Workload size) → Asks words task over s formats files ranges → ⊥
workload_alone words size task over s formats files ranges is asks =
    no_statement words size task over asks.names.text asks.rest is asks.names.line

pub workload_taken : (words : List (List ℕ)) (size : ℕ) (why : Fault)
    → command_line_of words ≡ Some (Workload size) → IsRefusedByWords words why → IsWant why
workload_taken words size fault.Usage is refused = apart (sym refused ∙ is)
workload_taken words size (fault.Notation why) is (task, over, text, rest, line, h) =
    absurd (no_statement words size task over text rest is line)
workload_taken words size (fault.Named t (named.Name why)) is (task, over, text, rest, line, h) =
    absurd (no_statement words size task over text rest is line)
workload_taken words size (fault.NoMinus name) is (task, over, text, rest, line, s, named, h) =
    absurd (no_statement words size task over text rest is line)
workload_taken words size (fault.Named t (named.Binding why)) is (task, over, rest, names, h) =
    absurd (no_statement words size task over names.text rest is names.line)
workload_taken words size (fault.Named t (named.Cycle cycle)) is h = h
workload_taken words size (fault.Named t (named.Range why)) is h = h
workload_taken words size (fault.Named t (named.SizeLimit large)) is h = h
workload_taken words size (fault.WorkspaceLimit count) is h = h
workload_taken words size (fault.ReadFault path) is h = h
workload_taken words size (fault.FileBytes path) is h = h
workload_taken words size (fault.BadFile path line kind) is h = h
workload_taken words size (fault.Kernel reason) is h = h
workload_taken words size (fault.WriteFault path) is h = h
workload_taken words size fault.Memory is h = h
