-- Where all input of `exec` is whole, it ends with its result.
use Rattle.std.specs.Prelude.{◌≡◌, ℕ, zero, suc, ◌-◌, ◌+◌, ◌≤◌, ◌⊎◌, true, List, [], ◌∷◌, ◌++◌, length, map, Option}
use Rattle.std.specs.Prelude.{Some, None, Result, Ok, Err}
use Rattle.std.specs.Prelude.{Vec, String, string_bytes, slice_index, refl, ⊤}
use Rattle.std.specs.Option.{option_map}
use Rattle.std.proofs.Common.{◌∙◌, sym, ap, subst, inl, inr, arith}
use Rattle.std.proofs.lemmas.List.{length-append}
use Rattle.std.proofs.lemmas.List.Elements.{All-tail}
use Rattle.std.proofs.lemmas.List.FromFn.{length-map-range_with_len}
use Rattle.std.specs.declared.alloc.Global.{Global}
use Rattle.limits.specs.Limits.{greatest_position_count}
use Rattle.outside.specs.Count.{Rose}
use Rattle.outside.specs.Folder.{FolderState}
use Rattle.outside.specs.Sink.{SinkState}
use Rattle.outside.specs.Told.{Told, Bytes, NoFile}
use Rattle.numbers.specs.Arithmetic.{Arithmetic}
use Rattle.tensor_map.specs.Entries.{Entries}
use Rattle.tensor_storage.specs.Counts.{AreFew}
use Rattle.format_spec.specs.declared.format.FormatLevel.{FormatLevel}
use Rattle.index_notation.specs.declared.syntax.Statement.{Statement}
use Rattle.notation_reader.proofs.NotationLaws as notations
use Rattle.expr_terms.specs.Ranges.{ranges_of}
use Rattle.expr_terms.specs.Told.{given_at}
use Rattle.expr_terms.specs.declared.bound.Bound.{Bound}
use Rattle.expr_terms.specs.declared.range_fault.RangeFault.{RangeFault}
use Rattle.command_line.specs.CommandLine.{CommandLine, Exec, Statement as StatementLine, Workload, command_line_of}
use Rattle.command_line.specs.declared.Over.{Over}
use Rattle.command_line.specs.declared.Task.{Task}
use Rattle.bindings.proofs.OneAnswer as bindings
use Rattle.bindings.specs.Bindings.{order_of}
use Rattle.bindings.specs.Outcome.{Binds}
use Rattle.kernel_code.specs.declared.syntax.Kernel.{Kernel}
use Rattle.kernel_code.specs.declared.syntax.Place.{Place}
use Rattle.kernel_code.specs.declared.syntax.Place.TheVariants.{Level, Workspace as InWorkspace}
use Rattle.kernel_read.specs.Answers.{IsAnswer}
use Rattle.kernel_read.specs.declared.fault.KernelFault.{KernelFault}
use Rattle.kernel_read.specs.declared.fault.KernelFault.TheVariants as reading
use Rattle.kernel_machine.specs.declared.checked_fault.CheckedFault.{CheckedFault}
use Rattle.kernel_machine.specs.declared.checked_fault.CheckedFault.TheVariants as checked
use Rattle.operand_files.specs.KernelFiles.{ReadsText}
use Rattle.operand_files.specs.Laws.{AreTold, told_operands}
use Rattle.operand_files.specs.Reads.{IsReadFault, IsRefused, IsToldText, IsTooLong}
use Rattle.operand_files.specs.declared.fault.OperandFault.{OperandFault}
use Rattle.operand_files.specs.declared.fault.OperandFault.TheVariants as operand
use Rattle.operand_files.specs.declared.kernel_file.KernelFileFault.{KernelFileFault}
use Rattle.operand_files.specs.declared.kernel_file.KernelFileFault.TheVariants as file
use Rattle.operand_files.proofs.ToldLaws.{told_answer, told_bad_line, told_others}
use Rattle.operand_packing.specs.Packed.{IsFirstLargeOperand, OperandsFit}
use Rattle.operand_packing.specs.Runnable.{told_ranges}
use Rattle.kernel_runs.specs.Given.{IsLargeGiven, IsPackedStore, MayRefuseGiven, StopsGiven}
use Rattle.kernel_runs.specs.declared.fault.GivenFault.{GivenFault}
use Rattle.kernel_runs.specs.declared.fault.GivenFault.TheVariants as given
use Rattle.kernel_runs.specs.declared.fault.RunFault.TheVariants as run
use Rattle.result_files.specs.declared.refusal.WriteRefusal.TheVariants as write
use Rattle.refusals.specs.Lines.{status_of}
use Rattle.refusals.specs.declared.fault.KernelFault.TheVariants as kernels
use Rattle.refusals.specs.declared.fault.NamedFault.TheVariants as named
use Rattle.refusals.specs.declared.fault.Fault.{Fault}
use Rattle.refusals.specs.declared.fault.Fault.TheVariants as fault
use Rattle.taco_top.proofs.NamedTexts.{named_never_refused, named_once}
use Rattle.taco_top.specs.Asked.{AreNamed, IsWant}
use Rattle.taco_top.specs.Ends.{Ends, Ending, Written, Printed, Refused, Executed, Unexecuted, Cause, status_of_end}
use Rattle.taco_top.specs.Exec.{AsksExec, AsksExecOf, ExecNames, ExecRequest, IsExecRefused, exec_orders, exec_paths}
use Rattle.taco_top.specs.Executed.{HasInput, HasKernel, IsExecUnwritten, StopsAtKernel, StopsAtOperands, StopsAtRun, StopsExec}
use Rattle.taco_top.specs.Executed.{RefusesExec, kernel_values}
use Rattle.taco_top.specs.Run.{operand_path}
use Rattle.taco_top.specs.Values.{Values, values_in}
use Rattle.taco_top.specs.Whole.{bound_told}
use Rattle.taco_top.specs.WholeExec.{IsWholeExec, RunsWhole, entries_in}
use Rattle.taco_top.specs.Written.{means}
use Rattle.taco_top.proofs.OneRequest.{binding_apart}
use Rattle.taco_top.proofs.TextLaws.{other_refused}
use Rattle.taco_top.proofs.WholeLaws.{apart, bounds_same, fault_rose, ok_of}

-- ---- the words ask for one thing

abbrev path_in : Option CommandLine → List ℕ
path_in None = []
path_in (Some (StatementLine task over expr words)) = []
path_in (Some (Workload size)) = []
path_in (Some (Exec path budget expr words)) = path

abbrev budget_in : Option CommandLine → ℕ
budget_in None = 0
budget_in (Some (StatementLine task over expr words)) = 0
budget_in (Some (Workload size)) = 0
budget_in (Some (Exec path budget expr words)) = budget

abbrev expr_in : Option CommandLine → List ℕ
expr_in None = []
expr_in (Some (StatementLine task over expr words)) = []
expr_in (Some (Workload size)) = []
expr_in (Some (Exec path budget expr words)) = expr

abbrev words_in : Option CommandLine → List (List ℕ)
words_in None = []
words_in (Some (StatementLine task over expr words)) = []
words_in (Some (Workload size)) = []
words_in (Some (Exec path budget expr words)) = words

module _ (words : List (List ℕ)) (path other : List ℕ) (budget turns : ℕ) (text expr : List ℕ) (rest more : List (List ℕ))
    (is : AsksExecOf words path budget text rest) (be : AsksExecOf words other turns expr more) where
  one_path : path ≡ other
  one_path = ap path_in (sym is ∙ be)

  one_budget : budget ≡ turns
  one_budget = ap budget_in (sym is ∙ be)

  one_text : text ≡ expr
  one_text = ap expr_in (sym is ∙ be)

  one_rest : rest ≡ more
  one_rest = ap words_in (sym is ∙ be)

module _ (words : List (List ℕ)) (path other : List ℕ) (budget turns : ℕ) (s t : Statement) (rest more : List (List ℕ))
    (is : ExecNames words path budget s rest) (be : ExecNames words other turns t more) where
  one_statement : s ≡ t
  one_statement =
      named_once be.text s t
      (subst (λ text. AreNamed text s) (one_text words path other budget turns is.text be.text rest more is.line be.line) is.named) be.named

module _ (words : List (List ℕ)) (r q : ExecRequest) (asks : AsksExec words r) (ask : AsksExec words q) where
  same_statement : r.statement ≡ q.statement
  same_statement = one_statement words r.path q.path r.budget q.budget r.statement q.statement asks.rest ask.rest asks.names ask.names

  same_binds : Binds r.statement asks.rest true q.formats q.files q.given
  same_binds =
      subst (λ u. Binds u asks.rest true q.formats q.files q.given) (sym same_statement)
      (subst (λ rest. Binds q.statement rest true q.formats q.files q.given)
      (sym (one_rest words r.path q.path r.budget q.budget asks.names.text ask.names.text asks.rest ask.rest asks.names.line
      ask.names.line))
      ask.binds)

  one_request : r ≡ q
  one_request =
      let p = one_path words r.path q.path r.budget q.budget asks.names.text ask.names.text asks.rest ask.rest asks.names.line
      ask.names.line in
      let b = one_budget words r.path q.path r.budget q.budget asks.names.text ask.names.text asks.rest ask.rest asks.names.line
      ask.names.line in
      let s = same_statement in
      let fs = bindings.same_formats r.statement asks.rest true r.formats q.formats r.files q.files r.given q.given asks.binds same_binds in
      let xs = bindings.same_files r.statement asks.rest true r.formats q.formats r.files q.files r.given q.given asks.binds same_binds in
      let gs = bindings.same_ranges r.statement asks.rest true r.formats q.formats r.files q.files r.given q.given asks.binds same_binds in
      λ i. record { path = p i; budget = b i; statement = s i; formats = fs i; files = xs i; given = gs i }

-- and what is asked for isn't refused
module _ (words : List (List ℕ)) (r : ExecRequest) (asks : AsksExec words r) where
  named_of : (path : List ℕ) (budget : ℕ) (text : List ℕ) (rest : List (List ℕ)) → AsksExecOf words path budget text rest
      → AreNamed text r.statement
  named_of path budget text rest line =
      subst (λ t. AreNamed t r.statement)
      (one_text words r.path path r.budget budget asks.names.text text asks.rest rest asks.names.line line) asks.names.named

  binds_of : (path : List ℕ) (budget : ℕ) (t : Statement) (rest : List (List ℕ)) → ExecNames words path budget t rest
      → Binds t rest true r.formats r.files r.given
  binds_of path budget t rest names =
      subst (λ u. Binds u rest true r.formats r.files r.given)
      (one_statement words r.path path r.budget budget r.statement t asks.rest rest asks.names names)
      (subst (λ ws. Binds r.statement ws true r.formats r.files r.given)
      (one_rest words r.path path r.budget budget asks.names.text names.text asks.rest rest asks.names.line names.line) asks.binds)

  only_want : (why : Fault) → IsExecRefused words why → IsWant why
  only_want fault.Usage is = is
  only_want (fault.Notation why) (path, budget, text, rest, line, is) =
      let one = named_of path budget text rest line in notations.never_both text one.written why one.notation is
  only_want (fault.Named t (named.Name why)) (path, budget, text, rest, line, is) =
      named_never_refused text r.statement (named_of path budget text rest line) t why is
  only_want (fault.Named t (named.Binding why)) (path, budget, rest, names, is) =
      binding_apart t rest true r.formats r.files r.given why (binds_of path budget t rest names) is
  only_want (fault.Named t (named.Cycle cycle)) is = is
  only_want (fault.Named t (named.Range why)) is = is
  only_want (fault.Named t (named.SizeLimit large)) is = is
  only_want (fault.NoMinus name) is = is
  only_want (fault.WorkspaceLimit count) is = is
  only_want (fault.ReadFault path) is = is
  only_want (fault.FileBytes path) is = is
  only_want (fault.BadFile path line kind) is = is
  only_want (fault.Kernel why) is = is
  only_want (fault.WriteFault path) is = is
  only_want fault.Memory is = tt

-- ---- no number in the midst of few ones passes the limit
few_within : (above below : List ℕ) (count : ℕ) → AreFew (above ++ (count ∷ below)) → count ≤ greatest_position_count
few_within [] below count few = few 0 0 (omega arith)
few_within (n ∷ above) below count few =
    few_within above below count (All-tail (λ count. count ≤ greatest_position_count) n (above ++ (count ∷ below)) few)

none_large : (a : Arithmetic) (s : Statement) (formats : List (List FormatLevel)) (ranges : ℕ → ℕ) (operands : List Entries)
    (tensor level count : ℕ) → OperandsFit a s formats ranges operands → IsFirstLargeOperand a s formats ranges operands tensor level count
    → ⊥
none_large a s formats ranges operands tensor level count fits large =
    let first = large.large.first in
    let few = few_within first.above first.below count
    (subst AreFew first.all (fits large.n large.entries large.is large.large.counts large.large.have)) in
    let passes = first.passes in
    omega (arith, few, passes)

one_ranges : (r : Result (List ℕ) RangeFault) (xs ys : List ℕ) → r ≡ Ok xs → r ≡ Ok ys → xs ≡ ys
one_ranges (Ok zs) xs ys x y =
    let first : zs ≡ xs = cc in
    let second : zs ≡ ys = cc in sym first ∙ second
one_ranges (Err fault) xs ys x y = absurd cc

told_apart : (told : Told) (bytes : List ℕ) → told ≡ Bytes bytes → told ≡ NoFile → ⊥
told_apart told bytes is none = never (sym is ∙ none)
  where
    never : Bytes bytes ≡ NoFile → ⊥
    never e = cc

-- no other fault of a run is want of memory
size_apart : {at : Place} {count : ℕ} → checked.SizeLimit at count ≡ checked.Memory → ⊥
size_apart h = cc

trap_apart : {statement : ℕ} → checked.Trap statement ≡ checked.Memory → ⊥
trap_apart h = cc

budget_apart : checked.Budget ≡ checked.Memory → ⊥
budget_apart h = cc

store_apart : checked.BadStore ≡ checked.Memory → ⊥
store_apart h = cc

-- ---- no stage has a cause

-- want of memory in the reading of a kernel's file, and of operands
abbrev IsFileWant : KernelFileFault → Type 0
IsFileWant file.ReadFault = ⊥
IsFileWant file.FileBytes = ⊥
IsFileWant (file.KernelDepth line) = ⊥
IsFileWant (file.BadKernel line) = ⊥
IsFileWant file.Memory = ⊤

abbrev IsOperandWant : OperandFault → Type 0
IsOperandWant (operand.ReadFault path) = ⊥
IsOperandWant (operand.FileBytes path) = ⊥
IsOperandWant (operand.BadFile path line kind) = ⊥
IsOperandWant operand.Memory = ⊤

-- and in a run
abbrev IsRunWant : GivenFault → Type 0
IsRunWant (given.Run (run.Range why)) = ⊥
IsRunWant (given.Run (run.SizeLimit large)) = ⊥
IsRunWant (given.Run (run.Workspace count)) = ⊥
IsRunWant (given.Run (run.Memory error)) = ⊤
IsRunWant (given.Trap statement) = ⊥
IsRunWant given.Budget = ⊥
IsRunWant given.BadStore = ⊥

module _ (words : List (List ℕ)) (files new : FolderState) (whole : IsWholeExec words files.holds)
    (no_fault : Rose files.read_faults new.read_faults → ⊥) where
  -- another reading of the same words asks for the same
  at_request : (P : ExecRequest → Type 0) (r : ExecRequest) → AsksExec words r → P r → P whole.request
  at_request P r asks h = subst P (one_request words r whole.request asks whole.asks) h

  as_many : length (exec_orders whole.request) ≡ length (exec_paths whole.request)
  as_many = length-map-range_with_len (order_of whole.request.statement) 1 (length whole.request.statement.tensors - 1)
      ∙ sym (length-map-range_with_len (operand_path whole.request.statement whole.request.files) 1
      (length whole.request.statement.tensors - 1))

  -- ---- the kernel's file

  read_text : (between : FolderState) (answer : Result Kernel KernelFault) → ReadsText whole.request.path files between answer
      → IsAnswer whole.text answer
  read_text between answer is =
      let same : whole.text ≡ is.bytes = subst (λ told. IsToldText told is.bytes) whole.text_is is.whole.told_text in
      subst (λ bytes. IsAnswer bytes answer) (sym same) is.is_answer

  not_failed : IsReadFault files new whole.request.path → ⊥
  not_failed (inl fault) = no_fault fault.0
  not_failed (inr none) = told_apart (files.holds whole.request.path) whole.text whole.text_is none

  not_long : (bytes : List ℕ) → IsTooLong (files.holds whole.request.path) bytes → ⊥
  not_long bytes is =
      let too_long = subst (λ told. IsTooLong told bytes) whole.text_is is in
      let front = too_long.told_front in
      let lengths : length whole.text ≡ length bytes + length front.0 = ap length front.1 ∙ length-append bytes front.0 in
      let long = too_long.long in
      let short = whole.short in
      omega (arith, lengths, long, short)

  no_kernel_fault : (path : List ℕ) (why : KernelFileFault) → StopsAtKernel words files new path why → IsFileWant why
  no_kernel_fault path file.ReadFault is =
      not_failed (at_request (λ r. IsReadFault files new r.path) is.request is.asks is.refused.0)
  no_kernel_fault path file.FileBytes is =
      not_long is.refused.bytes
      (at_request (λ r. IsTooLong (files.holds r.path) is.refused.bytes) is.request is.asks is.refused.too_long)
  no_kernel_fault path (file.KernelDepth line) is =
      whole.no_fault (reading.KernelDepth line) (read_text new (Err (reading.KernelDepth line))
      (at_request (λ r. ReadsText r.path files new (Err (reading.KernelDepth line))) is.request is.asks is.refused))
  no_kernel_fault path (file.BadKernel line) is =
      whole.no_fault (reading.BadKernel line) (read_text new (Err (reading.BadKernel line))
      (at_request (λ r. ReadsText r.path files new (Err (reading.BadKernel line))) is.request is.asks is.refused))
  no_kernel_fault path file.Memory is = tt

  -- ---- the operands behind it
  module _ (kernel : Kernel) (between : FolderState) (has : HasKernel whole.request.path files between kernel) where
    runs : RunsWhole whole.request files.holds kernel
    runs = whole.runs kernel (read_text between (Ok kernel) has.reads)

    holds : between.holds ≡ files.holds
    holds = has.only_reads.keeps_writing.holds_is

    told : AreTold between.holds (exec_paths whole.request)
    told = subst (λ h. AreTold h (exec_paths whole.request)) (sym holds) whole.told

    calm : Rose between.read_faults new.read_faults → ⊥
    calm rose = no_fault (subst (λ n. Rose n new.read_faults) has.reads.quiet.read_faults_are rose)

    told_there : told_operands (means (kernel_values kernel)) between.holds (exec_orders whole.request) (exec_paths whole.request)
        ≡ Ok runs.operands
    told_there = ap (λ h. told_operands (means (kernel_values kernel)) h (exec_orders whole.request) (exec_paths whole.request)) holds
        ∙ runs.operands_are

    no_operands : (why : OperandFault)
        → IsRefused (means (kernel_values kernel)) between new (exec_orders whole.request) (exec_paths whole.request) why
        → IsOperandWant why
    no_operands (operand.ReadFault path) is =
        told_others (means (kernel_values kernel)) between new (exec_orders whole.request) (exec_paths whole.request)
        (operand.ReadFault path) told calm is
    no_operands (operand.FileBytes path) is =
        told_others (means (kernel_values kernel)) between new (exec_orders whole.request) (exec_paths whole.request)
        (operand.FileBytes path) told calm is
    no_operands (operand.BadFile path line kind) is =
        apart (sym told_there
        ∙ told_bad_line (means (kernel_values kernel)) between new (exec_orders whole.request) (exec_paths whole.request) path.now line kind
        told is)
    no_operands operand.Memory is = tt

  no_operand_fault : (why : OperandFault) → StopsAtOperands words files new why → IsOperandWant why
  no_operand_fault why is =
      let has = at_request (λ r. HasKernel r.path files is.between is.kernel) is.request is.asks is.has_kernel in
      no_operands is.kernel is.between has why
      (at_request (λ r. IsRefused (means (kernel_values is.kernel)) is.between new (exec_orders r) (exec_paths r) why) is.request is.asks
      is.refused)

  -- ---- the run
  module _ (kernel : Kernel) (entries : List Entries) (bounds : List (Vec Bound Global))
      (input : HasInput words files new whole.request kernel entries bounds) where
    there : RunsWhole whole.request files.holds kernel
    there = runs kernel input.between input.has_kernel

    operands_are : input.reads.operands ≡ there.operands
    unfolding there runs
    operands_are = ap (ok_of [])
        (sym (told_answer (means (kernel_values kernel)) input.between new (exec_orders whole.request) (exec_paths whole.request) entries
        (map (λ b. b.items) bounds) (told kernel input.between input.has_kernel) as_many input.reads)
        ∙ told_there kernel input.between input.has_kernel)

    entries_are : entries ≡ entries_in there.operands
    entries_are = input.reads.entries_are ∙ ap entries_in operands_are

    bounds_are : map (λ b. b.items) bounds ≡ map (λ operand. operand.bounds) there.operands
    bounds_are = input.reads.bounds_are ∙ ap (map (λ operand. operand.bounds)) operands_are

    ranges_there : told_ranges whole.request.statement whole.request.given bounds ≡ Ok there.ranges
    ranges_there = ap (ranges_of whole.request.statement (given_at whole.request.given)) (bounds_same bounds ∙ ap bound_told bounds_are)
        ∙ there.ranges_are

    -- the machine answers no fault on the store of these operands
    no_stop : (why : CheckedFault)
        → StopsGiven (kernel_values kernel).arithmetic whole.request.statement whole.request.formats kernel whole.request.given entries
        bounds whole.request.budget why → why ≡ checked.Memory
    no_stop why is =
        let ranges = one_ranges (told_ranges whole.request.statement whole.request.given bounds) is.ranges there.ranges is.ranges_are
        ranges_there in
        there.ends is.store
        (subst (λ rs. IsPackedStore (kernel_values kernel).arithmetic whole.request.statement whole.request.formats rs
        (entries_in there.operands) is.store) ranges
        (subst (λ es. IsPackedStore (kernel_values kernel).arithmetic whole.request.statement whole.request.formats is.ranges es is.store)
        entries_are is.is_store)) why is.fault_is

    no_large : (tensor level count : ℕ)
        → IsLargeGiven (kernel_values kernel).arithmetic whole.request.statement whole.request.formats kernel whole.request.given entries
        bounds whole.request.budget tensor level count → ⊥
    no_large zero level count is = size_apart (no_stop (checked.SizeLimit (Level level) count) is)
    no_large (suc n) level count is =
        let ranges = one_ranges (told_ranges whole.request.statement whole.request.given bounds) is.ranges there.ranges is.ranges_are
        ranges_there in
        none_large (kernel_values kernel).arithmetic whole.request.statement whole.request.formats (slice_index there.ranges)
        (entries_in there.operands) (suc n) level count there.fits
        (subst (λ rs. IsFirstLargeOperand (kernel_values kernel).arithmetic whole.request.statement whole.request.formats (slice_index rs)
        (entries_in there.operands) (suc n) level count) ranges
        (subst (λ es. IsFirstLargeOperand (kernel_values kernel).arithmetic whole.request.statement whole.request.formats
        (slice_index is.ranges) es (suc n) level count) entries_are is.large))

    no_run : (why : GivenFault)
        → MayRefuseGiven (kernel_values kernel).arithmetic whole.request.statement whole.request.formats kernel whole.request.given entries
        bounds whole.request.budget why → IsRunWant why
    no_run (given.Run (run.Range why)) is = apart (sym ranges_there ∙ is)
    no_run (given.Run (run.SizeLimit large)) is = no_large large.tensor large.level large.count is
    no_run (given.Run (run.Workspace count)) is = size_apart (no_stop (checked.SizeLimit InWorkspace count) is)
    no_run (given.Run (run.Memory error)) is = tt
    no_run (given.Trap statement) is = trap_apart (no_stop (checked.Trap statement) is)
    no_run given.Budget is = budget_apart (no_stop checked.Budget is)
    no_run given.BadStore is = store_apart (no_stop checked.BadStore is)

  no_run_fault : (why : GivenFault) → StopsAtRun words files new why → IsRunWant why
  no_run_fault why is =
      let input = at_request (λ r. HasInput words files new r is.kernel is.entries is.bounds) is.request is.input.asks is.input in
      no_run is.kernel is.entries is.bounds input why
      (at_request (λ r. MayRefuseGiven (kernel_values is.kernel).arithmetic r.statement r.formats is.kernel r.given is.entries is.bounds
      r.budget why) is.request is.input.asks is.refused)

  no_file_fault : (path : List ℕ) (why : KernelFileFault) (other : OperandFault) → (IsFileWant why → ⊥) → (IsOperandWant other → ⊥)
      → StopsAtKernel words files new path why ⊎ StopsAtOperands words files new other → ⊥
  no_file_fault path why other first second (inl is) = first (no_kernel_fault path why is)
  no_file_fault path why other first second (inr is) = second (no_operand_fault other is)

  never_stops : (why : Fault) → StopsExec words files new why → why ≡ fault.Memory
  never_stops fault.Usage is = absurd is
  never_stops (fault.Notation why) is = absurd (only_want words whole.request whole.asks (fault.Notation why) is.refused)
  never_stops (fault.Named s (named.Name why)) is =
      absurd (only_want words whole.request whole.asks (fault.Named s (named.Name why)) is.refused)
  never_stops (fault.Named s (named.Binding why)) is =
      absurd (only_want words whole.request whole.asks (fault.Named s (named.Binding why)) is.refused)
  never_stops (fault.Named s (named.Cycle cycle)) is = absurd is
  never_stops (fault.Named s (named.Range why)) is = absurd (no_run_fault (given.Run (run.Range why)) is.stops)
  never_stops (fault.Named s (named.SizeLimit large)) is = absurd (no_run_fault (given.Run (run.SizeLimit large)) is.stops)
  never_stops (fault.NoMinus name) is = absurd is
  never_stops (fault.WorkspaceLimit count) is = absurd (no_run_fault (given.Run (run.Workspace count)) is)
  never_stops (fault.ReadFault path) is =
      absurd (no_file_fault path.now file.ReadFault (operand.ReadFault path) (λ never. never) (λ never. never) is)
  never_stops (fault.FileBytes path) is =
      absurd (no_file_fault path.now file.FileBytes (operand.FileBytes path) (λ never. never) (λ never. never) is)
  never_stops (fault.BadFile path line kind) is = absurd (no_operand_fault (operand.BadFile path line kind) is)
  never_stops (fault.Kernel (kernels.KernelDepth path line)) is = absurd (no_kernel_fault path.now (file.KernelDepth line) is)
  never_stops (fault.Kernel (kernels.BadKernel path line)) is = absurd (no_kernel_fault path.now (file.BadKernel line) is)
  never_stops (fault.Kernel (kernels.Trap statement)) is = absurd (no_run_fault (given.Trap statement) is)
  never_stops (fault.Kernel (kernels.Budget turns)) is = absurd (no_run_fault given.Budget is.stops)
  never_stops (fault.Kernel kernels.BadStore) is = absurd (no_run_fault given.BadStore is)
  never_stops (fault.WriteFault path) is = absurd is
  never_stops fault.Memory is = refl

module _ (words : List (List ℕ)) (files files' : FolderState) (out out' : SinkState) (whole : IsWholeExec words files.holds)
    (no_read : Rose files.read_faults files'.read_faults → ⊥) (no_write : Rose files.write_faults files'.write_faults → ⊥)
    (no_out : Rose out.faults out'.faults → ⊥) where
  never_written_off : (path : Option (List ℕ)) → IsExecUnwritten words files files' out out' path write.Fault → ⊥
  never_written_off path is = by (fault_rose path is.refuses.text is.between files' out out' is.refuses.puts)
    where
      by : Rose is.between.write_faults files'.write_faults ⊎ Rose out.faults out'.faults → ⊥
      by (inl rose) = no_write (subst (λ n. Rose n files'.write_faults) is.only_reads.keeps_writing.write_faults_are rose)
      by (inr rose) = no_out rose

  by_stop : (why : Fault) → StopsExec words files files' why → (status_of why ≡ 0) ⊎ (status_of why ≡ 5)
  by_stop why is = inr (ap status_of (never_stops words files files' whole no_read why is))

  unexecuted : (why : Fault) → RefusesExec words files files' out out' why → (status_of why ≡ 0) ⊎ (status_of why ≡ 5)
  unexecuted fault.Memory is = inr refl
  unexecuted (fault.WriteFault path) is = absurd (never_written_off (option_map (λ p. p.now) path) is)
  unexecuted fault.Usage is = by_stop fault.Usage is.stops
  unexecuted (fault.Notation why) is = by_stop (fault.Notation why) is.stops
  unexecuted (fault.Named s why) is = by_stop (fault.Named s why) is.stops
  unexecuted (fault.NoMinus name) is = by_stop (fault.NoMinus name) is.stops
  unexecuted (fault.WorkspaceLimit count) is = by_stop (fault.WorkspaceLimit count) is.stops
  unexecuted (fault.ReadFault path) is = by_stop (fault.ReadFault path) is.stops
  unexecuted (fault.FileBytes path) is = by_stop (fault.FileBytes path) is.stops
  unexecuted (fault.BadFile path line kind) is = by_stop (fault.BadFile path line kind) is.stops
  unexecuted (fault.Kernel why) is = by_stop (fault.Kernel why) is.stops

  -- the line is no statement's, and is one
  no_line : (t : Task) (o : Over) (expr : List ℕ) (rest : List (List ℕ)) → command_line_of words ≡ Some (StatementLine t o expr rest) → ⊥
  no_line t o expr rest is = never (sym whole.asks.names.line ∙ is)
    where
      never : Some (Exec whole.request.path whole.request.budget whole.asks.names.text whole.asks.rest)
          ≡ Some (StatementLine t o expr rest) → ⊥
      never e = cc

  some : command_line_of words ≡ None → ⊥
  some is = never (sym whole.asks.names.line ∙ is)
    where
      never : Some (Exec whole.request.path whole.request.budget whole.asks.names.text whole.asks.rest) ≡ None → ⊥
      never e = cc

  exec_ends_well : (over : Values) (ended : Ending) → Cause over words files files' out out' ended
      → (status_of_end ended ≡ 0) ⊎ (status_of_end ended ≡ 5)
  exec_ends_well over (Written turns) cause = inl refl
  exec_ends_well over Printed cause = inl refl
  exec_ends_well over (Refused why) cause =
      inr (ap status_of (other_refused over words files files' out out' no_line some no_out why cause))
  exec_ends_well over (Executed turns) cause = inl refl
  exec_ends_well over (Unexecuted why) cause = unexecuted why cause

pub exec_ends : (words : List (String Global)) (files files' : FolderState) (out out' err err' : SinkState) (status : ℕ)
    → IsWholeExec (map string_bytes words) files.holds → (Rose files.read_faults files'.read_faults → ⊥)
    → (Rose files.write_faults files'.write_faults → ⊥) → (Rose out.faults out'.faults → ⊥)
    → Ends words files files' out out' err err' status → (status ≡ 0) ⊎ (status ≡ 5)
exec_ends words files files' out out' err err' status whole no_read no_write no_out ends =
    subst (λ n. (n ≡ 0) ⊎ (n ≡ 5)) (sym ends.status_is)
    (exec_ends_well (map string_bytes words) files files' out out' whole no_read no_write no_out (values_in (map string_bytes words))
    ends.ended ends.cause)
