-- How `exec` ends, from how its parts do.
use Rattle.std.specs.Prelude.{◌≡◌, ℕ, ◌∷◌, ◌++◌, [], true, List, Option, length, map, slice_index, take, Vec, refl}
use Rattle.std.proofs.Common.{◌∙◌, sym, ap, subst, inl, inr}
use Rattle.std.proofs.lemmas.List.{append-nil, append_assoc, length-map}
use Rattle.std.specs.declared.alloc.Global.{Global}
use denote.Ref.{Bor}
use Rattle.outside.specs.Folder.{FolderState}
use Rattle.outside.specs.Told.{Told}
use Rattle.outside.specs.Sink.{SinkState}
use Rattle.tensor_map.specs.Coords.{IsShape}
use Rattle.tensor_map.specs.Entries.{AreEntries, Entries, value_at}
use Rattle.format_spec.specs.declared.format.FormatLevel.{FormatLevel}
use Rattle.index_notation.specs.Statement.{IsNumberedWithSums, IsWellNamed}
use Rattle.expr_terms.specs.declared.bound.Bound.{Bound}
use Rattle.expr_terms.proofs.ExpandLaws.{expanded_named}
use Rattle.taco_top.proofs.WellNamed.{notation_well_named}
use Rattle.kernel_code.specs.declared.syntax.Kernel.{Kernel}
use Rattle.mtx_io.specs.Progress.{IsMatrixOrder}
use Rattle.bindings.specs.Tables.{path_to}
use Rattle.operand_files.specs.Decoded.{AreReadable}
use Rattle.operand_files.specs.KernelFiles.{IsKernelRefused}
use Rattle.operand_files.specs.Reads.{Given, HaveRead, IsOpening, IsRefused, NoReadFails, OnlyReads, OpensFirst, paths_of}
use Rattle.operand_files.specs.declared.fault.OperandFault.{OperandFault}
use Rattle.operand_files.specs.declared.fault.OperandFault.TheVariants as operand
use Rattle.operand_files.specs.declared.kernel_file.KernelFileFault.{KernelFileFault}
use Rattle.operand_files.specs.declared.kernel_file.KernelFileFault.TheVariants as file
use Rattle.operand_packing.specs.Runnable.{IsRunnable}
use Rattle.taco_top.proofs.NamesRead.{text_read, text_keeps_orders}
use Rattle.operand_packing.proofs.Runnable.{read_is_runnable}
use Rattle.kernel_runs.specs.Given.{IsGivenRun, MayRefuseGiven}
use Rattle.kernel_runs.specs.declared.fault.GivenFault.{GivenFault}
use Rattle.kernel_runs.specs.declared.fault.GivenFault.TheVariants as given
use Rattle.kernel_runs.specs.declared.fault.RunFault.TheVariants as run
use Rattle.kernel_runs.proofs.Shapes.{ranges_shape}
use Rattle.result_files.specs.ResultText.{asks_matrix}
use Rattle.result_files.specs.Writes.{RefusesResult, WritesResult}
use Rattle.result_files.specs.declared.refusal.WriteRefusal.{WriteRefusal}
use Rattle.refusals.specs.declared.fault.KernelFault.TheVariants as kernels
use Rattle.refusals.specs.declared.fault.Fault.{Fault}
use Rattle.refusals.specs.declared.fault.Fault.TheVariants as fault
use Rattle.taco_top.specs.Exec.{AsksExec, ExecNames, ExecRequest, exec_orders, exec_paths}
use Rattle.taco_top.specs.Executed.{HasInput, HasKernel, IsExecUnwritten, IsExecuted, OpensInput, StopsAtRun, StopsExec}
use Rattle.taco_top.specs.Executed.{RefusesExec, kernel_values}
use Rattle.taco_top.specs.Executing.{IsReady, fault_of_run}
use Rattle.taco_top.specs.Run.{path_of}
use Rattle.taco_top.specs.Values.{Values}
use Rattle.taco_top.specs.Written.{means}
use Rattle.taco_top.specs.declared.executing.Ready.{Ready}
use Rattle.taco_top.proofs.Paths.{paths_readable, result_is_matrix}
use Rattle.taco_top.proofs.Reading.{fault_of}

-- ---- what the words ask for

module _ (words : List (List ℕ)) (r : ExecRequest) (asks : AsksExec words r) where
  abbrev names : ExecNames words r.path r.budget r.statement asks.rest
  names = asks.names

  written : IsWellNamed names.named.written
  written = notation_well_named names.text names.named.written names.named.notation names.named.names

  well_named : IsWellNamed r.statement
  well_named = subst IsWellNamed (sym names.named.stands_for) (expanded_named names.named.written written)

  readable_paths : IsNumberedWithSums r.statement → AreReadable (exec_orders r) (exec_paths r)
  readable_paths numbered =
      paths_readable r.statement asks.rest true refl r.formats r.files r.given asks.binds numbered
      (text_keeps_orders names.text names.named.written r.statement names.named.notation written.result names.named.stands_for)

  -- as they were handed in
  module _ (orders : List ℕ) (paths : List (List ℕ)) (orders_are : orders ≡ exec_orders r) (paths_are : paths ≡ exec_paths r) where
    pub exec_readable : IsNumberedWithSums r.statement → AreReadable orders paths
    exec_readable numbered =
        subst (λ os. AreReadable os paths) (sym orders_are)
        (subst (λ ps. AreReadable (exec_orders r) ps) (sym paths_are) (readable_paths numbered))

  -- the kernel's run can begin on the operands that were read
  pub exec_runnable : (over : Values) (old new : FolderState) (entries : List Entries) (bounds : List (Vec Bound Global))
      → HaveRead (means over) old new (exec_orders r) (exec_paths r) (length (exec_paths r)) entries (map (λ b. b.items) bounds)
      → IsNumberedWithSums r.statement → IsRunnable r.statement r.formats r.given entries bounds
  exec_runnable over old new entries bounds read numbered =
      read_is_runnable over.arithmetic over.has_minus over.is_signed r.statement numbered well_named
      (text_read names.text names.named.written r.statement names.named.notation names.named.stands_for) asks.rest true r.formats
      r.files r.given asks.binds
      old new (exec_paths r) (length (exec_paths r)) entries bounds (readable_paths numbered) refl read

  exec_matrix : asks_matrix (path_of r.files 0) ≡ true → IsMatrixOrder (length r.statement.left.vars)
  exec_matrix matrix =
      result_is_matrix r.statement asks.rest true r.formats r.files r.given asks.binds well_named.result matrix

-- ---- a command stops before it writes
pub exec_stopped : (words : List (List ℕ)) (files files' : FolderState) (out : SinkState) (why : Fault) → OnlyReads files files'
    → StopsExec words files files' why → RefusesExec words files files' out out why
exec_stopped words files files' out fault.Usage reads is = absurd is
exec_stopped words files files' out (fault.Notation why) reads is = record { only_reads = reads; stops = is; out_is = refl }
exec_stopped words files files' out (fault.NoMinus name) reads is = absurd is
exec_stopped words files files' out (fault.Named s why) reads is = record { only_reads = reads; stops = is; out_is = refl }
exec_stopped words files files' out (fault.WorkspaceLimit count) reads is = record { only_reads = reads; stops = is; out_is = refl }
exec_stopped words files files' out (fault.ReadFault path) reads is = record { only_reads = reads; stops = is; out_is = refl }
exec_stopped words files files' out (fault.FileBytes path) reads is = record { only_reads = reads; stops = is; out_is = refl }
exec_stopped words files files' out (fault.BadFile path line kind) reads is = record { only_reads = reads; stops = is; out_is = refl }
exec_stopped words files files' out (fault.Kernel why) reads is = record { only_reads = reads; stops = is; out_is = refl }
exec_stopped words files files' out (fault.WriteFault path) reads is = absurd is
exec_stopped words files files' out fault.Memory reads is = inl (record { only_reads = reads; stops = is; out_is = refl })

-- ---- the kernel's file

-- what was opened, if anything was, is the file of this path
may_in_order : (told : Told) (path : List ℕ) (paths : List (List ℕ)) (last : List Given) → IsOpening told path last
    → paths_of last ≡ take (length last) (path ∷ paths)
may_in_order told path paths last (inl none) = subst (λ l. paths_of l ≡ take (length l) (path ∷ paths)) (sym none) refl
may_in_order told path paths last (inr (bytes, one, front)) =
    subst (λ l. paths_of l ≡ take (length l) (path ∷ paths)) (sym one) refl

-- a fault of the kernel's file as the program's
abbrev pub kernel_fault : Bor (List ℕ) → KernelFileFault → Fault
kernel_fault path file.ReadFault = fault.ReadFault path
kernel_fault path file.FileBytes = fault.FileBytes path
kernel_fault path (file.KernelDepth line) = fault.Kernel (kernels.KernelDepth path line)
kernel_fault path (file.BadKernel line) = fault.Kernel (kernels.BadKernel path line)
kernel_fault path file.Memory = fault.Memory

module _ (words : List (List ℕ)) (old new : FolderState) (r : ExecRequest) (asks : AsksExec words r) (path : Bor (List ℕ))
    (path_is : path.now ≡ r.path) where
  stops_at_kernel : (why : KernelFileFault) → IsKernelRefused r.path old new why → StopsExec words old new (kernel_fault path why)
  stops_at_kernel file.ReadFault is = inl (record { request = r; asks = asks; path_is = path_is; refused = is })
  stops_at_kernel file.FileBytes is = inl (record { request = r; asks = asks; path_is = path_is; refused = is })
  stops_at_kernel (file.KernelDepth line) is = record { request = r; asks = asks; path_is = path_is; refused = is }
  stops_at_kernel (file.BadKernel line) is = record { request = r; asks = asks; path_is = path_is; refused = is }
  stops_at_kernel file.Memory (may, no_fault) =
      inr (record {
        request = r;
        asks = asks;
        opens = record {
          files = may.last;
          given_is = may.given_is;
          in_order = may_in_order (old.holds r.path) r.path (exec_paths r) may.last may.last_is;
        };
        no_fault = no_fault;
      })

  pub no_kernel : (told why : KernelFileFault) → told ≡ why → IsKernelRefused r.path old new told
      → StopsExec words old new (kernel_fault path why)
  no_kernel told why same is = stops_at_kernel why (subst (IsKernelRefused r.path old new) same is)

-- ---- the operands behind it

module _ (words : List (List ℕ)) (old between new : FolderState) (r : ExecRequest) (asks : AsksExec words r) (kernel : Kernel)
    (has_kernel : HasKernel r.path old between kernel) where
  -- what was opened behind the kernel's file was opened behind what was opened before it
  opens_input : OpensFirst between new (exec_paths r) → NoReadFails between new → OpensInput words old new
  opens_input opens no_fault = record {
    request = r;
    asks = asks;
    opens = record {
      files = (r.path, has_kernel.reads.bytes) ∷ opens.files;
      given_is = opens.given_is ∙ ap (λ front. front ++ opens.files) has_kernel.reads.given_is
          ∙ append_assoc old.given ((r.path, has_kernel.reads.bytes) ∷ []) opens.files;
      in_order = ap (λ paths. r.path ∷ paths) opens.in_order;
    };
    no_fault = record {
      read_faults_are = no_fault.read_faults_are ∙ has_kernel.reads.quiet.read_faults_are;
      faulted_is = no_fault.faulted_is ∙ has_kernel.reads.quiet.faulted_is;
    };
  }

  stops_at_operands : (why : OperandFault)
      → IsRefused (means (kernel_values kernel)) between new (exec_orders r) (exec_paths r) why
      → StopsExec words old new (fault_of why)
  stops_at_operands (operand.ReadFault path) is =
      inr (record { request = r; asks = asks; kernel = kernel; between = between; has_kernel = has_kernel; refused = is })
  stops_at_operands (operand.FileBytes path) is =
      inr (record { request = r; asks = asks; kernel = kernel; between = between; has_kernel = has_kernel; refused = is })
  stops_at_operands (operand.BadFile path line kind) is =
      record { request = r; asks = asks; kernel = kernel; between = between; has_kernel = has_kernel; refused = is }
  stops_at_operands operand.Memory (opens, no_fault) = inr (opens_input opens no_fault)

  -- over the kernel's semiring, at the orders and paths that were handed in
  module _ (over : Values) (over_is : kernel_values kernel ≡ over) (orders : List ℕ) (paths : List (List ℕ))
      (orders_are : orders ≡ exec_orders r) (paths_are : paths ≡ exec_paths r) where
    as_asked : (P : Values → List ℕ → List (List ℕ) → Type 0) → P over orders paths
        → P (kernel_values kernel) (exec_orders r) (exec_paths r)
    as_asked P h = subst (λ v. P v (exec_orders r) (exec_paths r)) (sym over_is)
        (subst (λ os. P over os (exec_paths r)) orders_are (subst (P over orders) paths_are h))

    pub has_input : (count : ℕ) (entries : List Entries) (bounds : List (Vec Bound Global)) → count ≡ length paths
        → HaveRead (means over) between new orders paths count entries (map (λ b. b.items) bounds)
        → HasInput words old new r kernel entries bounds
    has_input count entries bounds many read = record {
      asks = asks;
      between = between;
      has_kernel = has_kernel;
      reads = as_asked (λ v os ps. HaveRead (means v) between new os ps (length ps) entries (map (λ b. b.items) bounds))
          (subst (λ n. HaveRead (means over) between new orders paths n entries (map (λ b. b.items) bounds)) many read);
    }

    pub no_operands : (told why : OperandFault) → told ≡ why → IsRefused (means over) between new orders paths told
        → StopsExec words old new (fault_of why)
    no_operands told why same is =
        stops_at_operands why (as_asked (λ v os ps. IsRefused (means v) between new os ps why)
        (subst (IsRefused (means over) between new orders paths) same is))

-- ---- the run

-- memory was wanted behind the kernel's file, and nothing more was opened
pub wants_behind_kernel : (words : List (List ℕ)) (old here : FolderState) (r : ExecRequest) → AsksExec words r → (kernel : Kernel)
    → HasKernel r.path old here kernel → StopsExec words old here fault.Memory
wants_behind_kernel words old here r asks kernel has_kernel = inr (opens_input words old here here r asks kernel has_kernel
    (record { files = []; given_is = sym (append-nil here.given); in_order = refl })
    (record { read_faults_are = refl; faulted_is = refl }))

module _ (words : List (List ℕ)) (old new : FolderState) (r : ExecRequest) (kernel : Kernel) (entries : List Entries)
    (bounds : List (Vec Bound Global)) (input : HasInput words old new r kernel entries bounds) where
  -- everything was read
  opened : OpensInput words old new
  opened = opens_input words old input.between new r input.asks kernel input.has_kernel
      (record {
        files = input.reads.read.files;
        given_is = input.reads.read.given_is ∙ ap (λ fs. input.between.given ++ fs) (append-nil input.reads.read.files);
        in_order = input.reads.read.in_order;
      })
      (record { read_faults_are = input.reads.quiet.read_faults_are; faulted_is = input.reads.quiet.faulted_is })

  abbrev Refused : GivenFault → Type 0
  Refused why = MayRefuseGiven (kernel_values kernel).arithmetic r.statement r.formats kernel r.given entries bounds r.budget why

  at_run : (why : GivenFault) → Refused why → StopsAtRun words old new why
  at_run why is = record { request = r; kernel = kernel; entries = entries; bounds = bounds; input = input; refused = is }

  stops_at_run : (why : GivenFault) → Refused why → StopsExec words old new (fault_of_run r.statement r.budget why)
  unfolding at_run
  stops_at_run (given.Run (run.Range why)) is = record { stops = at_run (given.Run (run.Range why)) is; statement_is = refl }
  stops_at_run (given.Run (run.SizeLimit large)) is =
      record { stops = at_run (given.Run (run.SizeLimit large)) is; statement_is = refl }
  stops_at_run (given.Run (run.Workspace count)) is = at_run (given.Run (run.Workspace count)) is
  stops_at_run (given.Run (run.Memory error)) is = inr opened
  stops_at_run (given.Trap statement) is = at_run (given.Trap statement) is
  stops_at_run given.Budget is = record { stops = at_run given.Budget is; turns_are = refl }
  stops_at_run given.BadStore is = at_run given.BadStore is

  -- over the kernel's semiring, in the formats and ranges that were handed in
  module _ (over : Values) (over_is : kernel_values kernel ≡ over) (formats : List (List FormatLevel)) (formats_are : formats ≡ r.formats)
      (given_ranges : List (Option ℕ)) (given_are : given_ranges ≡ r.given) where
    as_run : (P : Values → List (List FormatLevel) → List (Option ℕ) → Type 0) → P over formats given_ranges
        → P (kernel_values kernel) r.formats r.given
    as_run P h = subst (λ v. P v r.formats r.given) (sym over_is)
        (subst (λ fs. P over fs r.given) formats_are (subst (P over formats) given_are h))

    pub handed_runnable : IsNumberedWithSums r.statement → IsRunnable r.statement formats given_ranges entries bounds
    handed_runnable numbered =
        subst (λ fs. IsRunnable r.statement fs given_ranges entries bounds) (sym formats_are)
        (subst (λ gs. IsRunnable r.statement r.formats gs entries bounds) (sym given_are)
        (exec_runnable words r input.asks (kernel_values kernel) input.between new entries bounds input.reads numbered))

    pub no_run : (why : GivenFault) → MayRefuseGiven over.arithmetic r.statement formats kernel given_ranges entries bounds r.budget why
        → StopsExec words old new (fault_of_run r.statement r.budget why)
    no_run why is =
        stops_at_run why (as_run (λ v fs gs. MayRefuseGiven v.arithmetic r.statement fs kernel gs entries bounds r.budget why) is)

    pub runs_ready : (kept : Ready) → path_to kept.file ≡ path_of r.files 0 → IsNumberedWithSums r.statement
        → IsGivenRun over.arithmetic r.statement formats kernel given_ranges entries bounds r.budget kept.result.shape kept.result.entries
        kept.result.tensor kept.result.turns
        → AreEntries kept.result.entries → IsReady over words old new kept
    runs_ready kept path_is numbered ran are =
        let runs = as_run (λ v fs gs. IsGivenRun v.arithmetic r.statement fs kernel gs entries bounds r.budget kept.result.shape
        kept.result.entries kept.result.tensor kept.result.turns) ran in
        let fits = (exec_runnable words r input.asks (kernel_values kernel) input.between new entries bounds input.reads
        numbered).ranges_fit
        runs.ranges runs.ranges_are in
        let vars = r.statement.left.vars in
        let is_shape = subst IsShape (sym runs.shape_is) (ranges_shape runs.ranges vars numbered.left.order fits.small) in
        let order = runs.order_is ∙ ap length runs.shape_is ∙ length-map vars (slice_index runs.ranges) in
        record {
          execution = record {
            request = r;
            kernel = kernel;
            entries = entries;
            bounds = bounds;
            input = input;
            shape = kept.result.shape;
            result = kept.result.entries;
            tensor = kept.result.tensor;
            turns = kept.result.turns;
            runs = runs;
          };
          over_is = over_is;
          path_is = sym path_is;
          shape_is = refl;
          result_is = refl;
          turns_are = refl;
          written = record {
            are = are;
            shape = is_shape;
            order_is = runs.order_is;
            below = runs.below;
            increasing = runs.lists.increasing;
            matrix = λ matrix. subst IsMatrixOrder (sym order)
                (exec_matrix words r input.asks (subst (λ p. asks_matrix p ≡ true) path_is matrix));
          };
        }

-- ---- the writing

module _ (over : Values) (words : List (List ℕ)) (files between files' : FolderState) (out out' : SinkState) (kept : Ready)
    (reads : OnlyReads files between) (is : IsReady over words files between kept) where
  -- of what was kept, as of the execution
  as_ran : (P : Values → List ℕ → Entries → Type 0) → P over kept.result.shape kept.result.entries
      → P (kernel_values is.execution.kernel) is.execution.shape is.execution.result
  as_ran P h = subst (λ v. P v is.execution.shape is.execution.result) (sym is.over_is)
      (subst (λ shape. P over shape is.execution.result) (sym is.shape_is)
      (subst (P over kept.result.shape) (sym is.result_is) h))

  pub executed : WritesResult over.arithmetic over.is_signed (path_to kept.file) kept.result.shape
      (value_at over.arithmetic kept.result.entries.list) between files' out out'
      → IsExecuted words files files' out out' kept.result.turns
  executed writes = record {
    between = between;
    only_reads = reads;
    execution = is.execution;
    writes = subst (λ p. WritesResult (kernel_values is.execution.kernel).arithmetic (kernel_values is.execution.kernel).is_signed p
        is.execution.shape (value_at (kernel_values is.execution.kernel).arithmetic is.execution.result.list) between files' out out')
        (sym is.path_is)
        (as_ran (λ v shape entries. WritesResult v.arithmetic v.is_signed (path_to kept.file) shape
        (value_at v.arithmetic entries.list) between files' out out') writes);
    turns_are = is.turns_are;
  }

  pub exec_unwritten : (why : WriteRefusal) → RefusesResult over.arithmetic over.is_signed (path_to kept.file) kept.result.shape
      (value_at over.arithmetic kept.result.entries.list) between files' out out' why
      → IsExecUnwritten words files files' out out' (path_to kept.file) why
  exec_unwritten why refuses = record {
    between = between;
    only_reads = reads;
    execution = is.execution;
    path_is = is.path_is;
    refuses = as_ran (λ v shape entries. RefusesResult v.arithmetic v.is_signed (path_to kept.file) shape
        (value_at v.arithmetic entries.list) between files' out out' why) refuses;
  }
