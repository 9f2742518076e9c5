-- What was computed for the words, as it is kept.
use Rattle.std.specs.Prelude.{◌≡◌, ℕ, ◌≤◌, Bool, true, List, length, All, Option, None, Some, Ok, Vec, slice_index, refl}
use Rattle.std.proofs.Common.{◌∙◌, ap, sym, subst}
use Rattle.std.proofs.lemmas.List.{length-map}
use Rattle.std.specs.declared.alloc.Global.{Global}
use Rattle.limits.specs.Limits.{greatest_position_count}
use Rattle.numbers.specs.Arithmetic.{Arithmetic}
use Rattle.outside.specs.Folder.{FolderState}
use Rattle.tensor_map.specs.Coords.{IsShape}
use Rattle.tensor_map.specs.Entries.{AreEntries, Entries}
use Rattle.index_notation.specs.declared.syntax.Statement.{Statement}
use Rattle.index_notation.specs.Statement.{IsNumberedWithSums}
use Rattle.expr_terms.specs.declared.bound.Bound.{Bound}
use Rattle.bindings.specs.Tables.{path_to}
use Rattle.mtx_io.specs.Progress.{IsMatrixOrder}
use Rattle.kernel_code.specs.declared.syntax.Kernel.{Kernel}
use Rattle.kernel_code.specs.declared.syntax.Turns.{Turns}
use Rattle.kernel_correctness.specs.Stores.{Store}
use Rattle.tensor_storage.specs.Storages.{Storage}
use Rattle.mode_planner.specs.declared.planned.Planned.{Planned}
use Rattle.operand_packing.specs.Runnable.{told_ranges}
use Rattle.kernel_runs.specs.Runs.{IsStoreFor, IsTensorOf, RunsKernel}
use Rattle.kernel_runs.specs.Steps.{ListsNonzero}
use Rattle.kernel_runs.proofs.Shapes.{ranges_shape}
use Rattle.result_files.specs.EntriesText.{MayBeWritten}
use Rattle.result_files.specs.ResultText.{asks_matrix}
use Rattle.taco_top.specs.Values.{Values}
use Rattle.taco_top.specs.Asked.{needs_files}
use Rattle.taco_top.specs.Run.{Request, path_of}
use Rattle.taco_top.specs.Written.{HasOperands}
use Rattle.taco_top.specs.Told.{IsKernelOf}
use Rattle.taco_top.specs.declared.computing.Computed.{Computed}
use Rattle.taco_top.specs.Prepared.{IsPrepared, IsStoredRun}
use Rattle.taco_top.specs.Stored.{IsRunBy, stored_statement, stored_formats, stored_entries}
use Rattle.taco_top.proofs.Accepted.{well_named}
use Rattle.taco_top.proofs.Paths.{result_is_matrix}

-- the entries of a statement's result may be written, as a matrix where its order is that of one
may_be_written : (a : Arithmetic) (s : Statement) (operands : List Entries) (ranges : ℕ → ℕ) (shape : List ℕ) (entries : Entries)
    → AreEntries entries → IsShape shape → IsTensorOf a s operands ranges shape entries → (is_matrix : Bool)
    → (is_matrix ≡ true → IsMatrixOrder (length s.left.vars)) → MayBeWritten is_matrix shape entries
may_be_written a s operands ranges shape entries are is_shape t is_matrix order = record {
  are = are;
  shape = is_shape;
  order_is = t.order_is;
  below = t.below;
  increasing = t.increasing;
  matrix = λ is. subst IsMatrixOrder (sym (t.order_is ∙ ap length t.shape_is ∙ length-map s.left.vars ranges)) (order is);
}

module _ (over : Values) where
  -- the kernel of what words ask for ran, as it is stored
  record Ran (r : Request) (plan : Option Planned) (kernel : Kernel) (entries : List Entries) (bounds : List (Vec Bound Global))
      (shape : List ℕ) (result : Entries) (tensor : Storage) (turns : Turns) : Type 0 where
    ranges : List ℕ
    ranges_are : told_ranges r.statement r.given bounds ≡ Ok ranges
    store : Store
    is_store : IsStoreFor over.arithmetic (stored_statement r.statement plan) (stored_formats r.formats plan) ranges
        (stored_entries entries plan) store
    runs : RunsKernel over.arithmetic (stored_statement r.statement plan) kernel store tensor turns
    lists : ListsNonzero over.arithmetic tensor result
    tensor_of : IsTensorOf over.arithmetic r.statement entries (slice_index ranges) shape result

  ran : (r : Request) (plan : Option Planned) (kernel : Kernel) (entries : List Entries) (bounds : List (Vec Bound Global))
      (shape : List ℕ) (result : Entries) (tensor : Storage) (turns : Turns)
      → IsStoredRun over r.statement r.formats plan kernel r.given entries bounds shape result tensor turns
      → Ran r plan kernel entries bounds shape result tensor turns
  ran r None kernel entries bounds shape result tensor turns run = record {
    ranges = run.ranges;
    ranges_are = run.ranges_are;
    store = run.store;
    is_store = run.is_store;
    runs = run.runs;
    lists = run.lists;
    tensor_of = run.tensor_of;
  }
  ran r (Some plan) kernel entries bounds shape result tensor turns run = record {
    ranges = run.ranges;
    ranges_are = run.ranges_are;
    store = run.store;
    is_store = run.is_store;
    runs = run.runs;
    lists = run.lists;
    tensor_of = run.tensor_of;
  }

  pub prepared : (words : List (List ℕ)) (old new : FolderState) (r : Request) (kept : Computed) (entries : List Entries)
      (bounds : List (Vec Bound Global)) (plan : Option Planned) → IsRunBy r plan → path_to kept.file ≡ path_of r.files 0
      → r.statement ≡ kept.statement → kept.formats.items ≡ r.formats → HasOperands over words old new r entries bounds
      → IsKernelOf over (stored_statement r.statement plan) (stored_formats r.formats plan) kept.compiled.order kept.compiled.kernel
      → IsStoredRun over r.statement r.formats plan kept.compiled.kernel r.given entries bounds kept.result.shape kept.result.entries
      kept.result.tensor kept.result.turns
      → AreEntries kept.result.entries → IsNumberedWithSums r.statement → IsPrepared over words r.task old new kept
  prepared words old new r kept entries bounds plan is_plan path_is statement_is formats_are operands is_kernel is_run are numbered =
      let run = ran r plan kept.compiled.kernel entries bounds kept.result.shape kept.result.entries kept.result.tensor kept.result.turns
      is_run in
      let named = well_named words r operands.accepted.asks in
      let small = subst (All (λ range. range ≤ greatest_position_count)) run.is_store.ranges_are run.is_store.is_store.small in
      let is_shape = subst IsShape (sym run.tensor_of.shape_is)
      (ranges_shape run.ranges r.statement.left.vars numbered.left.order small) in
      record {
        values = record {
          request = r;
          entries = entries;
          bounds = bounds;
          operands = operands;
          ranges = run.ranges;
          ranges_are = run.ranges_are;
        };
        computed = record {
          plan = plan;
          is_plan = is_plan;
          order = kept.compiled.order;
          kernel = kept.compiled.kernel;
          is_kernel = is_kernel;
          store = run.store;
          is_store = run.is_store;
          tensor = kept.result.tensor;
          turns = kept.result.turns;
          runs = run.runs;
        };
        task_is = refl;
        path_is = sym path_is;
        statement_is = statement_is;
        formats_are = sym formats_are;
        each_format = ap length formats_are ∙ operands.accepted.asks.binds.formats_are.tensors
            ∙ ap (λ s. length s.tensors) statement_is;
        order_is = refl;
        kernel_is = refl;
        storage_is = refl;
        turns_are = refl;
        lists = run.lists;
        tensor = run.tensor_of;
        written = subst (λ p. MayBeWritten (asks_matrix p) kept.result.shape kept.result.entries) (sym path_is)
            (may_be_written over.arithmetic r.statement entries
            (slice_index run.ranges) kept.result.shape kept.result.entries are is_shape run.tensor_of
            (asks_matrix (path_of r.files 0)) (λ matrix. result_is_matrix r.statement operands.accepted.asks.rest (needs_files r.task)
            r.formats r.files r.given operands.accepted.asks.binds named.result matrix));
        finished = run.runs.has_run.done;
      }
