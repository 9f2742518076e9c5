-- A run of the workload turns its merged loops no more often than its cost.
use Rattle.std.specs.Prelude.{◌≡◌, ℕ, zero, suc, ◌+◌, ◌<◌, ◌≤◌, true, List, [], ◌∷◌, length, Option, Some, None, Ok, slice_get}
use Rattle.std.specs.Prelude.{slice_index, refl}
use Rattle.std.proofs.Common.{◌∙◌, sym, ap, subst, arith}
use Rattle.lists.specs.Each.{Each}
use Rattle.numbers.specs.Arithmetic.{Arithmetic}
use Rattle.numbers.specs.Ring.{ring}
use Rattle.tensor_map.specs.Entries.{Entries, Listed}
use Rattle.kernel_code.specs.declared.syntax.Kernel.{Kernel}
use Rattle.kernel_code.specs.declared.syntax.Turns.{Turns}
use Rattle.kernel_code.specs.Kernels.{Finished, NotFinished}
use Rattle.kernel_interpreter.specs.Store.{count_of}
use Rattle.format_spec.specs.Formats.{letters_of}
use Rattle.level_core.specs.declared.span.Span.{Span}
use Rattle.level_core.specs.declared.span.Entry.{Entry as LevelEntry}
use Rattle.level_core.specs.Entries.{Distinct, one}
use Rattle.iteration_graph.proofs.OrderLaws.{one_order}
use Rattle.loop_code.specs.Loops.{Stored}
use Rattle.loop_code.specs.Parts.{entries_of, is_some}
use Rattle.loop_code.specs.Turns.{count_below}
use Rattle.tensor_storage.specs.declared.level.StorageLevel.{StorageLevel}
use Rattle.tensor_storage.specs.Children.{child_of}
use Rattle.tensor_storage.specs.Storages.{Storage, in_level_order}
use Rattle.lowering.specs.Stored.{entries_at, stored_of, walk}
use Rattle.statement_costs.specs.Costs.{statement_cost}
use Rattle.kernel_correctness.specs.Stores.{IsStoreOf, Store, operand_of}
use Rattle.operand_packing.specs.Packed.{IsPackedOperand}
use Rattle.kernel_runs.specs.Runs.{IsStoreFor, RunsKernel}
use Rattle.kernel_runs.proofs.Outcomes.{outcome_is}
use Rattle.taco_compiler.specs.Compiled.{AreFewTurns, IsCompiled, IsOrder}
use Rattle.generated_runs.proofs.Plain.{flat_workload}
use Rattle.generated_runs.specs.Workloads.{by_rows, workload_statement, workload_formats, IsComputed}
use Rattle.generated_runs.proofs.Costs.{cost_most, entries_below}
use Rattle.generated_runs.proofs.Counting.{each_kept, few_stored}
use Rattle.generated_runs.proofs.Cycles.{rows_then_columns}
use Rattle.generated_runs.proofs.Fits.{format_at}
use Rattle.generated_runs.proofs.Paths.{operand_packed, operand_listed}
use Rattle.generated_runs.proofs.Runnable.{told}
use Rattle.generated_runs.proofs.Segments.{IsRow, below_of, row_is, row_segment}

same_below : (levels : List StorageLevel) (stored : Stored) (k : ℕ) → ((p : Span) → stored.entries k 2 p ≡ entries_at levels 2 p)
    → (o : Option Span) → entries_of stored o k 2 ≡ below_of levels o
same_below levels stored k same None = refl
same_below levels stored k same (Some p) = same p

module _ (a : Arithmetic) (n : ℕ) (first second third : Entries) (store : Store)
    (for : IsStoreFor a workload_statement workload_formats (n ∷ n ∷ []) (first ∷ second ∷ third ∷ []) store) where
  stored : Stored
  stored = stored_of workload_statement (operand_of store)

  -- what is stored below a row of an operand
  segment_is : (k x : ℕ) → k < 3 → entries_below stored k x ≡ row_segment (operand_of store (suc k)).levels x
  unfolding workload_statement workload_formats stored
  segment_is zero x h =
      same_below (operand_of store 1).levels stored 0 (λ p. refl) (child_of (entries_at (operand_of store 1).levels 1 (one 0)) x)
  segment_is (suc zero) x h =
      same_below (operand_of store 2).levels stored 1 (λ p. refl) (child_of (entries_at (operand_of store 2).levels 1 (one 0)) x)
  segment_is (suc (suc zero)) x h =
      same_below (operand_of store 3).levels stored 2 (λ p. refl) (child_of (entries_at (operand_of store 3).levels 1 (one 0)) x)
  segment_is (suc (suc (suc k))) x h = absurd (omega (arith, h))

  -- all rows of an operand have as many columns at most as there are entries
  few_columns : (k : ℕ) → k < 3 → (entries : Entries) → slice_get (first ∷ second ∷ third ∷ []) k ≡ Some entries
      → count_below n (λ x. length (entries_below stored k x)) ≤ length entries.list
  few_columns k h entries at = few_stored n (entries_below stored k) entries.list apart (λ x less. there x)
    where
      storage : Storage
      storage = operand_of store (suc k)

      packed : (sizes : List ℕ) × IsPackedOperand a by_rows sizes entries.list storage
      packed = operand_packed a workload_statement workload_formats (n ∷ n ∷ []) (first ∷ second ∷ third ∷ []) store for k entries at
          (format_at k h)

      format_is : storage.format ≡ by_rows
      format_is = packed.1.packed.packed.format_is

      row : (x : ℕ) → IsRow storage.levels x
      row x = row_is storage.levels (length storage.values) (packed.1.whole.letters ∙ ap letters_of format_is) packed.1.whole.opened x

      apart : (x : ℕ) → Distinct (entries_below stored k x)
      apart x = subst Distinct (sym (segment_is k x h)) (row x).apart

      listed : (x : ℕ) (e : LevelEntry) → is_some (walk storage.levels (one 0) (x ∷ e.coord ∷ [])) ≡ true
          → Listed entries.list (x ∷ e.coord ∷ [])
      listed x e path =
          operand_listed a workload_statement workload_formats (n ∷ n ∷ []) (first ∷ second ∷ third ∷ []) store for k entries at
          (format_at k h) x e.coord
          (subst (λ f. is_some (walk storage.levels (one 0) (in_level_order f (x ∷ e.coord ∷ []))) ≡ true) (sym format_is) path)

      there : (x : ℕ) → Each (λ (e : LevelEntry). Listed entries.list (x ∷ e.coord ∷ [])) (entries_below stored k x)
      there x =
          subst (Each (λ (e : LevelEntry). Listed entries.list (x ∷ e.coord ∷ []))) (sym (segment_is k x h))
          (each_kept {P = λ e. is_some (walk storage.levels (one 0) (x ∷ e.coord ∷ [])) ≡ true}
          {Q = λ e. Listed entries.list (x ∷ e.coord ∷ [])} (listed x) (row_segment storage.levels x) (row x).there)

  -- the cost over a store of the operands
  cost_few : (order : List ℕ) → IsOrder workload_statement workload_formats order
      → statement_cost workload_statement workload_formats order stored (slice_index store.ranges)
      ≤ n + length first.list + length second.list + length third.list
  cost_few order is =
      let order_is : order ≡ 0 ∷ 1 ∷ [] = one_order _ _ order (0 ∷ 1 ∷ []) is rows_then_columns in
      let most = cost_most stored (slice_index (n ∷ n ∷ [])) in
      let one = few_columns 0 (omega arith) first refl in
      let two = few_columns 1 (omega arith) second refl in
      let three = few_columns 2 (omega arith) third refl in
      let whole : statement_cost workload_statement workload_formats (0 ∷ 1 ∷ []) stored (slice_index (n ∷ n ∷ []))
      ≤ n + length first.list + length second.list + length third.list = omega (arith, most, one, two, three) in
      subst (λ o. statement_cost workload_statement workload_formats o stored (slice_index store.ranges)
      ≤ n + length first.list + length second.list + length third.list) (sym order_is)
      (subst (λ rs. statement_cost workload_statement workload_formats (0 ∷ 1 ∷ []) stored (slice_index rs)
      ≤ n + length first.list + length second.list + length third.list) (sym for.ranges_are) whole)

  turns_on : (order : List ℕ) (kernel : Kernel) (tensor : Storage) (turns : Turns) → IsOrder workload_statement workload_formats order
      → IsCompiled a workload_statement workload_formats order kernel → RunsKernel a workload_statement kernel store tensor turns
      → turns.merge ≤ n + length first.list + length second.list + length third.list
  unfolding stored
  turns_on order kernel tensor turns is compiled runs =
      let within : AreFewTurns workload_statement workload_formats order store (Finished runs.has_run.arrays (count_of turns)) =
      outcome_is a (length store.format) kernel runs.given (AreFewTurns workload_statement workload_formats order store)
      (Finished runs.has_run.arrays (count_of turns))
      (compiled.few store (subst (λ t. IsStoreOf t workload_formats store) flat_workload for.is_store) runs.given runs.is_given)
      (λ none. none) runs.has_run.ends finished in
      let merges : turns.merge ≤ statement_cost workload_statement workload_formats order stored (slice_index store.ranges) =
      within.merges in
      let cost = cost_few order is in
      omega (arith, merges, cost)
    where
      finished : Finished runs.has_run.arrays (count_of turns) ≡ NotFinished → ⊥
      finished e = cc

-- of a run of the statement over operands
pub turns_few : (n : ℕ) (first second third result : Entries) (turns : Turns) → IsComputed n (first ∷ second ∷ third ∷ []) result turns
    → turns.merge ≤ n + length first.list + length second.list + length third.list
turns_few n first second third result turns c =
    let both : Ok c.run.ranges ≡ Ok (n ∷ n ∷ []) = sym c.run.ranges_are ∙ told n in
    let same : c.run.ranges ≡ n ∷ n ∷ [] = cc in
    let for = subst (λ rs. IsStoreFor ring workload_statement workload_formats rs (first ∷ second ∷ third ∷ []) c.run.store) same
    c.run.is_store in
    turns_on ring n first second third c.run.store for c.order c.kernel c.tensor turns c.is_order c.compiled c.run.runs
