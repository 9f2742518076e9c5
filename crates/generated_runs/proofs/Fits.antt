-- All tensors of the workload fit the limits: no level has more positions than rows or entries, and no workspace needs more pairs.
use denote.Hole.Carrier.{hidden}
use Rattle.std.specs.Prelude.{◌≡◌, ◌⊎◌, ℕ, zero, suc, ◌+◌, ◌*◌, ◌<◌, ◌≤◌, max, true, ◌&&◌, List, [], ◌∷◌, ◌++◌, length, Some, Ok, Err}
use Rattle.std.specs.Prelude.{slice_index, refl}
use Rattle.std.proofs.Common.{◌∙◌, sym, ap, subst, arith, inl, inr, lit≤, length-append}
use Rattle.std.proofs.lemmas.List.Elements.{All-nil, All-cons}
use Rattle.limits.specs.Limits.{greatest_position_count, greatest_workload}
use Rattle.lists.proofs.Tests.{both_true}
use Rattle.numbers.specs.Arithmetic.{Arithmetic}
use Rattle.kernel_code.specs.declared.syntax.Kernel.{Kernel}
use Rattle.level_core.specs.declared.letter.Letter.TheVariants.{Dense, Compressed}
use Rattle.tensor_map.specs.Entries.{Entry, Entries, Listed}
use Rattle.tensor_map.proofs.Lemmas.{listed_append}
use Rattle.format_spec.specs.Formats.{letters_of}
use Rattle.index_notation.specs.declared.syntax.Expr.TheBlock.{hidden-the_row-Expr-0}
use Rattle.concrete_notation.specs.Right.{IsInSupport}
use Rattle.loop_code.specs.Turns.{count_below}
use Rattle.lowering.specs.Right.{pairs, one_if}
use Rattle.iteration_graph.specs.Edges.{format_of}
use Rattle.tensor_storage.specs.Arranged.{table_of}
use Rattle.tensor_storage.specs.Counts.{AreFew, different, positions_from, positions_of}
use Rattle.tensor_storage.specs.Stands.{row_from}
use Rattle.tensor_storage.specs.Storages.{in_level_order}
use Rattle.tensor_storage.specs.Tables.{Table}
use Rattle.kernel_correctness.specs.Kernels.{standing_order}
use Rattle.kernel_correctness.specs.Results.{IsNamedResult}
use Rattle.kernel_correctness.specs.Stores.{Store, StartsFew}
use Rattle.operand_packing.specs.Operands.{mode_sizes}
use Rattle.operand_packing.specs.Packed.{FitsLevels, OperandsFit, operand_sizes}
use Rattle.kernel_runs.specs.declared.fault.RunFault.{RunFault}
use Rattle.kernel_runs.specs.declared.fault.RunFault.TheVariants.{Range, SizeLimit, Workspace, Memory}
use Rattle.kernel_runs.specs.Runs.{IsStoreFor, LevelsFit, MayRefuseRun, PairsFit, RefusesNoneThatFit, result_level_sizes}
use Rattle.concrete_notation.specs.Contributions.{Inputs}
use Rattle.expr_terms.specs.Nested.{flat}
use Rattle.kernel_correctness.specs.Stores.{told_alone, told_by}
use Rattle.generated_runs.proofs.Plain.{flat_workload, looped_workload, told_workload}
use Rattle.generated_runs.specs.Matrices.{AreMatrices, IsMatrix}
use Rattle.generated_runs.specs.Refused.{IsForMemory}
use Rattle.generated_runs.specs.Workloads.{by_rows, workload_statement, workload_formats}
use Rattle.generated_runs.proofs.Counting.{few_pass, few_different}
use Rattle.generated_runs.proofs.Paths.{row_listed, operand_listed}
use Rattle.generated_runs.proofs.Runnable.{told}

-- ---- limits
twice : 2 * greatest_workload ≤ greatest_position_count
unfolding greatest_workload greatest_position_count
twice = lit≤ tt

-- ---- positions of a tensor in format `ds`
abbrev within : ℕ → Type 0
within count = count ≤ greatest_position_count

few_positions : (table : Table) (rows columns : ℕ) (es : List Entry) → rows ≤ greatest_position_count
    → length es ≤ greatest_position_count
    → ((i : ℕ) → i < table.count → Listed es (table.coords 0 i ∷ table.coords 1 i ∷ []))
    → AreFew (positions_from table 0 1 (Dense ∷ Compressed ∷ []) (rows ∷ columns ∷ []))
few_positions table rows columns es few short there =
    let entries = few_different table.coords table.count es there in
    All-cons within (1 * rows) (different table.coords 2 table.count ∷ []) (omega (arith, few))
    (All-cons within (different table.coords 2 table.count) [] (omega (arith, entries, short)) (All-nil within))

greatest_is : (n : ℕ) → max n 0 ≡ n
greatest_is n = omega arith

operand_fits : (a : Arithmetic) (n rows columns : ℕ) (entries : Entries) → rows ≤ n → n ≤ greatest_position_count → IsMatrix n entries
    → FitsLevels a by_rows (rows ∷ columns ∷ []) entries.list
operand_fits a n rows columns entries most small is counts have =
    let few = is.few in
    subst AreFew (sym have.counts_are)
    (few_positions (table_of by_rows have.summed have.numbers) rows columns entries.list (omega (arith, most, small))
    (omega (arith, few, small)) (row_listed a entries.list have.summed have.numbers have.are_summed have.arranged))

-- ---- the operands
pub format_at : (k : ℕ) → k < 3 → format_of workload_formats (suc k) ≡ by_rows
unfolding workload_formats
format_at zero h = refl
format_at (suc zero) h = refl
format_at (suc (suc zero)) h = refl
format_at (suc (suc (suc k))) h = absurd (omega (arith, h))

-- both ranges are the size, and so are both modes of each operand
sizes_at : (n k : ℕ) → k < 3 → mode_sizes workload_statement (slice_index (n ∷ n ∷ [])) (suc k) 2 ≡ n ∷ n ∷ []
unfolding workload_statement
sizes_at n zero h = ap (λ m. m ∷ m ∷ []) (greatest_is n)
sizes_at n (suc zero) h = ap (λ m. m ∷ m ∷ []) (greatest_is n)
sizes_at n (suc (suc zero)) h = ap (λ m. m ∷ m ∷ []) (greatest_is n)
sizes_at n (suc (suc (suc k))) h = absurd (omega (arith, h))

module _ (a : Arithmetic) (n : ℕ) (first second third : Entries) (few : n ≤ greatest_workload)
    (are : AreMatrices n (first ∷ second ∷ third ∷ [])) where
  small : n ≤ greatest_position_count
  small = omega (arith, few, twice)

  fits_at : (k : ℕ) → k < 3 → (entries : Entries) → IsMatrix n entries
      → FitsLevels a (format_of workload_formats (suc k)) (operand_sizes workload_statement (slice_index (n ∷ n ∷ [])) k entries)
      entries.list
  fits_at k h entries is =
      let sizes : operand_sizes workload_statement (slice_index (n ∷ n ∷ [])) k entries ≡ n ∷ n ∷ [] =
      ap (mode_sizes workload_statement (slice_index (n ∷ n ∷ [])) (suc k)) is.order ∙ sizes_at n k h in
      subst (λ f. FitsLevels a f (operand_sizes workload_statement (slice_index (n ∷ n ∷ [])) k entries) entries.list) (sym (format_at k h))
      (subst (λ sizes. FitsLevels a by_rows sizes entries.list) (sym sizes) (operand_fits a n n n entries (omega arith) small is))

  operands_fit : OperandsFit a workload_statement workload_formats (slice_index (n ∷ n ∷ [])) (first ∷ second ∷ third ∷ [])
  operands_fit zero entries at =
      let same : first ≡ entries = cc in fits_at 0 (omega arith) entries (subst (IsMatrix n) same are.0)
  operands_fit (suc zero) entries at =
      let same : second ≡ entries = cc in fits_at 1 (omega arith) entries (subst (IsMatrix n) same are.1)
  operands_fit (suc (suc zero)) entries at =
      let same : third ≡ entries = cc in fits_at 2 (omega arith) entries (subst (IsMatrix n) same are.2)
  operands_fit (suc (suc (suc k))) entries at = absurd cc

  -- ---- a store of the operands
  module _ (store : Store) (for : IsStoreFor a workload_statement workload_formats (n ∷ n ∷ []) (first ∷ second ∷ third ∷ []) store) where
    listed_at_first : (x y : ℕ) → (told_alone a store).paths 1 (x ∷ y ∷ []) ≡ true → Listed first.list (x ∷ y ∷ [])
    listed_at_first x y path =
        operand_listed a workload_statement workload_formats (n ∷ n ∷ []) (first ∷ second ∷ third ∷ []) store for 0 first refl
        (format_at 0 (omega arith)) x y path

    listed_at_third : (x y : ℕ) → (told_alone a store).paths 3 (x ∷ y ∷ []) ≡ true → Listed third.list (x ∷ y ∷ [])
    listed_at_third x y path =
        operand_listed a workload_statement workload_formats (n ∷ n ∷ []) (first ∷ second ∷ third ∷ []) store for 2 third refl
        (format_at 2 (omega arith)) x y path

    either : (x y : ℕ) → Listed first.list (x ∷ y ∷ []) ⊎ Listed third.list (x ∷ y ∷ [])
        → Listed (first.list ++ third.list) (x ∷ y ∷ [])
    either x y l = (listed_append (x ∷ y ∷ []) first.list third.list).1 l

    -- each point of the support is listed in the first operand or in the third
    support_listed : (coords : List ℕ) → IsInSupport workload_statement (told_alone a store) coords
        → Listed (first.list ++ third.list) (slice_index coords 0 ∷ slice_index coords 1 ∷ [])
    unfolding workload_statement hidden-the_row-Expr-0 hidden
    support_listed [] support = absurd support.0
    support_listed (x ∷ []) support = absurd support.0.1
    support_listed (x ∷ y ∷ z ∷ zs) support = absurd support.0.1.1
    support_listed (x ∷ y ∷ []) support = elim support.1 [
      | inl p ↦
          let row : p.point 0 ≡ x = p.others 0 refl in
          let column : p.point 1 ≡ y = p.others 1 refl in
          let here : p.point 0 ∷ p.point 1 ∷ [] ≡ x ∷ y ∷ [] = cc in
          either x y (inl (listed_at_first x y (subst (λ cs. (told_alone a store).paths 1 cs ≡ true) here (both_true _ _ p.present).0)))
      | inr more ↦ elim more [
        | inl p ↦
            let row : p.point 0 ≡ x = p.others 0 refl in
            let column : p.point 1 ≡ y = p.others 1 refl in
            let here : p.point 0 ∷ p.point 1 ∷ [] ≡ x ∷ y ∷ [] = cc in
            either x y (inr (listed_at_third x y (subst (λ cs. (told_alone a store).paths 3 cs ≡ true) here p.present)))
        | inr none ↦ absurd none
      ]
    ]

    most : length (first.list ++ third.list) ≤ greatest_position_count
    most =
        let long = length-append first.list third.list in
        let one = are.0.few in
        let other = are.2.few in
        omega (arith, long, one, other, few, twice)

    result_fits : (table : Table) → IsNamedResult a (flat workload_statement) (told_by a (flat workload_statement) store) store.format table
        → AreFew (positions_of store.format store.ranges table)
    unfolding workload_formats
    result_fits table flat_named =
        let named : IsNamedResult a workload_statement (told_alone a store) store.format table =
        subst (λ (told : Inputs). IsNamedResult a workload_statement told store.format table) (told_workload a store)
        (subst (λ t. IsNamedResult a t (told_by a t store) store.format table) flat_workload flat_named) in
        let format : store.format ≡ by_rows = for.is_store.format_is in
        let rows : (i : ℕ) → i < table.count → Listed (first.list ++ third.list) (table.coords 0 i ∷ table.coords 1 i ∷ []) =
        λ i h.
        let point = named.none_else i h in
        let row = subst (λ f. row_from table.coords i 0 (letters_of f) ≡ in_level_order f point.0) format point.2.1 in
        subst (Listed (first.list ++ third.list)) (sym row) (support_listed point.0 point.1) in
        subst (λ f. AreFew (positions_of f store.ranges table)) (sym format)
        (subst (λ rs. AreFew (positions_of by_rows rs table)) (sym for.ranges_are)
        (few_positions table n n (first.list ++ third.list) small most rows))

    pairs_fit : pairs workload_statement (standing_order workload_statement) (told_alone a store) ≤ greatest_position_count
    unfolding workload_statement hidden-the_row-Expr-0 hidden
    pairs_fit =
        let paths = (told_alone a store).paths in
        let rows = (told_alone a store).ranges 0 in
        let columns = (told_alone a store).ranges 1 in
        let products = few_pass rows columns (λ x y. paths 1 (x ∷ y ∷ []) && paths 2 (x ∷ y ∷ [])) first.list
        (λ x y h k is. listed_at_first x y (both_true _ _ is).0) in
        let others = few_pass rows columns (λ x y. paths 3 (x ∷ y ∷ [])) third.list (λ x y h k is. listed_at_third x y is) in
        let both : pairs workload_statement (standing_order workload_statement) (told_alone a store)
        ≡ 0 + count_below rows (λ x. count_below columns (λ y. one_if (paths 1 (x ∷ y ∷ []) && paths 2 (x ∷ y ∷ []))))
        + count_below rows (λ x. count_below columns (λ y. one_if (paths 3 (x ∷ y ∷ [])))) = refl in
        let one = are.0.few in
        let other = are.2.few in
        omega (arith, both, products, others, one, other, few, twice)

  begins : StartsFew (letters_of (format_of workload_formats 0)) (result_level_sizes workload_formats (n ∷ n ∷ [])) 1
  unfolding workload_formats
  begins = (omega (arith, small), (omega arith, tt))

  levels : LevelsFit a workload_statement workload_formats (n ∷ n ∷ []) (first ∷ second ∷ third ∷ [])
  levels = record {
    operands_fit = operands_fit;
    begins = begins;
    result_fits = λ store for table named. result_fits store for table named;
  }

-- whatever the values
pub levels_fit : (a : Arithmetic) (n : ℕ) (operands : List Entries) → n ≤ greatest_workload → AreMatrices n operands
    → LevelsFit a workload_statement workload_formats (n ∷ n ∷ []) operands
levels_fit a n [] few are = absurd are
levels_fit a n (first ∷ []) few are = absurd are
levels_fit a n (first ∷ second ∷ []) few are = absurd are
levels_fit a n (first ∷ second ∷ third ∷ x ∷ xs) few are = absurd are
levels_fit a n (first ∷ second ∷ third ∷ []) few are = levels a n first second third few are

-- and so do the pairs
pub workspace_fits : (a : Arithmetic) (n : ℕ) (operands : List Entries) → n ≤ greatest_workload → AreMatrices n operands
    → PairsFit a workload_statement workload_formats (n ∷ n ∷ []) operands
workspace_fits a n [] few are sparse store for order is_order = absurd are
workspace_fits a n (first ∷ []) few are sparse store for order is_order = absurd are
workspace_fits a n (first ∷ second ∷ []) few are sparse store for order is_order = absurd are
workspace_fits a n (first ∷ second ∷ third ∷ x ∷ xs) few are sparse store for order is_order = absurd are
workspace_fits a n (first ∷ second ∷ third ∷ []) few are sparse store for order is_order =
    subst (λ t. pairs t (standing_order workload_statement) (told_by a t store) ≤ greatest_position_count) (sym (looped_workload a order))
    (subst (λ told. pairs workload_statement (standing_order workload_statement) told ≤ greatest_position_count)
    (sym (told_workload a store)) (pairs_fit a n first second third few are store for))

-- so a run of the workload is refused for want of memory alone
pub refused_for_memory : (a : Arithmetic) (kernel : Kernel) (n : ℕ) (operands : List Entries) → n ≤ greatest_workload
    → AreMatrices n operands → RefusesNoneThatFit → (fault : RunFault)
    → MayRefuseRun a workload_statement workload_formats kernel (Some n ∷ Some n ∷ []) operands [] fault → IsForMemory fault
refused_for_memory a kernel n operands few are none (Memory error) why = tt
refused_for_memory a kernel n operands few are none (Range fault) why =
    let both : Ok (n ∷ n ∷ []) ≡ Err fault = sym (told n) ∙ why in absurd cc
refused_for_memory a kernel n operands few are none (SizeLimit large) why =
    none a workload_statement workload_formats kernel (Some n ∷ Some n ∷ []) operands [] (n ∷ n ∷ []) (SizeLimit large) (told n) why
    (levels_fit a n operands few are)
refused_for_memory a kernel n operands few are none (Workspace count) why =
    none a workload_statement workload_formats kernel (Some n ∷ Some n ∷ []) operands [] (n ∷ n ∷ []) (Workspace count) (told n) why
    (workspace_fits a n operands few are)
