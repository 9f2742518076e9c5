-- A whole run: a right kernel on the store that packed operands are, and why it has no result.
use Rattle.std.specs.Prelude.{◌≡◌, ◌⊎◌, ℕ, zero, suc, ◌+◌, ◌<◌, ◌≤◌, List, length, Some, slice_index}
use Rattle.std.proofs.Common.{◌∙◌, sym, ap, subst, arith, inl, inr}
use Rattle.lists.specs.Each.{Each}
use Rattle.numbers.specs.Arithmetic.{Arithmetic, Laws}
use Rattle.tensor_map.specs.Entries.{Entries}
use Rattle.kernel_code.specs.declared.syntax.Kernel.{Kernel}
use Rattle.kernel_code.specs.declared.syntax.Place.{Place}
use Rattle.kernel_code.specs.declared.syntax.Place.TheVariants as place
use Rattle.kernel_code.specs.declared.syntax.Turns.{Turns}
use Rattle.kernel_code.specs.Kernels.{Finished, NotFinished, TooLong}
use Rattle.format_spec.specs.declared.format.FormatLevel.{FormatLevel}
use Rattle.format_spec.specs.Formats.{IsFormat, letters_of}
use Rattle.index_notation.specs.Statement.{numbers_from}
use Rattle.index_notation.specs.declared.syntax.Statement.{Statement}
use Rattle.iteration_graph.specs.Edges.{format_of}
use Rattle.concrete_notation.specs.Workspaces.{AreAllDense}
use Rattle.tensor_storage.specs.Stands.{IsPacked}
use Rattle.tensor_storage.specs.Storages.{Storage, in_level_order, storage_of}
use Rattle.storage_arrays.proofs.Packed.{packed_are_done}
use Rattle.kernel_interpreter.specs.Store.{count_of}
use Rattle.expr_terms.specs.Nested.{flat}
use Rattle.kernel_correctness.specs.Kernels.{AreFewPairs, IsRightFor, IsRightOutcomeFor, IsSoundOn}
use Rattle.kernel_correctness.specs.Results.{LeavesResult}
use Rattle.kernel_correctness.specs.Stores.{Store, told_by}
use Rattle.limits.specs.Limits.{greatest_position_count}
use Rattle.kernel_correctness.proofs.Sound.{right_for_is_sound}
use Rattle.kernel_machine.specs.Begins as begins
use Rattle.kernel_machine.specs.Begins.{store_of}
use Rattle.storage_builder.specs.Made.{AllAlike}
use Rattle.operand_packing.specs.Operands.{AreOperands, AreRanges}
use Rattle.operand_packing.specs.Packed.{ArePackedOperands}
use Rattle.kernel_runs.specs.declared.fault.RunFault.{RunFault}
use Rattle.kernel_runs.specs.declared.fault.RunFault.TheVariants.{Range, SizeLimit, Workspace, Memory}
use Rattle.kernel_runs.specs.Runs.{IsStoreFor, IsLargeLevelBy, IsTensorOf, RunsKernel}
use Rattle.kernel_runs.specs.Steps.{CanBegin, EndsOn, IsRunOn, ListsNonzero, RefusedOn, StopsOn}
use Rattle.kernel_runs.proofs.Alike.{packed_alike}
use Rattle.kernel_runs.proofs.Entries.{tensor_of}
use Rattle.kernel_runs.proofs.Outcomes.{outcome_is}
use Rattle.kernel_runs.proofs.Stores.{store_is}

-- as many numbers in a row are below a bound as there are from the first on
numbers_fit : (from count most : ℕ) → Each (λ v. v < most) (numbers_from from count) → from ≤ most → from + count ≤ most
numbers_fit from zero most each h = omega (arith, h)
numbers_fit from (suc count) most each h =
    let first = each.0 in
    let rest = numbers_fit (from + 1) count most each.1 (omega (arith, first)) in
    omega (arith, rest)

-- on a store of the operands the kernel is refused a workspace, which there is only where some level of the result isn't dense: it needs
-- too many pairs
pub record NeedsPairsBy (a : Arithmetic) (s : Statement) (formats : List (List FormatLevel)) (kernel : Kernel) (ranges : List ℕ)
    (operands : List Entries) (count : ℕ) : Type 0 where
  pub store : Store
  pub is_store : IsStoreFor a s formats ranges operands store
  pub passes : greatest_position_count < count
  pub most : AreFewPairs a s formats store count
  pub sparse : AreAllDense (format_of formats 0) → ⊥
  pub stops : StopsOn a kernel store place.Workspace count

-- why a statement isn't computed by these ranges
abbrev pub RefusedBy : Arithmetic → Statement → List (List FormatLevel) → Kernel → List ℕ → List Entries → RunFault → Type 0
RefusedBy a s formats kernel ranges operands (Range fault) = ⊥
RefusedBy a s formats kernel ranges operands (SizeLimit large) =
    IsLargeLevelBy a s formats kernel ranges operands large.tensor large.level large.count
RefusedBy a s formats kernel ranges operands (Workspace count) = NeedsPairsBy a s formats kernel ranges operands count
RefusedBy a s formats kernel ranges operands (Memory error) = Unit {0}

-- what is left where it is
pub record IsRunBy (a : Arithmetic) (s : Statement) (formats : List (List FormatLevel)) (kernel : Kernel) (ranges : List ℕ)
    (operands : List Entries) (shape : List ℕ) (entries : Entries) (tensor : Storage) (turns : Turns) : Type 0 where
  pub store : Store
  pub is_store : IsStoreFor a s formats ranges operands store
  pub runs : RunsKernel a s kernel store tensor turns
  pub lists : ListsNonzero a tensor entries
  pub tensor_of : IsTensorOf a s operands (slice_index ranges) shape entries

-- there is a range for each mode of the result
pub enough_for : (s : Statement) (formats : List (List FormatLevel)) (operands : List Entries) → AreOperands s formats operands
    → (ranges : List ℕ) → AreRanges s operands ranges → (format : List FormatLevel) → format ≡ format_of formats 0
    → length format ≤ length ranges
enough_for s formats operands are ranges fits format format_is =
    let long = fits.long in
    let order : length format ≡ length s.left.vars =
    ap length format_is ∙ ap (λ t. length (format_of formats t)) (sym are.named.result) ∙ are.result_format.order in
    let fit = numbers_fit 0 (length s.left.vars) (length s.vars)
    (subst (Each (λ v. v < length s.vars)) are.named.standing are.numbered.left.vars_stand) (omega arith) in
    omega (arith, long, order, fit)

module _ (a : Arithmetic) (laws : Laws a) (s : Statement) (formats : List (List FormatLevel)) (kernel : Kernel)
    (right : IsRightFor a s formats kernel) (operands : List Entries) (are : AreOperands s formats operands) (ranges : List ℕ)
    (fits : AreRanges s operands ranges) (format : List FormatLevel) (format_is : format ≡ format_of formats 0) where
  pub enough : length format ≤ length ranges
  enough = enough_for s formats operands are ranges fits format format_is

  module _ (is_format : IsFormat format) (storages : List Storage)
      (packed : ArePackedOperands a s formats (slice_index ranges) operands storages) where
    store_for : CanBegin (store_of ranges storages format) → IsStoreFor a s formats ranges operands (store_of ranges storages format)
    store_for few = store_is a s formats ranges operands storages packed format format_is is_format are fits few

    pub sound : CanBegin (store_of ranges storages format) → IsSoundOn a kernel (store_of ranges storages format)
    sound few = right_for_is_sound a s formats kernel right (store_of ranges storages format) (store_for few).is_store

    stopped : (at : Place) (count : ℕ) (stops : StopsOn a kernel (store_of ranges storages format) at count)
        → IsRightOutcomeFor a s formats (store_of ranges storages format) (TooLong at count)
    stopped at count stops =
        outcome_is a (length format) kernel stops.given
        (IsRightOutcomeFor a s formats (store_of ranges storages format)) (TooLong at count)
        (right (store_of ranges storages format) (store_for stops.few).is_store stops.given stops.is_given) (λ none. none) stops.ends apart
      where
        apart : TooLong at count ≡ NotFinished → ⊥
        apart e = cc

    pub refused : (fault : RunFault) → RefusedOn a kernel (store_of ranges storages format) fault
        → RefusedBy a s formats kernel ranges operands fault
    refused (Range fault) why = absurd why
    refused (Memory error) why = tt
    refused (Workspace count) why =
        let outcome = stopped place.Workspace count why in
        record {
          store = store_of ranges storages format;
          is_store = store_for why.few;
          passes = outcome.0;
          most = outcome.1;
          sparse = λ dense. outcome.2 (subst AreAllDense (sym format_is) dense);
          stops = why;
        }
    refused (SizeLimit large) why =
        subst (λ t. IsLargeLevelBy a s formats kernel ranges operands t large.level large.count) (sym why.0) (of_result why.1)
      where
        of_result : begins.IsTooLarge (letters_of format) (in_level_order format ranges) 1 1 large.level large.count
            ⊎ StopsOn a kernel (store_of ranges storages format) (place.Level large.level) large.count
            → IsLargeLevelBy a s formats kernel ranges operands 0 large.level large.count
        of_result (inl first) = inl (record {
          storages = storages;
          packed = packed;
          first = subst (λ f. begins.IsTooLarge (letters_of f) (in_level_order f ranges) 1 1 large.level large.count) format_is first;
        })
        of_result (inr stops) = inr (record {
          store = store_of ranges storages format;
          is_store = store_for stops.few;
          passes = stopped (place.Level large.level) large.count stops;
          stops = stops;
        })

    pub is_run : (tensor : Storage) (turns : Turns) (entries : Entries) (shape : List ℕ)
        → IsRunOn a s kernel (store_of ranges storages format) shape entries tensor turns
        → IsRunBy a s formats kernel ranges operands shape entries tensor turns
    is_run tensor turns entries shape run = record {
      store = store_of ranges storages format;
      is_store = store_for ends.few;
      runs = record {
        given = ends.given;
        is_given = ends.is_given;
        has_run = ends.has_run;
        table = leaves.table;
        named = leaves.named;
        packed = packed_tensor;
      };
      lists = run.lists;
      tensor_of = tensor_of a laws s formats ranges operands (store_of ranges storages format) are
          (store_for ends.few) tensor leaves.table leaves.named packed_tensor entries run.lists shape run.shape_is run.each;
    }
      where
        ends : EndsOn a kernel (store_of ranges storages format) tensor turns
        ends = run.ends

        leaves : LeavesResult a (flat s) (told_by a (flat s) (store_of ranges storages format)) (store_of ranges storages format)
            ends.has_run.arrays
        leaves = outcome_is a (length format) kernel ends.given
            (IsRightOutcomeFor a s formats (store_of ranges storages format))
            (Finished ends.has_run.arrays (count_of turns))
            (right (store_of ranges storages format) (store_for ends.few).is_store ends.given ends.is_given) (λ none. none)
            ends.has_run.ends apart
          where
            apart : Finished ends.has_run.arrays (count_of turns) ≡ NotFinished → ⊥
            apart e = cc

        values_are : leaves.values ≡ tensor.values
        values_are = same_list leaves.values tensor.values (sym leaves.is_left.values_held ∙ ends.has_run.is_left.values_held)
          where
            same_list : (xs ys : List ℕ) → Some xs ≡ Some ys → xs ≡ ys
            same_list xs ys e = cc

        alike : AllAlike leaves.levels tensor.levels
        alike = ends.has_run.alike leaves.levels leaves.letters leaves.packed.sizes leaves.is_left.held
            (packed_are_done a.zero format ranges leaves.table (storage_of format leaves.levels leaves.values) leaves.packed)

        packed_tensor : IsPacked a.zero format ranges leaves.table tensor
        packed_tensor = packed_alike a.zero format ranges leaves.table leaves.levels leaves.values tensor alike ends.has_run.format_is
            values_are ends.has_run.sizes leaves.packed
