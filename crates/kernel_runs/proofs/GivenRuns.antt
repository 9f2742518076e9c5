-- What the run of a given kernel on a store leaves, and why it has no result, as those of the whole run.
use Rattle.std.specs.Prelude.{◌≡◌, ◌⊎◌, ℕ, ◌<◌, List, length, map, Option, Ok, Vec, slice_index, slice_index_or, refl}
use Rattle.std.specs.declared.alloc.Global.{Global}
use Rattle.std.proofs.Common.{◌∙◌, sym, ap, subst, arith, inl, inr}
use Rattle.std.proofs.lemmas.List.{length-map}
use Rattle.numbers.specs.Arithmetic.{Arithmetic, Laws}
use Rattle.tensor_map.specs.Entries.{Entry, AreEntries, Entries, Listed, value_at}
use Rattle.tensor_map.proofs.Lemmas.{value_unlisted, value_of_entry}
use Rattle.kernel_code.specs.declared.syntax.Kernel.{Kernel}
use Rattle.kernel_code.specs.declared.syntax.Turns.{Turns}
use Rattle.format_spec.specs.declared.format.FormatLevel.{FormatLevel}
use Rattle.index_notation.specs.declared.syntax.Statement.{Statement}
use Rattle.iteration_graph.specs.Edges.{format_of}
use Rattle.expr_terms.specs.Told as told
use Rattle.expr_terms.specs.declared.bound.Bound.{Bound}
use Rattle.expr_terms.specs.declared.range_fault.RangeFault.{RangeFault}
use Rattle.expr_terms.specs.declared.range_fault.RangeFault.TheVariants.{NoRange, RangeConflict, OutOfRange}
use Rattle.expr_terms.specs.declared.range_fault.RangeFault.TheVariants as range
use Rattle.tns_io.specs.Positions.{IsBelow}
use Rattle.tensor_storage.specs.Levels.{meaning}
use Rattle.tensor_storage.specs.Storages.{EndsAt, Storage, in_level_order}
use Rattle.kernel_correctness.specs.Stores.{Store}
use Rattle.kernel_machine.specs.Checked.{IsCheckedFault}
use Rattle.kernel_machine.specs.Runs.{HasRunWithin}
use Rattle.operand_packing.specs.Operands.{AreOperands}
use Rattle.operand_packing.specs.Packed.{MayNotPack}
use Rattle.operand_packing.specs.Runnable.{told_ranges}
use Rattle.operand_packing.specs.declared.packing.PackFault.{PackFault}
use Rattle.operand_packing.specs.declared.packing.PackFault.TheVariants as pack
use Rattle.operand_packing.proofs.Below.{below_from_each}
use Rattle.kernel_runs.specs.declared.fault.GivenFault.{GivenFault}
use Rattle.kernel_runs.specs.declared.fault.GivenFault.TheVariants.{Run, Trap, Budget, BadStore}
use Rattle.kernel_runs.specs.declared.fault.RunFault.TheVariants.{Range, SizeLimit, Workspace, Memory}
use Rattle.kernel_runs.specs.Given.{IsGivenOn, IsGivenRun, IsLargeGiven, IsPackedStore, MayRefuseGiven, RefusedGiven, StopsGiven}
use Rattle.kernel_runs.specs.Refused.{of_ranges, of_packing}
use Rattle.kernel_runs.specs.Steps.{ListsNonzero}
use Rattle.kernel_runs.proofs.Entries.{listed_or_not, number_at}
use Rattle.kernel_runs.proofs.StoredBelow.{mode_below_range}

-- a refusal of the ranges, by the bounds as they are lent, is one of the run
pub given_range_refusal : (a : Arithmetic) (s : Statement) (formats : List (List FormatLevel)) (kernel : Kernel) (given : List (Option ℕ))
    (operands : List Entries) (bounds lent : List (Vec Bound Global)) (budget : ℕ) (refusal : RangeFault)
    → lent ≡ bounds → told.MayRefuseRanges (told_ranges s given lent) refusal
    → MayRefuseGiven a s formats kernel given operands bounds budget (Run (of_ranges refusal))
given_range_refusal a s formats kernel given operands bounds lent budget refusal same h =
    by refusal (subst (λ (bs : List (Vec Bound Global)). told.MayRefuseRanges (told_ranges s given bs) refusal) same h)
  where
    by : (refusal : RangeFault) → told.MayRefuseRanges (told_ranges s given bounds) refusal
        → MayRefuseGiven a s formats kernel given operands bounds budget (Run (of_ranges refusal))
    by (NoRange var) h = h
    by (RangeConflict var first other) h = h
    by (OutOfRange tensor coordinate range) h = h
    by (range.Memory error) h = tt

module _ (a : Arithmetic) (s : Statement) (formats : List (List FormatLevel)) (kernel : Kernel) (given : List (Option ℕ))
    (operands : List Entries) (bounds : List (Vec Bound Global)) (budget : ℕ) (ranges : List ℕ)
    (told : told_ranges s given bounds ≡ Ok ranges) where
  -- and one of packing
  pub given_pack_refusal : (refusal : PackFault) → MayNotPack a s formats (slice_index ranges) operands refusal
      → MayRefuseGiven a s formats kernel given operands bounds budget (Run (of_packing refusal))
  given_pack_refusal (pack.Memory error) may = tt
  given_pack_refusal (pack.SizeLimit large) may =
      subst (λ t. IsLargeGiven a s formats kernel given operands bounds budget t large.level large.count) (sym may.tensor_is) (record {
        ranges = ranges;
        ranges_are = told;
        large = record {
          n = may.n;
          tensor_is = refl;
          entries = may.entries;
          is = may.is;
          earlier = may.earlier;
          large = may.large;
        };
      })

  module _ (store : Store) (is_store : IsPackedStore a s formats ranges operands store) where
    stops : (fault : _) → IsCheckedFault a kernel store budget fault → StopsGiven a s formats kernel given operands bounds budget fault
    stops fault why = record { ranges = ranges; ranges_are = told; store = store; is_store = is_store; fault_is = why }

    -- and one of the machine
    pub given_refusal : (fault : GivenFault) → RefusedGiven a kernel store budget fault
        → MayRefuseGiven a s formats kernel given operands bounds budget fault
    given_refusal (Run (Range fault)) why = absurd why
    given_refusal (Run (SizeLimit large)) why =
        subst (λ t. IsLargeGiven a s formats kernel given operands bounds budget t large.level large.count) (sym why.0) (stops _ why.1)
    given_refusal (Run (Workspace count)) why = stops _ why
    given_refusal (Run (Memory error)) why = tt
    given_refusal (Trap statement) why = stops _ why
    given_refusal Budget why = stops _ why
    given_refusal BadStore why = stops _ why

-- an entry whose value isn't zero has a path in the storage that lists it
entry_path : (a : Arithmetic) → Laws a → (tensor : Storage) (entries : Entries) (lists : ListsNonzero a tensor entries) → AreEntries entries
    → (k : ℕ) (d : Entry) → k < length entries.list
    → (pos : ℕ) × EndsAt tensor (slice_index_or entries.list k d).coords pos
entry_path a laws tensor entries lists each k d h =
    by (listed_or_not lists.all.list (slice_index_or entries.list k d).coords)
  where
    coords : List ℕ
    coords = (slice_index_or entries.list k d).coords

    value : value_at a lists.all.list coords ≡ (slice_index_or entries.list k d).value
    value = sym (lists.values coords) ∙ value_of_entry a laws entries.list k d lists.increasing h (each.each k d h).word

    by : Listed lists.all.list coords ⊎ (Listed lists.all.list coords → ⊥) → (pos : ℕ) × EndsAt tensor coords pos
    by (inl listed) = ((lists.lists.listed coords).0 listed).1
    by (inr unlisted) = absurd (lists.nonzero k d h (sym value ∙ value_unlisted a laws coords lists.all.list unlisted))

pub given_is : (a : Arithmetic) → Laws a → (s : Statement) (formats : List (List FormatLevel)) (kernel : Kernel) (given : List (Option ℕ))
    (operands : List Entries) (bounds : List (Vec Bound Global)) (budget : ℕ) (ranges : List ℕ) → told_ranges s given bounds ≡ Ok ranges
    → AreOperands s formats operands → (store : Store) → IsPackedStore a s formats ranges operands store → (shape : List ℕ)
    (entries : Entries) (tensor : Storage) (turns : Turns) → IsGivenOn a s kernel store budget shape entries tensor turns
    → IsGivenRun a s formats kernel given operands bounds budget shape entries tensor turns
given_is a laws s formats kernel given operands bounds budget ranges told are store is_store shape entries tensor turns run = record {
  ranges = ranges;
  ranges_are = told;
  store = store;
  is_store = is_store;
  runs = run.runs;
  lists = run.lists;
  shape_is = shape_is;
  order_is = entries_order ∙ order ∙ sym (ap length shape_is ∙ length-map s.left.vars (slice_index ranges));
  below = λ k d h. subst (λ ns. IsBelow ns (slice_index_or entries.list k d).coords) (sym shape_is) (entry_below k d h);
}
  where
    shape_is : shape ≡ map (slice_index ranges) s.left.vars
    shape_is = run.shape_is ∙ ap (λ (rs : List ℕ). map (slice_index rs) s.left.vars) is_store.ranges_are

    left : HasRunWithin a kernel store run.runs.given budget tensor turns
    left = run.runs.ends.run

    order : length tensor.format ≡ length s.left.vars
    order = ap length (left.format_is ∙ is_store.format_is) ∙ ap (λ t. length (format_of formats t)) (sym are.named.result)
        ∙ are.result_format.order

    entries_order : entries.order ≡ length tensor.format
    entries_order = run.lists.order ∙ run.lists.lists.order

    sizes : map meaning.size tensor.levels ≡ in_level_order tensor.format ranges
    sizes = left.sizes ∙ ap (λ (rs : List ℕ). in_level_order store.format rs) is_store.ranges_are
        ∙ ap (λ f. in_level_order f ranges) (sym left.format_is)

    many : length tensor.levels ≡ length tensor.format
    many = sym (length-map tensor.levels meaning.size) ∙ ap length sizes
        ∙ length-map tensor.format (λ (level : FormatLevel). slice_index ranges level.mode)

    entry_below : (k : ℕ) (d : Entry) → k < length entries.list
        → IsBelow (map (slice_index ranges) s.left.vars) (slice_index_or entries.list k d).coords
    entry_below k d h =
        let path = entry_path a laws tensor entries run.lists run.each k d h in
        let long : length (slice_index_or entries.list k d).coords ≡ length s.left.vars = (run.each.each k d h).long ∙ entries_order
        ∙ order in
        below_from_each (slice_index ranges) s.left.vars (slice_index_or entries.list k d).coords long (λ mode inside.
        let var : slice_index s.left.vars mode ≡ mode =
        ap (λ (vs : List ℕ). slice_index vs mode) are.named.standing ∙ number_at 0 (length s.left.vars) mode inside ∙ omega arith in
        let less = mode_below_range tensor ranges (slice_index_or entries.list k d).coords path.0 left.storage sizes many path.1 mode
        (omega (arith, inside, order)) in
        subst (λ v. slice_index (slice_index_or entries.list k d).coords mode < slice_index ranges v) (sym var) less)
