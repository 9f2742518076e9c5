-- The steps of a whole run, over what is lent to each: the ranges, the operands' entries, and the packed operands.
use Rattle.std.specs.Prelude.{◌≡◌, ℕ, ◌+◌, ◌≤◌, ◌<◌, List, [], length, All, slice_index, slice_index_or}
use Rattle.std.proofs.Common.{◌∙◌, sym, ap, subst, arith}
use Rattle.numbers.specs.Arithmetic.{Arithmetic, Laws}
use Rattle.tensor_map.specs.Entries.{Entries}
use Rattle.kernel_code.specs.declared.syntax.Kernel.{Kernel}
use Rattle.kernel_code.specs.declared.syntax.Turns.{Turns}
use Rattle.format_spec.specs.declared.format.FormatLevel.{FormatLevel}
use Rattle.format_spec.specs.Formats.{IsFormat}
use Rattle.index_notation.specs.declared.syntax.Statement.{Statement}
use Rattle.iteration_graph.specs.Edges.{format_of}
use Rattle.tensor_storage.specs.Storages.{Storage}
use Rattle.storage_arrays.specs.Arrays.{AreDone}
use Rattle.kernel_correctness.specs.Kernels.{IsRightFor, IsSoundOn}
use Rattle.kernel_machine.specs.Begins.{store_of}
use Rattle.operand_packing.specs.Operands.{AreOperands, AreRanges}
use Rattle.limits.specs.Limits.{greatest_position_count}
use Rattle.operand_packing.specs.Packed.{ArePackedOperands, MayAllBePacked, MayNotPack}
use Rattle.operand_packing.specs.declared.packing.PackFault.{PackFault}
use Rattle.operand_packing.proofs.Lists.{default_free}
use Rattle.operand_packing.proofs.Ready.{may_all}
use Rattle.kernel_runs.specs.declared.fault.RunFault.{RunFault}
use Rattle.kernel_runs.specs.Steps.{CanBegin, IsRunOn, RefusedOn}
use Rattle.kernel_runs.proofs.Stores.{are_done}
use Rattle.kernel_runs.proofs.Whole.{IsRunBy, RefusedBy, enough, is_run, refused, sound}

module _ (a : Arithmetic) (s : Statement) (formats : List (List FormatLevel)) (operands : List Entries)
    (are : AreOperands s formats operands) (ranges : List ℕ) (fits : AreRanges s operands ranges) where
  -- there is a format for the result, and one for each operand
  pub formats_many : length formats ≡ length operands + 1
  formats_many = let many = are.many in let as_many = are.formats_many in omega (arith, many, as_many)

  -- the first format is the result's
  first_is : (first : List FormatLevel) → first ≡ slice_index_or formats 0 first → first ≡ format_of formats 0
  first_is first front =
      let many = formats_many in
      let some : 0 < length formats = omega (arith, many) in
      front ∙ default_free formats 0 first [] some

  module _ (lent : List ℕ) (lent_is : lent ≡ ranges) (entries : List Entries) (entries_are : entries ≡ operands) where
    pub many_lent : length formats ≡ length entries + 1
    many_lent = formats_many ∙ ap (λ es. length es + 1) (sym entries_are)

    pub may_pack_lent : MayAllBePacked s formats (slice_index lent) entries
    may_pack_lent =
        subst (λ es. MayAllBePacked s formats (slice_index lent) es) (sym entries_are)
        (subst (λ (rs : List ℕ). MayAllBePacked s formats (slice_index rs) operands) (sym lent_is)
        (may_all s formats operands ranges are fits))

    pub packed_lent : (storages : List Storage) → ArePackedOperands a s formats (slice_index lent) entries storages
        → ArePackedOperands a s formats (slice_index ranges) operands storages
    packed_lent storages packed =
        subst (λ es. ArePackedOperands a s formats (slice_index ranges) es storages) entries_are
        (subst (λ (rs : List ℕ). ArePackedOperands a s formats (slice_index rs) entries storages) lent_is packed)

    pub unpacked_lent : (fault : PackFault) → MayNotPack a s formats (slice_index lent) entries fault
        → MayNotPack a s formats (slice_index ranges) operands fault
    unpacked_lent fault why =
        subst (λ es. MayNotPack a s formats (slice_index ranges) es fault) entries_are
        (subst (λ (rs : List ℕ). MayNotPack a s formats (slice_index rs) entries fault) lent_is why)

    module _ (laws : Laws a) (kernel : Kernel) (right : IsRightFor a s formats kernel) (rs : List ℕ) (rs_are : rs ≡ ranges)
        (first : List FormatLevel) (front : first ≡ slice_index_or formats 0 first) where
      pub enough_lent : length first ≤ length rs
      enough_lent = subst (λ (xs : List ℕ). length first ≤ length xs) (sym rs_are)
          (enough a laws s formats kernel right operands are ranges fits first (first_is first front))

      pub small_lent : All (λ range. range ≤ greatest_position_count) rs
      small_lent = subst (All (λ range. range ≤ greatest_position_count)) (sym rs_are) fits.small

      module _ (is_format : IsFormat first) (storages : List Storage)
          (packed : ArePackedOperands a s formats (slice_index lent) entries storages) (ts : List Storage) (ts_are : ts ≡ storages) where
        pub done_lent : All (λ t. AreDone 1 t.levels) ts
        done_lent = subst (All (λ t. AreDone 1 t.levels)) (sym ts_are)
            (are_done a s formats ranges operands storages (packed_lent storages packed))

        store_lent : (P : List ℕ → List Storage → Type 0) → P rs ts → P ranges storages
        store_lent P h = subst (P ranges) ts_are (subst (λ xs. P xs ts) rs_are h)

        store_back : (P : List ℕ → List Storage → Type 0) → P ranges storages → P rs ts
        store_back P h = subst (λ xs. P xs ts) (sym rs_are) (subst (P ranges) (sym ts_are) h)

        pub sound_lent : CanBegin (store_of rs ts first) → IsSoundOn a kernel (store_of rs ts first)
        sound_lent = store_back (λ xs us. CanBegin (store_of xs us first) → IsSoundOn a kernel (store_of xs us first))
            (sound a laws s formats kernel right operands are ranges fits first (first_is first front)
            is_format storages (packed_lent storages packed))

        pub refused_lent : (fault : RunFault) → RefusedOn a kernel (store_of rs ts first) fault
            → RefusedBy a s formats kernel ranges operands fault
        refused_lent fault why =
            refused a laws s formats kernel right operands are ranges fits first (first_is first front)
            is_format storages (packed_lent storages packed) fault
            (store_lent (λ xs us. RefusedOn a kernel (store_of xs us first) fault) why)

        pub run_lent : (tensor : Storage) (turns : Turns) (found : Entries) (shape : List ℕ)
            → IsRunOn a s kernel (store_of rs ts first) shape found tensor turns
            → IsRunBy a s formats kernel ranges operands shape found tensor turns
        run_lent tensor turns found shape run =
            is_run a laws s formats kernel right operands are ranges fits first (first_is first front)
            is_format storages (packed_lent storages packed) tensor turns found shape
            (store_lent (λ ys us. IsRunOn a s kernel (store_of ys us first) shape found tensor turns) run)
