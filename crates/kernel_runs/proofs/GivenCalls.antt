-- The run of a given kernel, over what is lent to it.
use Rattle.std.specs.Prelude.{◌≡◌, ℕ, ◌≤◌, List, [], length, All, Option, Ok, Vec, slice_index, slice_index_or}
use Rattle.std.specs.declared.alloc.Global.{Global}
use Rattle.std.proofs.Common.{◌∙◌, sym, subst, arith}
use Rattle.limits.specs.Limits.{greatest_position_count}
use Rattle.numbers.specs.Arithmetic.{Arithmetic, Laws}
use Rattle.tensor_map.specs.Entries.{Entries}
use Rattle.kernel_code.specs.declared.syntax.Kernel.{Kernel}
use Rattle.kernel_code.specs.declared.syntax.Turns.{Turns}
use Rattle.format_spec.specs.declared.format.FormatLevel.{FormatLevel}
use Rattle.index_notation.specs.declared.syntax.Statement.{Statement}
use Rattle.iteration_graph.specs.Edges.{format_of}
use Rattle.expr_terms.specs.declared.bound.Bound.{Bound}
use Rattle.tensor_storage.specs.Storages.{Storage}
use Rattle.kernel_machine.specs.Begins.{store_of}
use Rattle.operand_packing.specs.Operands.{AreOperands, AreRanges}
use Rattle.operand_packing.specs.Packed.{ArePackedOperands}
use Rattle.operand_packing.specs.Runnable.{told_ranges}
use Rattle.operand_packing.proofs.Lists.{default_free}
use Rattle.kernel_runs.specs.declared.fault.GivenFault.{GivenFault}
use Rattle.kernel_runs.specs.Given.{IsGivenOn, IsGivenRun, IsPackedStore, MayRefuseGiven, RefusedGiven}
use Rattle.kernel_runs.proofs.Calls.{formats_many, packed_lent}
use Rattle.kernel_runs.proofs.GivenRuns.{given_is, given_refusal}
use Rattle.kernel_runs.proofs.Whole.{enough_for}

module _ (a : Arithmetic) (s : Statement) (formats : List (List FormatLevel)) (operands : List Entries)
    (are : AreOperands s formats operands) (ranges : List ℕ) (fits : AreRanges s operands ranges)
    (rs : List ℕ) (rs_are : rs ≡ ranges) (first : List FormatLevel) (front : first ≡ slice_index_or formats 0 first) where
  first_given : first ≡ format_of formats 0
  first_given =
      let many = formats_many a s formats operands are ranges fits in
      front ∙ default_free formats 0 first [] (omega (arith, many))

  pub enough_given : length first ≤ length rs
  enough_given = subst (λ (xs : List ℕ). length first ≤ length xs) (sym rs_are)
      (enough_for s formats operands are ranges fits first first_given)

  pub small_given : All (λ range. range ≤ greatest_position_count) rs
  small_given = subst (All (λ range. range ≤ greatest_position_count)) (sym rs_are) fits.small

  module _ (lent : List ℕ) (lent_is : lent ≡ ranges) (entries : List Entries) (entries_are : entries ≡ operands)
      (storages : List Storage) (packed : ArePackedOperands a s formats (slice_index lent) entries storages)
      (ts : List Storage) (ts_are : ts ≡ storages) (given : List (Option ℕ)) (bounds : List (Vec Bound Global))
      (told : told_ranges s given bounds ≡ Ok ranges) (kernel : Kernel) (budget : ℕ) where
    store_given : IsPackedStore a s formats ranges operands (store_of rs ts first)
    store_given = record {
      ranges_are = rs_are;
      format_is = first_given;
      packed = subst (ArePackedOperands a s formats (slice_index ranges) operands) (sym ts_are)
          (packed_lent a s formats operands are ranges fits lent lent_is entries entries_are storages packed);
    }

    pub refused_given : (fault : GivenFault) → RefusedGiven a kernel (store_of rs ts first) budget fault
        → MayRefuseGiven a s formats kernel given operands bounds budget fault
    refused_given fault why =
        given_refusal a s formats kernel given operands bounds budget ranges told (store_of rs ts first) store_given fault why

    pub run_given_is : Laws a → (tensor : Storage) (turns : Turns) (found : Entries) (shape : List ℕ)
        → IsGivenOn a s kernel (store_of rs ts first) budget shape found tensor turns
        → IsGivenRun a s formats kernel given operands bounds budget shape found tensor turns
    run_given_is laws tensor turns found shape run =
        given_is a laws s formats kernel given operands bounds budget ranges told are (store_of rs ts first) store_given shape found tensor
        turns run
