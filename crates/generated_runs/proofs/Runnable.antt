-- The workload can be run over its operands, and the ranges of its variables are those that words give.
use Rattle.std.specs.Prelude.{◌≡◌, ℕ, zero, suc, ◌+◌, ◌<◌, ◌≤◌, Bool, true, false, nat_lt, List, [], ◌∷◌, Some, Ok, refl}
use Rattle.std.proofs.Common.{◌∙◌, sym, subst, arith}
use Rattle.std.proofs.lemmas.Bool.Decides.{nat_tests}
use Rattle.std.proofs.lemmas.List.Elements.{All-nil, All-cons}
use Rattle.limits.specs.Limits.{greatest_position_count}
use Rattle.tensor_map.specs.Entries.{Entries}
use Rattle.operand_packing.specs.Operands.{AreRanges, IsRead}
use Rattle.operand_packing.specs.Runnable.{IsRunnable, told_ranges}
use Rattle.generated_runs.specs.Matrices.{AreMatrices}
use Rattle.generated_runs.specs.Workloads.{matrix_at, workload_statement, workload_formats}
use Rattle.generated_runs.proofs.Facts.{written_numbered, named, left_format, right_formats}

not_below : (n : ℕ) → nat_lt n 0 ≡ false
not_below n = by (nat_lt n 0) refl
  where
    by : (b : Bool) → nat_lt n 0 ≡ b → nat_lt n 0 ≡ false
    by true t = grind (arith, nat_tests, t)
    by false t = t

pub told : (n : ℕ) → told_ranges workload_statement (Some n ∷ Some n ∷ []) [] ≡ Ok (n ∷ n ∷ [])
unfolding workload_statement
told n = simp not_below

are_read : (n : ℕ) → n < 3 → IsRead workload_statement.accesses (n + 1)
unfolding workload_statement
are_read zero h = record { place = 0; access = matrix_at 1; stands = refl; tensor_is = refl }
are_read (suc zero) h = record { place = 1; access = matrix_at 2; stands = refl; tensor_is = refl }
are_read (suc (suc zero)) h = record { place = 2; access = matrix_at 3; stands = refl; tensor_is = refl }
are_read (suc (suc (suc n))) h = absurd (omega (arith, h))

abbrev within : ℕ → Type 0
within range = range ≤ greatest_position_count

are_ranges : (n : ℕ) (first second third : Entries) → n ≤ greatest_position_count → AreMatrices n (first ∷ second ∷ third ∷ [])
    → AreRanges workload_statement (first ∷ second ∷ third ∷ []) (n ∷ n ∷ [])
unfolding workload_statement
are_ranges n first second third small are = record {
  long = refl;
  small = All-cons within n (n ∷ []) small (All-cons within n [] small (All-nil within));
  below = (are.0.below, (are.1.below, (are.2.below, tt)));
}

pub runnable : (n : ℕ) (operands : List Entries) → n ≤ greatest_position_count → AreMatrices n operands
    → IsRunnable workload_statement workload_formats (Some n ∷ Some n ∷ []) operands []
unfolding workload_statement workload_formats
runnable n [] small are = absurd are
runnable n (first ∷ []) small are = absurd are
runnable n (first ∷ second ∷ []) small are = absurd are
runnable n (first ∷ second ∷ third ∷ x ∷ xs) small are = absurd are
runnable n (first ∷ second ∷ third ∷ []) small are = record {
  operands_are = record {
    numbered = written_numbered;
    named = named;
    many = refl;
    formats_many = refl;
    result_format = left_format;
    formats_fit = right_formats;
    reads = (are.0.order, (are.1.order, (are.2.order, tt)));
    read = are_read;
  };
  ranges_fit = λ ranges told_so.
      let both : Ok ranges ≡ Ok (n ∷ n ∷ []) = sym told_so ∙ told n in
      let same : n ∷ n ∷ [] ≡ ranges = cc in
      subst (AreRanges workload_statement (first ∷ second ∷ third ∷ [])) same (are_ranges n first second third small are);
}
