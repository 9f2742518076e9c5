-- The drawn operands are square matrices with few entries.
use Rattle.std.specs.Prelude.{◌≡◌, ℕ, ◌+◌, ◌<◌, ◌≤◌, ◌^◌, List, [], ◌∷◌, length, All}
use Rattle.std.proofs.Common.{◌∙◌, arith}
use Rattle.limits.specs.Limits.{greatest_workload}
use Rattle.limits.proofs.Limits.{positions_are_small, workloads_are_ranges}
use Rattle.tensor_map.specs.Entries.{Entry, AreEntries, Entries}
use Rattle.tns_io.specs.Positions.{IsBelow}
use Rattle.generated_runs.specs.Generated.{AreSummed}
use Rattle.generated_runs.specs.Matrices.{IsMatrix}

below_two : (n : ℕ) (coords : List ℕ) → length coords ≡ 2 → All (λ c. c < n) coords → IsBelow (n ∷ n ∷ []) coords
below_two n [] long below = absurd (omega (arith, long))
below_two n (x ∷ []) long below = absurd (omega (arith, long))
below_two n (x ∷ y ∷ []) long below = (below 0 0 (omega arith), (below 1 0 (omega arith), tt))
below_two n (x ∷ y ∷ z ∷ zs) long below = absurd (omega (arith, long))

pub matrix_of : (n : ℕ) (drawn : List Entry) (entries : Entries) → AreSummed n drawn entries → AreEntries entries → IsMatrix n entries
matrix_of n drawn entries summed are = record {
  order = summed.order;
  below = λ k d h. below_two n _ ((are.each k d h).long ∙ summed.order) (summed.inside k d h);
  few = summed.few;
}

-- the number of rows and entries is a word
pub cost_fits : (n first second third : ℕ) → n ≤ greatest_workload → first ≤ n → second ≤ n → third ≤ n
    → n + first + second + third < 2 ^ 64
cost_fits n first second third small one two three =
    let ranges = workloads_are_ranges in
    let positions = positions_are_small in
    omega (arith, small, one, two, three, ranges, positions)
