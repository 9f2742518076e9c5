-- How far the entries of a file reach.
use Rattle.std.proofs.Common.{ℕ, zero, suc, ◌<◌, List, [], ◌∷◌, arith, subst}
use Rattle.std.specs.Prelude.{All, slice_index, slice_index_or}
use Rattle.limits.specs.Limits.{greatest_position_count}
use Rattle.limits.proofs.Limits.{some_positions}
use Rattle.tensor_map.specs.Entries.{Entry, IsGreatest}
use Rattle.tns_io.specs.Text.{AreInRange}

at_small : (coords : List ℕ) (n mode : ℕ) → 0 < n → All (λ c. c < n) coords → slice_index coords mode < n
at_small [] n zero positive all = positive
at_small [] n (suc mode) positive all = positive
at_small (c ∷ coords) n zero positive all = all 0 0 (omega arith)
at_small (c ∷ coords) n (suc mode) positive all = at_small coords n mode positive (λ k d h. all (suc k) d (omega arith))

-- the greatest coordinate of a mode is such as may stand in a tensor's storage
pub greatest_small : (entries : List Entry) (mode c : ℕ) → AreInRange entries → IsGreatest entries mode c → c < greatest_position_count
greatest_small entries mode c small greatest =
    let d : Entry = record { coords = []; value = 0 } in
    let k : ℕ = greatest.found.0 in
    let at : slice_index (slice_index_or entries k d).coords mode < greatest_position_count =
    at_small (slice_index_or entries k d).coords greatest_position_count mode some_positions (small k d greatest.found.1) in
    subst (λ n. n < greatest_position_count) (greatest.found.2 d) at
