-- The shape of a statement's result.
use Rattle.std.specs.Prelude.{◌≡◌, ℕ, ◌≤◌, List, [], ◌∷◌, length, map, All, slice_index}
use Rattle.std.proofs.Common.{arith}
use Rattle.std.proofs.lemmas.List.{length-map}
use Rattle.std.proofs.lemmas.List.Elements.{All-nil, All-cons}
use Rattle.limits.specs.Limits.{greatest_order, greatest_position_count}
use Rattle.tensor_map.specs.Coords.{IsShape}
use Rattle.operand_packing.proofs.SizeLaws.{index_small}

small_of : (ranges vars : List ℕ) → All (λ range. range ≤ greatest_position_count) ranges
    → All (λ range. range ≤ greatest_position_count) (map (slice_index ranges) vars)
small_of ranges [] all = All-nil (λ range. range ≤ greatest_position_count)
small_of ranges (v ∷ vars) all =
    All-cons (λ range. range ≤ greatest_position_count) (slice_index ranges v) (map (slice_index ranges) vars)
    (index_small greatest_position_count ranges all v) (small_of ranges vars all)

-- the ranges of few variables are a shape
pub ranges_shape : (ranges vars : List ℕ) → length vars ≤ greatest_order → All (λ range. range ≤ greatest_position_count) ranges
    → IsShape (map (slice_index ranges) vars)
ranges_shape ranges vars short small =
    let long : length (map (slice_index ranges) vars) ≡ length vars = length-map vars (slice_index ranges) in
    record { short = omega (arith, long, short); within = small_of ranges vars small }
