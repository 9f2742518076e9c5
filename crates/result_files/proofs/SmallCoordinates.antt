-- Coordinates below small ranges.
use Rattle.std.specs.Prelude.{ℕ, ◌<◌, ◌≤◌, List, [], ◌∷◌, All}
use Rattle.std.proofs.Common.{arith}
use Rattle.std.proofs.lemmas.List.Elements.{All-cons, All-tail}
use Rattle.limits.specs.Limits.{greatest_position_count}
use Rattle.tns_io.specs.Positions.{IsBelow}

-- they are small
pub below_small : (ranges coords : List ℕ) → All (λ range. range ≤ greatest_position_count) ranges → IsBelow ranges coords
    → All (λ c. c < greatest_position_count) coords
below_small [] [] within below = λ k d h. absurd (omega arith)
below_small [] (c ∷ coords) within below = absurd below
below_small (range ∷ ranges) [] within below = absurd below
below_small (range ∷ ranges) (c ∷ coords) within below =
    let first = within 0 0 (omega arith) in
    All-cons (λ x. x < greatest_position_count) c coords (omega (arith, first, below.0))
    (below_small ranges coords (All-tail (λ r. r ≤ greatest_position_count) range ranges within) below.1)
