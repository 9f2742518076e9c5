-- Two coordinates as one word.
use Rattle.std.specs.Prelude.{◌≡◌, ℕ, ◌+◌, ◌*◌, ◌<◌, [], ◌∷◌}
use Rattle.std.specs.Ordering.{nat_cmp}
use Rattle.std.specs.Cmp.Lexicographic.{slice_cmp}
use Rattle.std.proofs.Common.{arith}
use Rattle.std.proofs.lemmas.Bool.Decides.{nat_tests}

-- words of two numbers of 32 bits are compared as the numbers are, the first ones first
pub compared_in_one : (a b c d : ℕ) → b < 4294967296 → d < 4294967296
    → nat_cmp (a * 4294967296 + b) (c * 4294967296 + d) ≡ slice_cmp nat_cmp (a ∷ b ∷ []) (c ∷ d ∷ [])
compared_in_one a b c d h k = grind (arith, nat_tests)
