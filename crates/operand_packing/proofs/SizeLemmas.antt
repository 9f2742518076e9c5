-- Sizes of modes, found access by access.
use Rattle.std.proofs.Common.{◌≡◌, ℕ, zero, suc, ◌+◌, [], ◌∷◌, ◌++◌, ap, ◌∙◌, arith, add-one}
use Rattle.index_notation.specs.Statement.{numbers_from}

-- one number more
pub numbers_more : (n count : ℕ) → numbers_from n (suc count) ≡ numbers_from n count ++ (n + count) ∷ []
numbers_more n zero = ap (λ m. m ∷ []) (omega arith)
numbers_more n (suc count) = ap (λ ms. n ∷ ms) (numbers_more (n + 1) count ∙ ap (λ m. numbers_from (n + 1) count ++ m ∷ []) (omega arith))

pub numbers_snoc : (count : ℕ) → numbers_from 0 (count + 1) ≡ numbers_from 0 count ++ count ∷ []
numbers_snoc count = rw add-one (numbers_more 0 count ∙ ap (λ m. numbers_from 0 count ++ m ∷ []) (omega arith))
