-- The product of a number of parents and a factor, as code computes it: a word, whatever the numbers are. The language has no division and
-- no choice of two values, but a comparison is 1 or 0: a factor up to 2^22 is multiplied with at most one parent more than the limit on
-- positions, and a greater one with at most one more than 2^18, which is enough to pass the limit.
use Rattle.std.specs.Prelude.{◌≡◌, ℕ, ◌+◌, ◌-◌, ◌*◌, ◌^◌, ◌≤◌, ◌<◌}
use Rattle.limits.specs.Limits.{greatest_position_count}
use Rattle.kernel_code.specs.declared.syntax.Op.TheVariants.{Sub, Mul, Less}
use Rattle.level_core.specs.Fragments.{KExpr}
use Rattle.kernel_code.specs.declared.syntax.KExpr.{Num, Bin, Min}

-- the greatest factor that may be multiplied with all parents: 2^22
unfoldable pub greatest_narrow_factor : ℕ
greatest_narrow_factor = 4194304

-- a greater factor may be multiplied with one parent more than so many, and that passes the limit: 2^18
unfoldable pub parents_of_wide : ℕ
parents_of_wide = 262144

-- whether the factor is greater
abbrev pub is_wide : KExpr → KExpr
is_wide factor = Bin Less (Num greatest_narrow_factor) factor

-- how many parents are multiplied with it at most
abbrev pub most_parents : KExpr → KExpr
most_parents factor =
    Bin Sub (Num (greatest_position_count + 1)) (Bin Mul (is_wide factor) (Num (greatest_position_count - parents_of_wide)))

abbrev pub guarded_product : KExpr → KExpr → KExpr
guarded_product parents factor = Bin Mul (Min parents (most_parents factor)) factor

-- a word that stands for a product: it is the product where that is within the limit, and else a number above the limit and at most it
pub record StandsForProduct (parents factor n : ℕ) : Type 0 where
  pub word : n < 2 ^ 64
  pub within : n ≤ parents * factor
  pub same : parents * factor ≤ greatest_position_count → n ≡ parents * factor
  pub above : greatest_position_count < parents * factor → greatest_position_count < n
