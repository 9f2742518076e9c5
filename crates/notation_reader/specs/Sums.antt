-- The nested sums of a tree as they are read, before its accesses are counted: they are numbered from the greatest number of
-- accesses on, which is no access's number, and then moved to behind the last access.
use Rattle.std.specs.Prelude.{ℕ, ◌+◌, ◌-◌, nat_lt, if◌then◌else◌, List, [], ◌∷◌, ◌++◌}
use Rattle.limits.specs.Limits.{greatest_accesses}
use Rattle.index_notation.specs.declared.syntax.Name.{Name}
use Rattle.index_notation.specs.declared.syntax.Expr.{Expr, Num, Access as AccessOf, Binary', Neg', Row_of-Expr, end_of-Expr}
use Rattle.index_notation.specs.declared.syntax.Expr.{more_of-Expr}
use Rattle.index_notation.specs.declared.syntax.NestedSum.{NestedSum}
use Rattle.notation_grammar.specs.Grammar.{Factor, Digits, Read, Bracketed, Negated, Summed, Product, Lone, Multiplied, Sum, Alone, Added}
use Rattle.notation_grammar.specs.Grammar.{Taken}
use Rattle.notation_grammar.specs.TreeStatement.{reads_in_product, reads_in_sum, sums_in_product, sums_in_sum, sum_expr, nested_sum}
use Rattle.notation_reader.specs.declared.builder.WrittenSum.{WrittenSum}

abbrev pub written_sum : Name → Expr → WrittenSum
written_sum var inside = record { var = var; inside = inside }

-- the nested sums, in the order in which they end, where n accesses stand before and the first of them has the number m
abbrev mutual
  pub written_in_factor : ℕ → ℕ → Factor → List WrittenSum
  written_in_factor n m (Digits digits) = []
  written_in_factor n m (Read access) = []
  written_in_factor n m (Bracketed sum) = written_in_sum n m sum
  written_in_factor n m (Negated factor) = written_in_factor n m factor
  written_in_factor n m (Summed var sum) = written_in_sum n m sum ++ (written_sum var (sum_expr n m sum) ∷ [])

  pub written_in_product : ℕ → ℕ → Product → List WrittenSum
  written_in_product n m (Lone factor) = written_in_factor n m factor
  written_in_product n m (Multiplied product factor) =
      written_in_product n m product ++ written_in_factor (n + reads_in_product product) (m + sums_in_product product) factor

  pub written_in_sum : ℕ → ℕ → Sum → List WrittenSum
  written_in_sum n m (Alone product) = written_in_product n m product
  written_in_sum n m (Added sum product) =
      written_in_sum n m sum ++ written_in_product (n + reads_in_sum sum) (m + sums_in_sum sum) product
  written_in_sum n m (Taken sum product) =
      written_in_sum n m sum ++ written_in_product (n + reads_in_sum sum) (m + sums_in_sum sum) product

-- the number of an access or a nested sum, where there are so many accesses
abbrev pub rebased_number : ℕ → ℕ → ℕ
rebased_number count k = if nat_lt k greatest_accesses then k else k - (greatest_accesses - count)

abbrev mutual
  pub rebased : ℕ → Expr → Expr
  rebased count (Num n) = Num n
  rebased count (AccessOf k) = AccessOf (rebased_number count k)
  rebased count (Binary' o p e q f) = Binary' o p (rebased_in count e) q (rebased_in count f)
  rebased count (Neg' p e) = Neg' p (rebased_in count e)

  -- the same of the one expression in a box
  pub rebased_in : {m : _} → ℕ → Row_of-Expr m → Row_of-Expr m
  rebased_in count end_of-Expr = end_of-Expr
  rebased_in count (more_of-Expr e rest) = more_of-Expr (rebased count e) (rebased_in count rest)

-- a nested sum over one of these variables, where there are so many accesses
abbrev pub numbered_sum : List Name → ℕ → WrittenSum → NestedSum
numbered_sum vars count sum = nested_sum vars sum.var (rebased count sum.inside)
