-- Which nested sums are inner for a loop order: a sum is where its variable, and those of the sums within it, stand behind all variables
-- that are free in it, and the sums within it are inner too. It is told of one variable at a time whether it is free, and what stands
-- behind it: a sum is inner where it is so for every variable.
use Rattle.std.specs.Prelude.{ℕ, ◌+◌, nat_eq, Bool, true, false, not, ◌&&◌, ◌||◌, List, length, map}
use Rattle.std.specs.Prelude.{Option, None, Some, slice_get}
use Rattle.std.specs.List.{list_all}
use Rattle.index_notation.specs.Statement.{numbers_from}
use Rattle.index_notation.specs.declared.syntax.Access.{Access}
use Rattle.index_notation.specs.declared.syntax.Expr.{Expr, Num, Access as AccessOf, Binary', Neg', Row_of-Expr, end_of-Expr, more_of-Expr}
use Rattle.index_notation.specs.declared.syntax.NestedSum.{NestedSum}
use Rattle.index_notation.specs.declared.syntax.Statement.{Statement}
use Rattle.expr_terms.specs.Terms.{contains, stands_before}
pub use Rattle.nested_sums.specs.declared.inner_sums.Standing.{Standing}
use Rattle.nested_sums.specs.Told.{told_with}

-- of nothing
abbrev pub none_stands : Standing
none_stands = record { free = false; behind = true; fits = true }

-- of an access, in which no sum stands
abbrev pub access_standing : ℕ → Access → Standing
access_standing var access = record { free = contains access.vars var; behind = true; fits = true }

-- of two sides
abbrev pub both_standing : Standing → Standing → Standing
both_standing x y = record { free = x.free || y.free; behind = x.behind && y.behind; fits = x.fits && y.fits }

-- of a sum over a variable, by what is told of its inside
abbrev pub sum_standing : List ℕ → ℕ → ℕ → Standing → Standing
sum_standing order var own x =
    let free : Bool = x.free && not (nat_eq own var) in
    let behind : Bool = x.behind && stands_before order var own in
    record { free = free; behind = behind; fits = x.fits && (not free || behind) }

abbrev pub standing_or_none : Option Standing → Standing
standing_or_none None = none_stands
standing_or_none (Some x) = x

abbrev mutual
  -- of an expression, by what is told of accesses and of sums behind them
  pub standing_in : List Standing → Expr → Standing
  standing_in told (Num n) = none_stands
  standing_in told (AccessOf k) = standing_or_none (slice_get told k)
  standing_in told (Binary' o p e q f) = both_standing (standing_inside told e) (standing_inside told f)
  standing_in told (Neg' p e) = standing_inside told e

  -- the same of the one expression in a box
  pub standing_inside : {m : _} → List Standing → Row_of-Expr m → Standing
  standing_inside told end_of-Expr = none_stands
  standing_inside told (more_of-Expr e rest) = standing_in told e

-- of a sum, by what is told of accesses and of earlier sums
abbrev pub standing_of : List ℕ → ℕ → List Standing → NestedSum → Standing
standing_of order var told sum = sum_standing order var sum.var (standing_in told sum.inside)

-- of the accesses of a statement, and behind them of sums
abbrev pub standings : Statement → List NestedSum → List ℕ → ℕ → List Standing
standings s sums order var = told_with (standing_of order var) (map (access_standing var) s.accesses) sums

-- whether a sum of a statement, by its number, is inner for an order
abbrev pub is_inner : Statement → List ℕ → ℕ → Bool
is_inner s order n =
    list_all (λ var. (standing_or_none (slice_get (standings s s.sums order var) (length s.accesses + n))).fits)
    (numbers_from 0 (length s.vars))
