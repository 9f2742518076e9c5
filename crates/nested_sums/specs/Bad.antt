-- Which nested sums are bad: those whose variable is bound and free. The first of them in text order is a fault of the statement's names.
use Rattle.std.specs.Prelude.{◌≡◌, ℕ, ◌+◌, nat_eq, Bool, true, false, not, ◌&&◌, ◌||◌}
use Rattle.std.specs.Prelude.{if◌then◌else◌, List, [], ◌∷◌, ◌++◌, length}
use Rattle.std.specs.Prelude.{Option, None, Some}
use Rattle.lists.specs.Each.{Each}
use Rattle.index_notation.specs.declared.syntax.Access.{Access}
use Rattle.index_notation.specs.declared.syntax.Expr.{Expr, Num, Access as AccessOf, Binary', Neg', Row_of-Expr, end_of-Expr, more_of-Expr}
use Rattle.index_notation.specs.declared.syntax.NestedSum.{NestedSum}
use Rattle.index_notation.specs.declared.syntax.Statement.{Statement}
use Rattle.expr_terms.specs.Nested.{flat}
use Rattle.expr_terms.specs.Terms.{contains, stands_in}
use Rattle.expr_terms.specs.declared.names.NameFault.{NameFault}
use Rattle.expr_terms.specs.declared.names.NameFault.TheVariants.{ResultRead, Arity, RepeatedVariable, BadSum}
pub use Rattle.nested_sums.specs.declared.bad_sums.Mention.{Mention}
use Rattle.nested_sums.specs.Bound.{bound_in, bounds}

-- the variables of a statement's sums in text order, by where they begin: an outer sum's before those inside it, and sides from the left
abbrev pub sum_variables : Statement → List ℕ
sum_variables s = bound_in (bounds s) s.expr

-- whether a number stands in a list at two places
abbrev pub stands_twice : List ℕ → ℕ → Bool
stands_twice [] v = false
stands_twice (n ∷ ns) v = if nat_eq n v then contains ns v else stands_twice ns v

-- a sum is bad by its variable, if that stands on the left, or in an access outside the sum, or is bound by another sum. An access that
-- has it stands outside each sum over it, where it is free in the whole right side, or inside another one
abbrev pub is_bad : Statement → ℕ → Bool
is_bad s v = contains s.left.vars v || (stands_in (flat s).accesses v s.expr || stands_twice (sum_variables s) v)

-- none of a statement's sums is
abbrev pub AreFine : Statement → Type 0
AreFine s = Each (λ v. is_bad s v ≡ false) (sum_variables s)

-- the variable is that of the first sum in text order that is bad
pub record IsFirstBad (s : Statement) (var : ℕ) : Type 0 where
  pub front : List ℕ
  pub behind : List ℕ
  pub all : sum_variables s ≡ front ++ (var ∷ behind)
  pub none_before : Each (λ v. is_bad s v ≡ false) front
  pub is : is_bad s var ≡ true

-- the fault is of the first sum that is bad, and not of an access
abbrev pub IsFirstBadSum : Statement → NameFault → Type 0
IsFirstBadSum s (ResultRead tensor) = ⊥
IsFirstBadSum s (Arity tensor) = ⊥
IsFirstBadSum s (RepeatedVariable tensor var) = ⊥
IsFirstBadSum s (BadSum var) = IsFirstBad s var

abbrev mutual
  -- whether an expression reads an access, or a sum by the number at which it stands there
  pub reads_leaf : ℕ → Expr → Bool
  reads_leaf k (Num n) = false
  reads_leaf k (AccessOf j) = nat_eq j k
  reads_leaf k (Binary' o p e q f) = reads_leaf_in k e || reads_leaf_in k f
  reads_leaf k (Neg' p e) = reads_leaf_in k e

  -- the same of the one expression in a box
  pub reads_leaf_in : {m : _} → ℕ → Row_of-Expr m → Bool
  reads_leaf_in k end_of-Expr = false
  reads_leaf_in k (more_of-Expr e rest) = reads_leaf k e

-- whether some of these sums reads it
abbrev pub some_reads : ℕ → List NestedSum → Bool
some_reads k [] = false
some_reads k (sum ∷ sums) = reads_leaf k sum.inside || some_reads k sums

-- each of these sums, the first of which stands in expressions as this number, is read by the expression or by a later one
abbrev pub AreRead : ℕ → List NestedSum → Expr → Type 0
AreRead k [] e = Unit {0}
AreRead k (sum ∷ sums) e = ((reads_leaf k e || some_reads k sums) ≡ true) × AreRead (k + 1) sums e

-- so is each sum of a statement: those of a text are, since there each sum stands somewhere
abbrev pub ReadsItsSums : Statement → Type 0
ReadsItsSums s = AreRead (length s.accesses) s.sums s.expr

-- the first number in a list that passes a test
abbrev pub first_where : (ℕ → Bool) → List ℕ → Option ℕ
first_where test [] = None
first_where test (n ∷ ns) = if test n then Some n else first_where test ns

-- of nothing
abbrev pub never_mentioned : Mention
never_mentioned = record { free = false; bound = false; twice = false }

-- of an access, in which no sum stands
abbrev pub access_mention : ℕ → Access → Mention
access_mention var access = record { free = contains access.vars var; bound = false; twice = false }

-- of two sides
abbrev pub both_mention : Mention → Mention → Mention
both_mention x y = record {
  free = x.free || y.free;
  bound = x.bound || y.bound;
  twice = x.twice || (y.twice || (x.bound && y.bound));
}

-- of a sum over a variable, by what is told of its inside
abbrev pub sum_mention : ℕ → ℕ → Mention → Mention
sum_mention var own x = record {
  free = x.free && not (nat_eq own var);
  bound = nat_eq own var || x.bound;
  twice = x.twice || (nat_eq own var && x.bound);
}

-- how an expression of a statement mentions a variable
abbrev pub mention_of : Statement → ℕ → Expr → Mention
mention_of s var e = record {
  free = stands_in (flat s).accesses var e;
  bound = contains (bound_in (bounds s) e) var;
  twice = stands_twice (bound_in (bounds s) e) var;
}
