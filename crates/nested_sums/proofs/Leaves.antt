-- What is so of each access and each sum that an expression reads.
use Rattle.std.specs.Prelude.{ℕ, ◌<◌}
use denote.Hole.Carrier.{hidden}
use Rattle.index_notation.specs.Statement.{AccessesUnder, AccessesUnder_in}
use Rattle.index_notation.specs.declared.operator.Operator.{Operator}
use Rattle.index_notation.specs.declared.syntax.Expr.{Expr, Num, Access as AccessOf, Binary, Binary', Neg', Row_of-Expr, end_of-Expr}
use Rattle.index_notation.specs.declared.syntax.Expr.{more_of-Expr}
use Rattle.index_notation.specs.declared.syntax.Expr.TheBlock.{hidden-the_row-Expr-0}
use Rattle.nested_sums.specs.Pieces.{AreInner, AreInner_in}

abbrev mutual
  pub EachLeaf : (ℕ → Type 0) → Expr → Type 0
  EachLeaf Q (Num n) = Unit {0}
  EachLeaf Q (AccessOf k) = Q k
  EachLeaf Q (Binary' o p e q f) = EachLeaf_in Q e × EachLeaf_in Q f
  EachLeaf Q (Neg' p e) = EachLeaf_in Q e

  pub EachLeaf_in : {m : _} → (ℕ → Type 0) → Row_of-Expr m → Type 0
  EachLeaf_in Q end_of-Expr = Unit {0}
  EachLeaf_in Q (more_of-Expr e rest) = EachLeaf Q e

pub leaf_product : (Q : ℕ → Type 0) (o : Operator) (e f : Expr) → EachLeaf Q e → EachLeaf Q f → EachLeaf Q (Binary o e f)
unfolding hidden-the_row-Expr-0 hidden
leaf_product Q o e f h g = (h, g)

module _ (Q : ℕ → Type 0) (n : ℕ) (under : (k : ℕ) → Q k → k < n) where
  mutual
    pub leaves_under : (e : Expr) → EachLeaf Q e → AccessesUnder n e
    leaves_under (Num k) h = tt
    leaves_under (AccessOf k) h = under k h
    leaves_under (Binary' o p e q f) h = (leaves_under_in e h.0, leaves_under_in f h.1)
    leaves_under (Neg' p e) h = leaves_under_in e h

    leaves_under_in : {m : _} (e : Row_of-Expr m) → EachLeaf_in Q e → AccessesUnder_in n e
    leaves_under_in end_of-Expr h = tt
    leaves_under_in (more_of-Expr e rest) h = leaves_under e h

module _ (Q : ℕ → Type 0) (is_inner : _) (count : ℕ) (inner : (k : ℕ) → Q k → AreInner is_inner count (AccessOf k)) where
  mutual
    pub leaves_inner : (e : Expr) → EachLeaf Q e → AreInner is_inner count e
    leaves_inner (Num k) h = tt
    leaves_inner (AccessOf k) h = inner k h
    leaves_inner (Binary' o p e q f) h = (leaves_inner_in e h.0, leaves_inner_in f h.1)
    leaves_inner (Neg' p e) h = leaves_inner_in e h

    leaves_inner_in : {m : _} (e : Row_of-Expr m) → EachLeaf_in Q e → AreInner_in is_inner count e
    leaves_inner_in end_of-Expr h = tt
    leaves_inner_in (more_of-Expr e rest) h = leaves_inner e h
