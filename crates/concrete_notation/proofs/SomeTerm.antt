-- An expression has some term.
use Rattle.std.specs.Prelude.{List, map}
use Rattle.std.proofs.Common.{sym, subst, inl}
use denote.Hole.Carrier.{hidden}
use Rattle.index_notation.specs.declared.operator.Operator.{Operator}
use Rattle.index_notation.specs.declared.operator.Operator.TheVariants as op
use Rattle.index_notation.specs.declared.syntax.Expr.{Expr, map-Expr, Num, Access as AccessOf, Binary, Neg}
use Rattle.index_notation.specs.declared.syntax.Expr.TheVariants.{rolls-Num, rolls-Access, rolls-Binary, rolls-Neg}
use Rattle.index_notation.specs.declared.syntax.Expr.TheBlock.{hidden-the_row-Expr-0}
use Rattle.index_notation.specs.declared.syntax.Expr.TheFolds.{ind-Expr}
use Rattle.index_notation.specs.declared.syntax.Expr.TheViews.{roll-Expr}
use Rattle.index_notation.specs.declared.syntax.Expr.TheOpen as view
use Rattle.expr_terms.specs.Terms.{terms, terms_of_sides, negated_term}
use Rattle.expr_terms.specs.declared.term.Term.{Term}
use Rattle.expr_terms.proofs.Equations.{terms_binary, terms_neg}
use Rattle.concrete_notation.specs.Right.{IsSome}
use Rattle.concrete_notation.proofs.LoopSupports.{some_first}
use Rattle.concrete_notation.proofs.Somes.{mapped_some}

abbrev pub AnyTerm : Term → Type 0
AnyTerm t = Unit {0}

abbrev pub HasTerm : Expr → Type 0
HasTerm e = IsSome AnyTerm (terms e)

number_has : (n : _) → HasTerm (Num n)
unfolding hidden-the_row-Expr-0 hidden
number_has n = inl tt

access_has : (k : _) → HasTerm (AccessOf k)
unfolding hidden-the_row-Expr-0 hidden
access_has k = inl tt

-- there is one of two sides, where the first has one
sides_have : (o : Operator) (whole : Expr) (ts us : List Term) → IsSome AnyTerm ts → IsSome AnyTerm (terms_of_sides o whole ts us)
sides_have op.Add whole ts us h = some_first AnyTerm ts us h
sides_have op.Sub whole ts us h = some_first AnyTerm ts (map negated_term us) h
sides_have op.Mul whole ts us h = inl tt

binary_has : (o : Operator) (e f : Expr) → HasTerm e → HasTerm (Binary o e f)
binary_has o e f h = subst (IsSome AnyTerm) (sym (terms_binary o e f)) (sides_have o (Binary o e f) (terms e) (terms f) h)

negation_has : (e : Expr) → HasTerm e → HasTerm (Neg e)
negation_has e h = subst (IsSome AnyTerm) (sym (terms_neg e)) (mapped_some AnyTerm negated_term (terms e) h)

layer_has : (y : view.Expr-F ((e : Expr) × HasTerm e)) → HasTerm (roll-Expr (map-Expr ((e : Expr) × HasTerm e) Expr (λ e. e.0) y))
layer_has (view.Num n) = subst HasTerm (sym (rolls-Num n)) (number_has n)
layer_has (view.Access k) = subst HasTerm (sym (rolls-Access k)) (access_has k)
layer_has (view.Binary o e f) = subst HasTerm (sym (rolls-Binary o e.0 f.0)) (binary_has o e.0 f.0 e.1)
layer_has (view.Neg e) = subst HasTerm (sym (rolls-Neg e.0)) (negation_has e.0 e.1)

pub has_term : (e : Expr) → HasTerm e
has_term = ind-Expr HasTerm (λ x y is. subst (λ z. HasTerm (roll-Expr z)) is (layer_has y))
