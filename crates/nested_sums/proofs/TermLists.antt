-- The terms of an expression that is the sum of terms.
use Rattle.std.specs.Prelude.{◌≡◌, Bool, true, false, if◌then◌else◌, List, [], ◌∷◌, ◌++◌, map, refl}
use Rattle.std.proofs.Common.{◌∙◌, sym, ap, append_assoc}
use Rattle.lists.specs.Each.{Each}
use Rattle.index_notation.specs.declared.operator.Operator.TheVariants as op
use Rattle.index_notation.specs.declared.syntax.Expr.{Expr, Binary, Neg}
use Rattle.expr_terms.specs.declared.term.Term.{Term}
use Rattle.expr_terms.specs.Terms.{terms, plain_term, negated_term}
use Rattle.expr_terms.proofs.Equations.{terms_binary, terms_neg}
use Rattle.nested_sums.specs.Multiplied.{added, sum_of_terms}

-- an expression that is one term
abbrev pub IsOneTerm : Term → Type 0
IsOneTerm t = terms t.expr ≡ plain_term t.expr ∷ []

term_is : (t : Term) (b : Bool) → b ≡ t.negated → record { negated = b; expr = t.expr } ≡ t
term_is t b e = λ i. record { negated = e i; expr = t.expr }

first_term : (t : Term) → IsOneTerm t → terms (if t.negated then Neg t.expr else t.expr) ≡ t ∷ []
first_term t one = by t.negated refl
  where
    by : (b : Bool) → b ≡ t.negated → terms (if b then Neg t.expr else t.expr) ≡ t ∷ []
    by true e = terms_neg t.expr ∙ ap (map negated_term) one ∙ ap (λ u. u ∷ []) (term_is t true e)
    by false e = one ∙ ap (λ u. u ∷ []) (term_is t false e)

one_more : (e : Expr) (t : Term) → IsOneTerm t
    → terms (Binary (if t.negated then op.Sub else op.Add) e t.expr) ≡ terms e ++ (t ∷ [])
one_more e t one = by t.negated refl
  where
    by : (b : Bool) → b ≡ t.negated → terms (Binary (if b then op.Sub else op.Add) e t.expr) ≡ terms e ++ (t ∷ [])
    by true n = terms_binary op.Sub e t.expr ∙ ap (λ ts. terms e ++ map negated_term ts) one
        ∙ ap (λ u. terms e ++ (u ∷ [])) (term_is t true n)
    by false n = terms_binary op.Add e t.expr ∙ ap (λ ts. terms e ++ ts) one ∙ ap (λ u. terms e ++ (u ∷ [])) (term_is t false n)

append_none : {A : Type 0} (xs : List A) → xs ++ [] ≡ xs
append_none [] = refl
append_none (x ∷ xs) = ap (λ ys. x ∷ ys) (append_none xs)

added_terms : (e : Expr) (ts : List Term) → Each IsOneTerm ts → terms (added e ts) ≡ terms e ++ ts
added_terms e [] each = sym (append_none (terms e))
added_terms e (t ∷ ts) each =
    added_terms (Binary (if t.negated then op.Sub else op.Add) e t.expr) ts each.1
    ∙ ap (λ us. us ++ ts) (one_more e t each.0) ∙ append_assoc (terms e) (t ∷ []) ts

pub sum_has_terms : (t : Term) (ts : List Term) → Each IsOneTerm (t ∷ ts) → terms (sum_of_terms (t ∷ ts)) ≡ t ∷ ts
sum_has_terms t ts each =
    added_terms (if t.negated then Neg t.expr else t.expr) ts each.1 ∙ ap (λ us. us ++ ts) (first_term t each.0)
