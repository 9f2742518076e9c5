-- The terms of an expression behind others, by those of its parts.
use Rattle.std.specs.Prelude.{◌≡◌, Bool, true, false, not, List, [], ◌∷◌, ◌++◌, map}
use Rattle.std.proofs.Common.{◌∙◌, sym, ap, append_assoc}
use Rattle.index_notation.specs.declared.operator.Operator.{Operator}
use Rattle.index_notation.specs.declared.syntax.Expr.{Expr, Binary, Neg}
use Rattle.index_notation.specs.Operators.{is_product}
use Rattle.expr_terms.specs.Terms.{Term, terms, plain_term, negated_term}
use Rattle.expr_terms.specs.Signs.{sign_behind, signed_terms}
use Rattle.expr_terms.proofs.TermSums.{signed_binary, signed_neg}

after : (old between xs ys all : List Term) → between ≡ old ++ xs → all ≡ xs ++ ys → between ++ ys ≡ old ++ all
after old between xs ys all first whole = ap (λ ts. ts ++ ys) first ∙ append_assoc old xs ys ∙ ap (λ ts. old ++ ts) (sym whole)

pub pushed_one : (b : Bool) (whole copy : Expr) (old : List Term) → terms whole ≡ plain_term whole ∷ [] → copy ≡ whole
    → old ++ (record { negated = b; expr = copy } ∷ []) ≡ old ++ signed_terms b whole
pushed_one true whole copy old one same =
    ap (λ e. old ++ (record { negated = true; expr = e } ∷ [])) same ∙ ap (λ ts. old ++ map negated_term ts) (sym one)
pushed_one false whole copy old one same =
    ap (λ e. old ++ (record { negated = false; expr = e } ∷ [])) same ∙ ap (λ ts. old ++ ts) (sym one)

pub pushed_sides : (b behind : Bool) (whole : Expr) (o : Operator) (e f e' f' : Expr) (old between : List Term) → whole ≡ Binary o e f
    → is_product o ≡ false → behind ≡ sign_behind o b → e' ≡ e → f' ≡ f
    → between ≡ old ++ signed_terms b e' → between ++ signed_terms behind f' ≡ old ++ signed_terms b whole
pushed_sides b behind whole o e f e' f' old between is sides sign first second before =
    after old between (signed_terms b e') (signed_terms behind f') (signed_terms b whole) before
    (ap (signed_terms b) is ∙ signed_binary b o e f sides
    ∙ ap (λ ts. ts ++ signed_terms (sign_behind o b) f) (ap (signed_terms b) (sym first))
    ∙ ap (λ ts. signed_terms b e' ++ ts) (ap (signed_terms (sign_behind o b)) (sym second) ∙ ap (λ c. signed_terms c f') (sym sign)))

pub pushed_negation : (b : Bool) (whole e e' : Expr) (old : List Term) → whole ≡ Neg e → e' ≡ e
    → old ++ signed_terms (not b) e' ≡ old ++ signed_terms b whole
pushed_negation b whole e e' old is inner =
    ap (λ ts. old ++ ts) (ap (signed_terms (not b)) inner ∙ sym (signed_neg b e) ∙ ap (signed_terms b) (sym is))
