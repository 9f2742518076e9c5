-- What is so of an expression is so of its terms.
use Rattle.std.specs.Prelude.{◌≡◌, ℕ, true, ◌||◌, List, refl}
use Rattle.std.proofs.Common.{◌∙◌}
use Rattle.lists.specs.Each.{Each}
use Rattle.index_notation.specs.Operators.{is_minus}
use Rattle.index_notation.specs.Statement.{AccessesUnder, AccessesUnder_in}
use Rattle.index_notation.specs.declared.syntax.Expr.{Expr, Num, Access as AccessOf, Binary', Neg', Row_of-Expr, end_of-Expr, more_of-Expr}
use Rattle.expr_terms.specs.Minus.{has_minus, has_minus_in}
use Rattle.expr_terms.specs.Terms.{terms, terms_in, contains}
use Rattle.expr_terms.specs.declared.term.Term.{Term}
use Rattle.expr_terms.proofs.TermLaws.{each_of_sides, each_negated}
use Rattle.nested_sums.specs.Bound.{IsClear, IsClear_in, bound_in, bound_inside}
use Rattle.nested_sums.proofs.AddedPieces.{contains_append, or_first, or_second}
use Rattle.nested_sums.proofs.Leaves.{EachLeaf, EachLeaf_in}
use Rattle.nested_sums.proofs.Meaning.{Meaning}
use Rattle.nested_sums.proofs.PieceValues.{Squares}

module _ (m : Meaning) (bounds : List (List ℕ)) (n : ℕ) (outer : List ℕ) where
  -- no variable is bound and free in an expression, a minus has a meaning, and so many accesses and these bound variables are all of it
  pub record IsPart (e : Expr) : Type 0 where
    pub clear : IsClear m.accesses bounds e
    pub minus : has_minus e ≡ true → Squares m.a
    pub under : AccessesUnder n e
    pub bound : (v : ℕ) → contains (bound_in bounds e) v ≡ true → contains outer v ≡ true

  abbrev IsPartRow : {r : _} → Row_of-Expr r → Type 0
  IsPartRow e =
      IsClear_in m.accesses bounds e × (has_minus_in e ≡ true → Squares m.a) × AccessesUnder_in n e
      × ((v : ℕ) → contains (bound_inside bounds e) v ≡ true → contains outer v ≡ true)

  mutual
    pub parts : (e : Expr) → IsPart e → Each (λ (t : Term). IsPart t.expr) (terms e)
    parts (Num k) h = (h, tt)
    parts (AccessOf k) h = (h, tt)
    parts (Binary' o r e q f) h =
        each_of_sides (λ (t : Term). IsPart t.expr) (λ t k. k) o (Binary' o r e q f) (terms_in e) (terms_in f) h
        (parts_in e (
          h.clear.2,
          (λ g. h.minus (or_second (is_minus o) (has_minus_in e || has_minus_in f) (or_first (has_minus_in e) (has_minus_in f) g))),
          h.under.0,
          (λ v g. h.bound v (contains_append (bound_inside bounds e) (bound_inside bounds f) v
              ∙ or_first (contains (bound_inside bounds e) v) (contains (bound_inside bounds f) v) g)),
        ))
        (parts_in f (
          h.clear.3,
          (λ g. h.minus (or_second (is_minus o) (has_minus_in e || has_minus_in f) (or_second (has_minus_in e) (has_minus_in f) g))),
          h.under.1,
          (λ v g. h.bound v (contains_append (bound_inside bounds e) (bound_inside bounds f) v
              ∙ or_second (contains (bound_inside bounds e) v) (contains (bound_inside bounds f) v) g)),
        ))
    parts (Neg' r e) h =
        each_negated (λ (t : Term). IsPart t.expr) (λ t k. k) (terms_in e) (parts_in e (h.clear, (λ g. h.minus refl), h.under, h.bound))

    parts_in : {r : _} (e : Row_of-Expr r) → IsPartRow e → Each (λ (t : Term). IsPart t.expr) (terms_in e)
    parts_in end_of-Expr h = tt
    parts_in (more_of-Expr e rest) h = parts e (record { clear = h.0; minus = h.1; under = h.2; bound = h.3 })

module _ (Q : ℕ → Type 0) where
  mutual
    pub term_leaves : (e : Expr) → EachLeaf Q e → Each (λ (t : Term). EachLeaf Q t.expr) (terms e)
    term_leaves (Num k) h = (h, tt)
    term_leaves (AccessOf k) h = (h, tt)
    term_leaves (Binary' o r e q f) h =
        each_of_sides (λ (t : Term). EachLeaf Q t.expr) (λ t k. k) o (Binary' o r e q f) (terms_in e) (terms_in f) h
        (term_leaves_in e h.0) (term_leaves_in f h.1)
    term_leaves (Neg' r e) h =
        each_negated (λ (t : Term). EachLeaf Q t.expr) (λ t k. k) (terms_in e) (term_leaves_in e h)

    term_leaves_in : {r : _} (e : Row_of-Expr r) → EachLeaf_in Q e → Each (λ (t : Term). EachLeaf Q t.expr) (terms_in e)
    term_leaves_in end_of-Expr h = tt
    term_leaves_in (more_of-Expr e rest) h = term_leaves e h
