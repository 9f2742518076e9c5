-- An expression has some term and some piece.
use Rattle.std.specs.Prelude.{ℕ, ◌+◌, nat_eq, Bool, true, false, if◌then◌else◌, List, [], ◌∷◌, ◌++◌, map}
use Rattle.std.proofs.Common.{sym, subst}
use denote.Hole.Carrier.{hidden}
use Rattle.lists.specs.Each.{Each}
use Rattle.lists.proofs.Each.{each_append}
use Rattle.index_notation.specs.declared.operator.Operator.{Operator}
use Rattle.index_notation.specs.declared.operator.Operator.TheVariants as op
use Rattle.index_notation.specs.declared.syntax.Expr.{Expr, map-Expr, Num, Access as AccessOf, Binary, Neg}
use Rattle.index_notation.specs.declared.syntax.Expr.TheVariants.{rolls-Num, rolls-Access, rolls-Binary, rolls-Neg}
use Rattle.index_notation.specs.declared.syntax.Expr.TheBlock.{hidden-the_row-Expr-0}
use Rattle.index_notation.specs.declared.syntax.Expr.TheFolds.{ind-Expr}
use Rattle.index_notation.specs.declared.syntax.Expr.TheViews.{roll-Expr}
use Rattle.index_notation.specs.declared.syntax.Expr.TheOpen as view
use Rattle.index_notation.specs.declared.syntax.NestedSum.{NestedSum}
use Rattle.index_notation.specs.declared.syntax.Statement.{Statement}
use Rattle.expr_terms.specs.Nested.{flat}
use Rattle.expr_terms.specs.Terms.{terms, terms_of_sides, negated_term, own_variables}
use Rattle.expr_terms.specs.declared.term.Term.{Term}
use Rattle.expr_terms.proofs.Equations.{terms_binary, terms_neg}
use Rattle.nested_sums.specs.Multiplied.{cut_piece, cut_pieces, pieces_of_terms}
use Rattle.nested_sums.specs.Pieces.{Piece, Opened, whole_piece, negated_piece}
use Rattle.nested_sums.specs.Pieces.{summed_piece, piece_product, piece_products, pieces_of_sides}
use Rattle.nested_sums.specs.Pieces.{pieces_at, is_whole, pieces, opened_sum, opened_sums}
use Rattle.nested_sums.proofs.PieceEquations.{pieces_binary, pieces_neg}

abbrev pub HasSome : {A : Type 0} → List A → Type 0
HasSome [] = ⊥
HasSome (x ∷ xs) = Unit {0}

some_first : {A : Type 0} (xs ys : List A) → HasSome xs → HasSome (xs ++ ys)
some_first [] ys h = absurd h
some_first (x ∷ xs) ys h = tt

pub some_map : {A B : Type 0} (f : A → B) (xs : List A) → HasSome xs → HasSome (map f xs)
some_map f [] h = absurd h
some_map f (x ∷ xs) h = tt

some_products : (ps qs : List Piece) → HasSome ps → HasSome qs → HasSome (piece_products ps qs)
some_products [] qs h g = absurd h
some_products (p ∷ ps) qs h g = some_first (map (piece_product p) qs) (piece_products ps qs) (some_map (piece_product p) qs g)

some_sides : (o : Operator) (ps qs : List Piece) → HasSome ps → HasSome qs → HasSome (pieces_of_sides o ps qs)
some_sides op.Add ps qs h g = some_first ps qs h
some_sides op.Sub ps qs h g = some_first ps (map negated_piece qs) h
some_sides op.Mul ps qs h g = some_products ps qs h g

some_term_sides : (o : Operator) (whole : Expr) (ts us : List Term) → HasSome ts → HasSome (terms_of_sides o whole ts us)
some_term_sides op.Add whole ts us h = some_first ts us h
some_term_sides op.Sub whole ts us h = some_first ts (map negated_term us) h
some_term_sides op.Mul whole ts us h = tt

-- of an expression, whatever was opened
pub record HasParts (opened : List Opened) (e : Expr) : Type 0 where
  pub terms_some : HasSome (terms e)
  pub pieces_some : HasSome (pieces opened e)

module _ (opened : List Opened) (each : Each (λ (o : Opened). HasSome o.pieces) opened) where
  some_at : (os : List Opened) (k : ℕ) → Each (λ (o : Opened). HasSome o.pieces) os → HasSome (pieces_at os k)
  some_at [] k h = tt
  some_at (o ∷ os) k h = by (nat_eq o.leaf k) (some_at os k h.1)
    where
      by : (b : Bool) → HasSome (pieces_at os k) → HasSome (if b then o.pieces else pieces_at os k)
      by true rest = h.0
      by false rest = rest

  either_some : (b : Bool) (p : Piece) (ps : List Piece) → HasSome ps → HasSome (if b then p ∷ [] else ps)
  either_some true p ps h = tt
  either_some false p ps h = h

  number_has : (n : _) → HasParts opened (Num n)
  unfolding hidden-the_row-Expr-0 hidden
  number_has n = record { terms_some = tt; pieces_some = tt }

  access_has : (k : _) → HasParts opened (AccessOf k)
  unfolding hidden-the_row-Expr-0 hidden
  access_has k = record { terms_some = tt; pieces_some = some_at opened k each }

  binary_has : (o : Operator) (e f : Expr) → HasParts opened e → HasParts opened f → HasParts opened (Binary o e f)
  binary_has o e f h g = record {
    terms_some = subst HasSome (sym (terms_binary o e f)) (some_term_sides o (Binary o e f) (terms e) (terms f) h.terms_some);
    pieces_some = subst HasSome (sym (pieces_binary opened o e f))
        (either_some (is_whole opened (Binary o e f)) (whole_piece (Binary o e f)) (pieces_of_sides o (pieces opened e) (pieces opened f))
        (some_sides o (pieces opened e) (pieces opened f) h.pieces_some g.pieces_some));
  }

  negation_has : (e : Expr) → HasParts opened e → HasParts opened (Neg e)
  negation_has e h = record {
    terms_some = subst HasSome (sym (terms_neg e)) (some_map negated_term (terms e) h.terms_some);
    pieces_some = subst HasSome (sym (pieces_neg opened e))
        (either_some (is_whole opened (Neg e)) (whole_piece (Neg e)) (map negated_piece (pieces opened e))
        (some_map negated_piece (pieces opened e) h.pieces_some));
  }

  layer_has : (y : view.Expr-F ((e : Expr) × HasParts opened e))
      → HasParts opened (roll-Expr (map-Expr ((e : Expr) × HasParts opened e) Expr (λ e. e.0) y))
  layer_has (view.Num n) = subst (HasParts opened) (sym (rolls-Num n)) (number_has n)
  layer_has (view.Access k) = subst (HasParts opened) (sym (rolls-Access k)) (access_has k)
  layer_has (view.Binary o e f) = subst (HasParts opened) (sym (rolls-Binary o e.0 f.0)) (binary_has o e.0 f.0 e.1 f.1)
  layer_has (view.Neg e) = subst (HasParts opened) (sym (rolls-Neg e.0)) (negation_has e.0 e.1)

  pub has_parts : (e : Expr) → HasParts opened e
  has_parts = ind-Expr (HasParts opened) (λ x y is. subst (λ z. HasParts opened (roll-Expr z)) is (layer_has y))

pub some_opened : (is_inner : ℕ → Bool) (count n : ℕ) (opened : List Opened) (sums : List NestedSum)
    → Each (λ (o : Opened). HasSome o.pieces) opened → Each (λ (o : Opened). HasSome o.pieces) (opened_sums is_inner count n opened sums)
some_opened is_inner count n opened [] each = each
some_opened is_inner count n opened (sum ∷ sums) each =
    some_opened is_inner count (n + 1) (if is_inner n then opened else (opened ++ (opened_sum opened (count + n) sum ∷ []))) sums
    (by (is_inner n))
  where
    by : (b : Bool) → Each (λ (o : Opened). HasSome o.pieces) (if b then opened else (opened ++ (opened_sum opened (count + n) sum ∷ [])))
    by true = each
    by false = each_append (λ (o : Opened). HasSome o.pieces) opened (opened_sum opened (count + n) sum ∷ []) each
        (some_map (summed_piece sum.var) (pieces opened sum.inside) (has_parts opened each sum.inside).pieces_some, tt)

some_cut : (b : Bool) (own : List ℕ) (ps : List Piece) → HasSome ps → HasSome (cut_pieces b own ps)
some_cut b own [] h = absurd h
some_cut b own (p ∷ ps) h =
    some_first (map (cut_piece b own p) (terms p.factors)) (cut_pieces b own ps)
    (some_map (cut_piece b own p) (terms p.factors) (has_parts [] tt p.factors).terms_some)

pub some_of_terms : (s : Statement) (opened : List Opened) → Each (λ (o : Opened). HasSome o.pieces) opened → (ts : List Term) → HasSome ts
    → HasSome (pieces_of_terms s opened ts)
some_of_terms s opened each [] h = absurd h
some_of_terms s opened each (t ∷ ts) h =
    some_first (cut_pieces t.negated (own_variables (flat s) t) (pieces opened t.expr)) (pieces_of_terms s opened ts)
    (some_cut t.negated (own_variables (flat s) t) (pieces opened t.expr) (has_parts opened each t.expr).pieces_some)
