-- Pieces of expressions: where products are distributed over sums and differences, as far as sums that aren't inner stand in them,
-- each such sum is a whole piece or a factor of one, and what it sums over is then summed over with the whole piece.
use Rattle.std.specs.Prelude.{◌≡◌, ℕ, ◌+◌, nat_eq, Bool, true, false, not, ◌||◌, ◌&&◌, if◌then◌else◌}
use Rattle.std.specs.Prelude.{List, [], ◌∷◌, ◌++◌, map}
use Rattle.std.specs.List.{list_any}
use Rattle.index_notation.specs.declared.operator.Operator.{Operator}
use Rattle.index_notation.specs.declared.operator.Operator.TheVariants as op
use Rattle.index_notation.specs.declared.syntax.Expr.{Expr, Num, Access as AccessOf, Binary, Binary', Neg', Row_of-Expr, end_of-Expr}
use Rattle.index_notation.specs.declared.syntax.Expr.{more_of-Expr}
use Rattle.index_notation.specs.declared.syntax.NestedSum.{NestedSum}
use Rattle.index_notation.specs.declared.syntax.Statement.{Statement}
use Rattle.expr_terms.specs.Minus.{has_minus}
pub use Rattle.nested_sums.specs.declared.opening.Piece.{Piece}
pub use Rattle.nested_sums.specs.declared.opening.Opened.{Opened}

-- an expression as a whole
abbrev pub whole_piece : Expr → Piece
whole_piece e = record { negated = false; factors = e; over = [] }

abbrev pub negated_piece : Piece → Piece
negated_piece p = record { negated = not p.negated; factors = p.factors; over = p.over }

-- with one variable more that it is summed over
abbrev pub summed_piece : ℕ → Piece → Piece
summed_piece v p = record { negated = p.negated; factors = p.factors; over = v ∷ p.over }

-- the sign of a product
abbrev pub differ : Bool → Bool → Bool
differ b c = if b then not c else c

abbrev pub piece_product : Piece → Piece → Piece
piece_product p q = record {
  negated = differ p.negated q.negated;
  factors = Binary op.Mul p.factors q.factors;
  over = p.over ++ q.over;
}

-- each of the first with each of the second
abbrev pub piece_products : List Piece → List Piece → List Piece
piece_products [] qs = []
piece_products (p ∷ ps) qs = map (piece_product p) qs ++ piece_products ps qs

-- the pieces of an expression of two sides, by theirs
abbrev pub pieces_of_sides : Operator → List Piece → List Piece → List Piece
pieces_of_sides op.Add ps qs = ps ++ qs
pieces_of_sides op.Sub ps qs = ps ++ map negated_piece qs
pieces_of_sides op.Mul ps qs = piece_products ps qs

-- whether a sum was opened, by the number at which it stands in expressions
abbrev pub is_opened : List Opened → ℕ → Bool
is_opened opened k = list_any (λ o. nat_eq o.leaf k) opened

-- the pieces of an access, or of a sum that was opened
abbrev pub pieces_at : List Opened → ℕ → List Piece
pieces_at [] k = whole_piece (AccessOf k) ∷ []
pieces_at (o ∷ opened) k = if nat_eq o.leaf k then o.pieces else pieces_at opened k

abbrev mutual
  -- whether no opened sum stands in the expression
  pub is_whole : List Opened → Expr → Bool
  is_whole opened (Num n) = true
  is_whole opened (AccessOf k) = not (is_opened opened k)
  is_whole opened (Binary' o p e q f) = is_whole_in opened e && is_whole_in opened f
  is_whole opened (Neg' p e) = is_whole_in opened e

  -- the same of the one expression in a box
  pub is_whole_in : {m : _} → List Opened → Row_of-Expr m → Bool
  is_whole_in opened end_of-Expr = true
  is_whole_in opened (more_of-Expr e rest) = is_whole opened e

abbrev mutual
  -- the pieces of an expression: it is one where no opened sum stands in it
  pub pieces : List Opened → Expr → List Piece
  pieces opened (Num n) = whole_piece (Num n) ∷ []
  pieces opened (AccessOf k) = pieces_at opened k
  pieces opened (Binary' o p e q f) =
      if is_whole_in opened e && is_whole_in opened f then whole_piece (Binary' o p e q f) ∷ []
      else pieces_of_sides o (pieces_in opened e) (pieces_in opened f)
  pieces opened (Neg' p e) =
      if is_whole_in opened e then whole_piece (Neg' p e) ∷ [] else map negated_piece (pieces_in opened e)

  -- the same of the one expression in a box
  pub pieces_in : {m : _} → List Opened → Row_of-Expr m → List Piece
  pieces_in opened end_of-Expr = []
  pieces_in opened (more_of-Expr e rest) = pieces opened e

-- a sum that is opened: the pieces of its inside, summed over its variable too
abbrev pub opened_sum : List Opened → ℕ → NestedSum → Opened
opened_sum opened leaf sum = record { leaf = leaf; pieces = map (summed_piece sum.var) (pieces opened sum.inside) }

-- the sums from the n-th on that aren't inner, opened one after another; sums stand in expressions behind so many accesses
abbrev pub opened_sums : (ℕ → Bool) → ℕ → ℕ → List Opened → List NestedSum → List Opened
opened_sums is_inner count n opened [] = opened
opened_sums is_inner count n opened (sum ∷ sums) =
    opened_sums is_inner count (n + 1)
    (if is_inner n then opened else (opened ++ (opened_sum opened (count + n) sum ∷ []))) sums

-- whether a minus stands in a statement, inside of its sums too
abbrev pub has_minus_with_sums : Statement → Bool
has_minus_with_sums s = has_minus s.expr || list_any (λ (sum : NestedSum). has_minus sum.inside) s.sums

-- where there is no minus, none stands in the statement
abbrev pub HasMeaningWithSums : Bool → Statement → Type 0
HasMeaningWithSums true s = Unit {0}
HasMeaningWithSums false s = has_minus_with_sums s ≡ false

abbrev mutual
  -- every sum that stands in an expression is inner; sums stand behind so many accesses
  pub AreInner : (ℕ → Bool) → ℕ → Expr → Type 0
  AreInner is_inner count (Num n) = Unit {0}
  AreInner is_inner count (AccessOf k) = (n : ℕ) → k ≡ count + n → is_inner n ≡ true
  AreInner is_inner count (Binary' o p e q f) = AreInner_in is_inner count e × AreInner_in is_inner count f
  AreInner is_inner count (Neg' p e) = AreInner_in is_inner count e

  -- the same of the one expression in a box
  pub AreInner_in : {m : _} → (ℕ → Bool) → ℕ → Row_of-Expr m → Type 0
  AreInner_in is_inner count end_of-Expr = Unit {0}
  AreInner_in is_inner count (more_of-Expr e rest) = AreInner is_inner count e
