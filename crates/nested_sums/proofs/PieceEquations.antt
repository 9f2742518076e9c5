-- What the definitions of pieces say of an expression that is made of its parts.
use Rattle.std.specs.Prelude.{◌≡◌, Bool, true, false, ◌&&◌, if◌then◌else◌, List, [], ◌∷◌, map, refl}
use Rattle.std.proofs.Common.{◌∙◌, sym, ap}
use denote.Hole.Carrier.{hidden}
use Rattle.index_notation.specs.declared.operator.Operator.{Operator}
use Rattle.index_notation.specs.declared.syntax.Expr.{Expr, Binary, Neg}
use Rattle.index_notation.specs.declared.syntax.Expr.TheBlock.{hidden-the_row-Expr-0}
use Rattle.nested_sums.specs.Pieces.{Piece, Opened, whole_piece, negated_piece, pieces_of_sides, is_whole, pieces}

module _ (opened : List Opened) where
  pub whole_binary : (o : Operator) (e f : Expr) → is_whole opened (Binary o e f) ≡ (is_whole opened e && is_whole opened f)
  unfolding hidden-the_row-Expr-0 hidden
  whole_binary o e f = refl

  pub whole_neg : (e : Expr) → is_whole opened (Neg e) ≡ is_whole opened e
  unfolding hidden-the_row-Expr-0 hidden
  whole_neg e = refl

  pub pieces_binary : (o : Operator) (e f : Expr)
      → pieces opened (Binary o e f)
      ≡ (if is_whole opened (Binary o e f) then whole_piece (Binary o e f) ∷ [] else pieces_of_sides o (pieces opened e) (pieces opened f))
  unfolding hidden-the_row-Expr-0 hidden
  pieces_binary o e f = refl

  pub pieces_neg : (e : Expr)
      → pieces opened (Neg e) ≡ (if is_whole opened (Neg e) then whole_piece (Neg e) ∷ [] else map negated_piece (pieces opened e))
  unfolding hidden-the_row-Expr-0 hidden
  pieces_neg e = refl

  -- of an expression in which no opened sum stands
  pub binary_whole : (whole : Expr) (o : Operator) (e f : Expr) → whole ≡ Binary o e f → is_whole opened whole ≡ true
      → (whole_piece whole ∷ []) ≡ pieces opened whole
  binary_whole whole o e f is test =
      let parts : List Piece = pieces_of_sides o (pieces opened e) (pieces opened f) in
      ap (λ x. whole_piece x ∷ []) is
      ∙ sym (ap (λ b. if b then whole_piece (Binary o e f) ∷ [] else parts) (sym (ap (is_whole opened) is) ∙ test))
      ∙ sym (pieces_binary o e f) ∙ ap (pieces opened) (sym is)

  pub neg_whole : (whole e : Expr) → whole ≡ Neg e → is_whole opened whole ≡ true → (whole_piece whole ∷ []) ≡ pieces opened whole
  neg_whole whole e is test =
      let parts : List Piece = map negated_piece (pieces opened e) in
      ap (λ x. whole_piece x ∷ []) is
      ∙ sym (ap (λ b. if b then whole_piece (Neg e) ∷ [] else parts) (sym (ap (is_whole opened) is) ∙ test))
      ∙ sym (pieces_neg e) ∙ ap (pieces opened) (sym is)

  -- and of one in which some do
  pub binary_parts : (whole : Expr) (o : Operator) (e f e' f' : Expr) (ps qs : List Piece) → whole ≡ Binary o e f
      → is_whole opened whole ≡ false → e' ≡ e → f' ≡ f → ps ≡ pieces opened e' → qs ≡ pieces opened f'
      → pieces_of_sides o ps qs ≡ pieces opened whole
  binary_parts whole o e f e' f' ps qs is test first second left right =
      let parts : List Piece = pieces_of_sides o (pieces opened e) (pieces opened f) in
      ap (λ xs. pieces_of_sides o xs qs) (left ∙ ap (pieces opened) first)
      ∙ ap (pieces_of_sides o (pieces opened e)) (right ∙ ap (pieces opened) second)
      ∙ sym (ap (λ b. if b then whole_piece (Binary o e f) ∷ [] else parts) (sym (ap (is_whole opened) is) ∙ test))
      ∙ sym (pieces_binary o e f) ∙ ap (pieces opened) (sym is)

  pub neg_parts : (whole e e' : Expr) (ps : List Piece) → whole ≡ Neg e → is_whole opened whole ≡ false → e' ≡ e → ps ≡ pieces opened e'
      → map negated_piece ps ≡ pieces opened whole
  neg_parts whole e e' ps is test inner told =
      let parts : List Piece = map negated_piece (pieces opened e) in
      ap (map negated_piece) (told ∙ ap (pieces opened) inner)
      ∙ sym (ap (λ b. if b then whole_piece (Neg e) ∷ [] else parts) (sym (ap (is_whole opened) is) ∙ test))
      ∙ sym (pieces_neg e) ∙ ap (pieces opened) (sym is)

-- both of two answers tell
pub not_first : (b x y : Bool) → b ≡ x → b ≡ false → b ≡ (x && y)
not_first b x y is told = told ∙ ap (λ z. z && y) (sym told ∙ is)

pub both_tell : (b c x y : Bool) → b ≡ x → b ≡ true → c ≡ y → c ≡ (x && y)
both_tell b c x y is told other = other ∙ ap (λ z. z && y) (sym told ∙ is)
