use Rattle.std.specs.Prelude.{◌≡◌, ◌++◌, List, map, IfOk}
use Rattle.std.proofs.Common.{◌∙◌, sym, ap, subst}
use Rattle.nested_sums.specs.Pieces.{Piece, negated_piece}
use Rattle.nested_sums.proofs.PieceEquations.{binary_parts, neg_parts}
use Rattle.nested_sums.proofs.opening.+pieces_of.Goals as goal

pub returns-in_ok-second-in-Binary : goal.returns-in_ok-second-in-Binary
returns-in_ok-second-in-Binary t c =
    subst (λ (ps : List Piece). IfOk c.pieces_of_sides.result (λ list. list ≡ ps))
    (binary_parts c.args.opened.now c.args.expr.now c.in-Binary.operator c.in-Binary.first c.in-Binary.second _ _ _ _ c.in-Binary.is
    (sym c.is_whole.ensures ∙ c.if-is_whole.false) c.get.ensures c.get-in-Binary.ensures c.in_ok-first-in-Binary.ensures
    c.in_ok-second-in-Binary.ensures)
    c.pieces_of_sides.ensures

pub returns-in_ok-push_negated-in-Neg : goal.returns-in_ok-push_negated-in-Neg
returns-in_ok-push_negated-in-Neg t c =
    c.in_ok-push_negated-in-Neg.ensures ∙ ap (λ ps. ps ++ map negated_piece c.as_slice.result.now) c.new-list.ensures
    ∙ neg_parts c.args.opened.now c.args.expr.now c.in-Neg.inner c.get-in-Neg.result.now c.as_slice.result.now c.in-Neg.is
    (sym c.is_whole-in-Neg.ensures ∙ c.if-is_whole-2.false) c.get-in-Neg.ensures (c.as_slice.ensures ∙ c.in_ok-pieces-in-Neg.ensures)
