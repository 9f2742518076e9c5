-- What specs/Folded.antt says at an expression or a statement that is made of parts, one equation for each.
use Rattle.std.specs.Prelude.{◌≡◌, min, false, List, None}
use Rattle.std.proofs.Common.{subst, sym}
use denote.Hole.Carrier.{hidden}
use Rattle.numbers.specs.Arithmetic.{Arithmetic}
use Rattle.kernel_code.specs.declared.syntax.Arr.{Arr}
use Rattle.kernel_code.specs.declared.syntax.Op.{Op}
use Rattle.kernel_code.specs.declared.syntax.KExpr.{KExpr, At, Bin, Min, Width}
use Rattle.kernel_code.specs.declared.syntax.KExpr.TheBlock.{hidden-the_row-KExpr-0}
use Rattle.kernel_code.specs.declared.syntax.LoopKind.{LoopKind}
use Rattle.kernel_code.specs.declared.syntax.KStmt.{KStmt, If, While, Row_of-KStmt, end_of-KStmt, more_of-KStmt, items-the_row-KStmt}
use Rattle.kernel_code.specs.declared.syntax.KStmt.{items_hidden-the_row-KStmt-0}
use Rattle.kernel_code.specs.declared.syntax.KStmt.TheBlock.{hidden-the_row-KStmt-0}
use Rattle.kernel_code.specs.Meaning.{apply_each, apply_both, width_of}
use Rattle.simplifier.specs.Folded.{SimpleExpr, number_of, is_zero, FoldedStep, FoldedRow, FoldedCode}

pub simple_at : (a : Arr) (i : KExpr) → SimpleExpr i → SimpleExpr (At a i)
unfolding hidden-the_row-KExpr-0 hidden
simple_at a i h = record { folded = h.folded }

pub simple_bin : (o : Op) (a b : KExpr) → apply_both o (number_of a) (number_of b) ≡ None → SimpleExpr a → SimpleExpr b
    → SimpleExpr (Bin o a b)
unfolding hidden-the_row-KExpr-0 hidden
simple_bin o a b n h g = record { folded = (n, (h.folded, g.folded)) }

pub simple_min : (a b : KExpr) → apply_each min (number_of a) (number_of b) ≡ None → SimpleExpr a → SimpleExpr b → SimpleExpr (Min a b)
unfolding hidden-the_row-KExpr-0 hidden
simple_min a b n h g = record { folded = (n, (h.folded, g.folded)) }

pub simple_width : (e : KExpr) → width_of (number_of e) ≡ None → SimpleExpr e → SimpleExpr (Width e)
unfolding hidden-the_row-KExpr-0 hidden
simple_width e n h = record { folded = (n, h.folded) }

row_folded : {m : _} (a : Arithmetic) (row : Row_of-KStmt m) → FoldedCode a (items-the_row-KStmt m row) → FoldedRow a row
row_folded a end_of-KStmt h = tt
row_folded a (more_of-KStmt s rest) h = (h.0, row_folded a rest h.1)

held_folded : (a : Arithmetic) (body : List KStmt) → FoldedCode a body → FoldedRow a (hidden-the_row-KStmt-0 body)
held_folded a body h = row_folded a (hidden-the_row-KStmt-0 body) (subst (FoldedCode a) (sym (items_hidden-the_row-KStmt-0 body)) h)

pub folded_if : (a : Arithmetic) (e : KExpr) (first second : List KStmt) → number_of e ≡ None → SimpleExpr e → FoldedCode a first
    → FoldedCode a second → FoldedStep a (If e first second)
folded_if a e first second n h f g = (n, (h, (held_folded a first f, held_folded a second g)))

pub folded_while : (a : Arithmetic) (k : LoopKind) (e : KExpr) (body : List KStmt) → is_zero e ≡ false → SimpleExpr e → FoldedCode a body
    → FoldedStep a (While k e body)
folded_while a k e body n h f = (n, (h, held_folded a body f))
