-- That each text of a line is one line.
use Rattle.std.specs.Prelude.{ℕ, zero, suc, Bool, List, [], ◌++◌, codes, refl}
use Rattle.std.specs.Fmt.{decimal}
use Rattle.std.proofs.Common.{inl, inr, subst, sym}
use Rattle.kernel_code.specs.declared.syntax.Arr.{Arr}
use Rattle.kernel_code.specs.declared.syntax.Arr.TheVariants as array
use Rattle.kernel_code.specs.declared.syntax.KExpr.{KExpr, Num, Var, At', Len, Bin', Min', Width'}
use Rattle.kernel_code.specs.declared.syntax.KExpr.{Row_of-KExpr, end_of-KExpr, more_of-KExpr}
use Rattle.kernel_code.specs.declared.syntax.KStmt.{KStmt, Set, Combine, Put, AddTo, Push, Extend, Cut, Sort, SortSum, If', While'}
use Rattle.kernel_code.specs.declared.syntax.KernelSemiring.{KernelSemiring}
use Rattle.kernel_code.specs.declared.syntax.KernelSemiring.TheVariants.{Ring, Named}
use Rattle.kernel_code.specs.declared.syntax.LoopKind.{LoopKind}
use Rattle.kernel_code.specs.declared.syntax.LoopKind.TheVariants as kind
use Rattle.kernel_code.specs.declared.syntax.Op.{Op}
use Rattle.kernel_code.specs.declared.syntax.Op.TheVariants as op
use Rattle.kernel_code.specs.declared.syntax.ValueOp.{ValueOp}
use Rattle.kernel_code.specs.declared.syntax.ValueOp.TheVariants as value_op
use Rattle.kernel_print.specs.ArrayNames.{HasWords, IsWord}
use Rattle.kernel_print.specs.ExprTexts.{BoxedHasWords, ExprHasWords}
use Rattle.kernel_print.specs.Text.{array_text, boxed_text, combining_text, expr_text, head_text, indentation, kind_text}
use Rattle.kernel_print.specs.Text.{operator_text, statement_text}
use Rattle.kernel_read.specs.Heads.{list_line, workspace_line}
use Rattle.kernel_read.specs.Kernels.{IsKnown}
use Rattle.kernel_read.specs.Lines.{IsLine, LineFits, inner_text, line_text}
use Rattle.kernel_read.specs.Statements.{IsSimple}
use Rattle.kernel_read.specs.declared.lines.Line.{Line}
use Rattle.kernel_read.specs.declared.lines.Line.TheVariants as a
use Rattle.kernel_read.proofs.LineCuts.{Feedless, OneLine, feedless, line_after, no_feed_append, number_no_feed}

-- a number between texts
numbered : (n : ℕ) {after : List ℕ} → IsWord n → Feedless after → Feedless (decimal n ++ after)
numbered n word none = no_feed_append (number_no_feed n word) none

level_no_feed : (n level : ℕ) (after : List ℕ) → IsWord n × IsWord level → Feedless after
    → Feedless (codes "T" ++ (decimal n ++ (codes "_" ++ (decimal level ++ after))))
level_no_feed n level after words none =
    no_feed_append (feedless (codes "T") refl) (numbered n words.0 (no_feed_append (feedless (codes "_") refl)
    (numbered level words.1 none)))

array_no_feed : (x : Arr) → HasWords x → Feedless (array_text x)
array_no_feed array.Range words = feedless (codes "range") refl
array_no_feed (array.Values n) words = no_feed_append (feedless (codes "T") refl) (numbered n words (feedless (codes "_val") refl))
array_no_feed (array.Dimension n level) words = level_no_feed n level (codes "_dim") words (feedless (codes "_dim") refl)
array_no_feed (array.Ends n level) words = level_no_feed n level (codes "_pos") words (feedless (codes "_pos") refl)
array_no_feed (array.Coordinates n level) words = level_no_feed n level (codes "_crd") words (feedless (codes "_crd") refl)
array_no_feed (array.Width n level) words = level_no_feed n level (codes "_wid") words (feedless (codes "_wid") refl)
array_no_feed (array.Key n key) words =
    no_feed_append (feedless (codes "w") refl) (numbered n words.0 (no_feed_append (feedless (codes "_key") refl)
    (number_no_feed key words.1)))
array_no_feed (array.Sums n) words = no_feed_append (feedless (codes "w") refl) (numbered n words (feedless (codes "_val") refl))
array_no_feed (array.ListCoordinates n) words =
    no_feed_append (feedless (codes "g") refl) (numbered n words (feedless (codes "_crd") refl))
array_no_feed (array.ListPositions n) words =
    no_feed_append (feedless (codes "g") refl) (numbered n words (feedless (codes "_pos") refl))

operator_no_feed : (o : Op) → Feedless (operator_text o)
operator_no_feed op.Add = feedless (codes " + ") refl
operator_no_feed op.Sub = feedless (codes " - ") refl
operator_no_feed op.Mul = feedless (codes " * ") refl
operator_no_feed op.BitAnd = feedless (codes " & ") refl
operator_no_feed op.Less = feedless (codes " < ") refl
operator_no_feed op.Equal = feedless (codes " == ") refl
operator_no_feed op.NotEqual = feedless (codes " != ") refl
operator_no_feed op.And = feedless (codes " && ") refl
operator_no_feed op.Or = feedless (codes " || ") refl

mutual
  expr_no_feed : (e : KExpr) → ExprHasWords e → Feedless (expr_text e)
  expr_no_feed (Num n) words = number_no_feed n words
  expr_no_feed (Var x) words = no_feed_append (feedless (codes "x") refl) (number_no_feed x words)
  expr_no_feed (At' x p i) words =
      no_feed_append (array_no_feed x words.0) (no_feed_append (feedless (codes "[") refl)
      (no_feed_append (boxed_no_feed i words.1) (feedless (codes "]") refl)))
  expr_no_feed (Len x) words =
      no_feed_append (feedless (codes "len(") refl) (no_feed_append (array_no_feed x words) (feedless (codes ")") refl))
  expr_no_feed (Bin' o p x q y) words =
      no_feed_append (feedless (codes "(") refl) (no_feed_append (boxed_no_feed x words.0)
      (no_feed_append (operator_no_feed o) (no_feed_append (boxed_no_feed y words.1) (feedless (codes ")") refl))))
  expr_no_feed (Min' p x q y) words =
      no_feed_append (feedless (codes "min(") refl) (no_feed_append (boxed_no_feed x words.0)
      (no_feed_append (feedless (codes ", ") refl) (no_feed_append (boxed_no_feed y words.1) (feedless (codes ")") refl))))
  expr_no_feed (Width' p e) words =
      no_feed_append (feedless (codes "width(") refl) (no_feed_append (boxed_no_feed e words) (feedless (codes ")") refl))

  boxed_no_feed : {m : _} (row : Row_of-KExpr m) → BoxedHasWords row → Feedless (boxed_text row)
  boxed_no_feed end_of-KExpr words = feedless [] refl
  boxed_no_feed (more_of-KExpr e rest) words = expr_no_feed e words

combining_no_feed : (o : ValueOp) → Feedless (combining_text o)
combining_no_feed value_op.Plus = feedless (codes " = plus(") refl
combining_no_feed value_op.Times = feedless (codes " = times(") refl

-- an expression before the end of a line
ended : (e : KExpr) {end : List ℕ} → ExprHasWords e → OneLine end → OneLine (expr_text e ++ end)
ended e words line = line_after (expr_no_feed e words) line

by_bytes : (text : List ℕ) → Feedless text → OneLine (text ++ codes "\n")
by_bytes text none = line_after none (record { is = refl })

semicolon : OneLine (codes ";\n")
semicolon = by_bytes (codes ";") (feedless (codes ";") refl)

bracket : OneLine (codes ");\n")
bracket = by_bytes (codes ");") (feedless (codes ");") refl)

brace : OneLine (codes " {\n")
brace = by_bytes (codes " {") (feedless (codes " {") refl)

pub closing_brace : OneLine (codes "}\n")
closing_brace = by_bytes (codes "}") (feedless (codes "}") refl)

else_line : OneLine (codes "} else {\n")
else_line = by_bytes (codes "} else {") (feedless (codes "} else {") refl)

behind_comma : (e : KExpr) {end : List ℕ} → ExprHasWords e → OneLine end → OneLine (codes ", " ++ (expr_text e ++ end))
behind_comma e words line = line_after (feedless (codes ", ") refl) (ended e words line)

simple_line : (combines : Bool) (s : KStmt) → IsSimple combines s → OneLine (statement_text 0 s)
simple_line combines (Set x e) fits =
    line_after (feedless (codes "x") refl) (line_after (number_no_feed x fits.0) (line_after (feedless (codes " = ") refl)
    (ended e fits.1 semicolon)))
simple_line combines (Combine x o e f) fits =
    line_after (feedless (codes "x") refl) (line_after (number_no_feed x fits.1.0) (line_after (combining_no_feed o)
    (ended e fits.1.1.0 (behind_comma f fits.1.1.1 bracket))))
simple_line combines (Put x i e) fits =
    line_after (array_no_feed x fits.0) (line_after (feedless (codes "[") refl) (ended i fits.1.0
    (line_after (feedless (codes "] = ") refl) (ended e fits.1.1 semicolon))))
simple_line combines (AddTo x i e) fits =
    line_after (array_no_feed x fits.0) (line_after (feedless (codes "[") refl) (ended i fits.1.0
    (line_after (feedless (codes "] += ") refl) (ended e fits.1.1 semicolon))))
simple_line combines (Push x e) fits =
    line_after (feedless (codes "push(") refl) (line_after (array_no_feed x fits.0) (behind_comma e fits.1 bracket))
simple_line combines (Extend x n e) fits =
    line_after (feedless (codes "extend(") refl) (line_after (array_no_feed x fits.0)
    (line_after (feedless (codes ", ") refl) (ended n fits.1.0 (behind_comma e fits.1.1 bracket))))
simple_line combines (Cut x e) fits =
    line_after (feedless (codes "cut(") refl) (line_after (array_no_feed x fits.0) (behind_comma e fits.1 bracket))
simple_line combines (Sort g) fits = line_after (feedless (codes "sort(g") refl) (line_after (number_no_feed g fits) bracket)
simple_line combines (SortSum w) fits = line_after (feedless (codes "sort_sum(w") refl) (line_after (number_no_feed w fits) bracket)
simple_line combines (If' e p first q second) fits = absurd fits
simple_line combines (While' k e p body) fits = absurd fits

kind_no_feed : (k : LoopKind) → Feedless (kind_text k)
kind_no_feed kind.Merge = feedless (codes "merge") refl
kind_no_feed kind.Skip = feedless (codes "skip") refl
kind_no_feed kind.Gather = feedless (codes "gather") refl
kind_no_feed kind.Drain = feedless (codes "drain") refl
kind_no_feed kind.Probe = feedless (codes "probe") refl

pub if_line : (e : KExpr) → ExprHasWords e → OneLine (codes "if " ++ (expr_text e ++ codes " {\n"))
if_line e words = line_after (feedless (codes "if ") refl) (ended e words brace)

pub loop_line : (k : LoopKind) (e : KExpr) → ExprHasWords e
    → OneLine (codes "while " ++ (kind_text k ++ (codes " " ++ (expr_text e ++ codes " {\n"))))
loop_line k e words =
    line_after (feedless (codes "while ") refl) (line_after (kind_no_feed k) (line_after (feedless (codes " ") refl) (ended e words brace)))

blanks_no_feed : (depth : ℕ) → Feedless (indentation depth)
blanks_no_feed zero = feedless [] refl
blanks_no_feed (suc depth) = no_feed_append (feedless (codes "  ") refl) (blanks_no_feed depth)

inner_line : (combines : Bool) (x : Line) → LineFits combines x → OneLine (inner_text x)
inner_line combines (a.Whole s) fits = line_after (feedless (codes "  ") refl) (simple_line combines s fits)
inner_line combines (a.If e) fits = line_after (feedless (codes "  ") refl) (if_line e fits)
inner_line combines (a.While k e) fits = line_after (feedless (codes "  ") refl) (loop_line k e fits)
inner_line combines a.Else fits = else_line
inner_line combines a.Close fits = closing_brace

pub is_line : (combines : Bool) (outer : ℕ) (x : Line) → LineFits combines x → IsLine (line_text outer x)
is_line combines outer x fits = (line_after (blanks_no_feed outer) (inner_line combines x fits)).is

pub workspace_is_line : (n keys : ℕ) → IsWord n → IsWord keys → IsLine (workspace_line n keys)
workspace_is_line n keys word word' =
    (line_after (feedless (codes "  workspace w") refl) (line_after (number_no_feed n word) (line_after (feedless (codes " ") refl)
    (line_after (number_no_feed keys word') semicolon)))).is

pub list_is_line : (n : ℕ) → IsWord n → IsLine (list_line n)
list_is_line n word = (line_after (feedless (codes "  scratch g") refl) (line_after (number_no_feed n word) semicolon)).is

pub head_is_line : (semiring : KernelSemiring) → IsKnown semiring → IsLine (head_text semiring)
head_is_line Ring known = (by_bytes (codes "kernel {") (feedless (codes "kernel {") refl)).is
head_is_line (Named name) (inl known) =
    subst (λ (n : List ℕ). IsLine (head_text (Named n))) (sym known)
    (by_bytes (codes "kernel minplus {") (feedless (codes "kernel minplus {") refl)).is
head_is_line (Named name) (inr known) =
    subst (λ (n : List ℕ). IsLine (head_text (Named n))) (sym known)
    (by_bytes (codes "kernel bits {") (feedless (codes "kernel bits {") refl)).is
