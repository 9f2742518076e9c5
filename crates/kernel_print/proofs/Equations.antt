-- The texts of what is made of parts, one equation for each.
use Rattle.std.specs.Prelude.{◌≡◌, ℕ, suc, codes, List, ◌++◌, refl}
use Rattle.std.proofs.Common.{◌∙◌, ap, sym, append_assoc}
use denote.Hole.Carrier.{hidden}
use Rattle.kernel_code.specs.declared.syntax.Arr.{Arr}
use Rattle.kernel_code.specs.declared.syntax.LoopKind.{LoopKind}
use Rattle.kernel_code.specs.declared.syntax.Op.{Op}
use Rattle.kernel_code.specs.declared.syntax.KExpr.{KExpr, At, Bin, Min, Width}
use Rattle.kernel_code.specs.declared.syntax.KExpr.TheBlock.{hidden-the_row-KExpr-0}
use Rattle.kernel_code.specs.declared.syntax.KStmt.{KStmt, If, While, Row_of-KStmt, end_of-KStmt, more_of-KStmt, items-the_row-KStmt}
use Rattle.kernel_code.specs.declared.syntax.KStmt.{items_hidden-the_row-KStmt-0}
use Rattle.kernel_code.specs.declared.syntax.KStmt.TheBlock.{hidden-the_row-KStmt-0}
use Rattle.kernel_print.specs.Text.{array_text, operator_text, expr_text, indentation, kind_text, statement_text, row_text, statements_text}

pub at_text : (a : Arr) (i : KExpr) → expr_text (At a i) ≡ array_text a ++ (codes "[" ++ (expr_text i ++ codes "]"))
unfolding hidden-the_row-KExpr-0 hidden
at_text a i = refl

pub bin_text : (o : Op) (a b : KExpr)
    → expr_text (Bin o a b) ≡ (codes "(" ++ (expr_text a ++ operator_text o)) ++ (expr_text b ++ codes ")")
unfolding hidden-the_row-KExpr-0 hidden
bin_text o a b = ap (λ (t : List ℕ). codes "(" ++ t) (sym (append_assoc (expr_text a) (operator_text o) (expr_text b ++ codes ")")))

pub min_text : (a b : KExpr)
    → expr_text (Min a b) ≡ (codes "min(" ++ (expr_text a ++ codes ", ")) ++ (expr_text b ++ codes ")")
unfolding hidden-the_row-KExpr-0 hidden
min_text a b = ap (λ (t : List ℕ). codes "min(" ++ t) (sym (append_assoc (expr_text a) (codes ", ") (expr_text b ++ codes ")")))

pub width_text : (e : KExpr) → expr_text (Width e) ≡ codes "width(" ++ (expr_text e ++ codes ")")
unfolding hidden-the_row-KExpr-0 hidden
width_text e = refl

row_is_list : {m : _} (depth : ℕ) (row : Row_of-KStmt m) → row_text depth row ≡ statements_text depth (items-the_row-KStmt m row)
row_is_list depth end_of-KStmt = refl
row_is_list depth (more_of-KStmt s rest) = ap (λ (t : List ℕ). indentation depth ++ (statement_text depth s ++ t)) (row_is_list depth rest)

held_is_list : (depth : ℕ) (body : List KStmt) → row_text depth (hidden-the_row-KStmt-0 body) ≡ statements_text depth body
held_is_list depth body = row_is_list depth (hidden-the_row-KStmt-0 body) ∙ ap (statements_text depth) (items_hidden-the_row-KStmt-0 body)

-- a body in brackets and the line that closes it
abbrev pub block : ℕ → List KStmt → List ℕ → List ℕ
block depth body closing = statements_text (suc depth) body ++ (indentation depth ++ closing)

if_pieces : (e i a b : List ℕ)
    → codes "if " ++ (e ++ (codes " {\n" ++ (a ++ (i ++ (codes "} else {\n" ++ (b ++ (i ++ codes "}\n")))))))
    ≡ (codes "if " ++ (e ++ codes " {\n")) ++ ((a ++ (i ++ codes "} else {\n")) ++ (b ++ (i ++ codes "}\n")))
if_pieces e i a b = simp append_assoc

while_pieces : (k e i a : List ℕ)
    → codes "while " ++ (k ++ (codes " " ++ (e ++ (codes " {\n" ++ (a ++ (i ++ codes "}\n"))))))
    ≡ (codes "while " ++ (k ++ (codes " " ++ (e ++ codes " {\n")))) ++ (a ++ (i ++ codes "}\n"))
while_pieces k e i a = simp append_assoc

pub if_text : (depth : ℕ) (e : KExpr) (first second : List KStmt)
    → statement_text depth (If e first second)
    ≡ (codes "if " ++ (expr_text e ++ codes " {\n")) ++ (block depth first (codes "} else {\n") ++ block depth second (codes "}\n"))
if_text depth e first second =
    if_pieces (expr_text e) (indentation depth) (row_text (suc depth) (hidden-the_row-KStmt-0 first))
    (row_text (suc depth) (hidden-the_row-KStmt-0 second))
    ∙ ap (λ (a : List ℕ). (codes "if " ++ (expr_text e ++ codes " {\n")) ++ ((a ++ (indentation depth ++ codes "} else {\n"))
    ++ (row_text (suc depth) (hidden-the_row-KStmt-0 second) ++ (indentation depth ++ codes "}\n")))) (held_is_list (suc depth) first)
    ∙ ap (λ (b : List ℕ). (codes "if " ++ (expr_text e ++ codes " {\n"))
    ++ (block depth first (codes "} else {\n") ++ (b ++ (indentation depth ++ codes "}\n"))))
    (held_is_list (suc depth) second)

pub while_text : (depth : ℕ) (k : LoopKind) (e : KExpr) (body : List KStmt)
    → statement_text depth (While k e body)
    ≡ (codes "while " ++ (kind_text k ++ (codes " " ++ (expr_text e ++ codes " {\n")))) ++ block depth body (codes "}\n")
while_text depth k e body =
    while_pieces (kind_text k) (expr_text e) (indentation depth) (row_text (suc depth) (hidden-the_row-KStmt-0 body))
    ∙ ap (λ (a : List ℕ). (codes "while " ++ (kind_text k ++ (codes " " ++ (expr_text e ++ codes " {\n"))))
    ++ (a ++ (indentation depth ++ codes "}\n")))
    (held_is_list (suc depth) body)
