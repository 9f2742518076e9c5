use Rattle.std.specs.Prelude.{◌≡◌, ℕ, suc, ◌+◌, List, ◌++◌, codes, drop}
use Rattle.std.proofs.Common.{◌∙◌, ap, sym}
use Rattle.std.proofs.lemmas.List.{drop_all}
use Rattle.kernel_code.specs.declared.syntax.KStmt.{KStmt}
use Rattle.kernel_print.specs.Text.{depth_of, expr_text, indentation, kind_text, statement_text, statements_text}
use Rattle.kernel_print.proofs.Equations.{block, if_text, while_text}
use Rattle.kernel_print.proofs.Loops.{none_so_far, more_so_far, all_so_far, rest_told, then_rest, statements_step}
use Rattle.text_lines.proofs.PutPieces.{printed, then_printed, refused, retold}
use Rattle.kernel_print.proofs.statements.+statements.Goals as goal

pub put_block-returns-in_err-put_statements : goal.put_block-returns-in_err-put_statements
put_block-returns-in_err-put_statements g t c =
    let depth = depth_of c.args.outer.now in
    refused c.from_residual.result c.in_err-put_statements.field-0.0 _ _ (statements_text (suc depth) c.args.body.now) (indentation depth
    ++ c.args.closing.now)
    c.from_residual.ensures.1 c.in_err-put_statements.ensures

pub put_block-returns-in_err-put_indentation : goal.put_block-returns-in_err-put_indentation
put_block-returns-in_err-put_indentation g t c =
    let depth = depth_of c.args.outer.now in
    let r = c.from_residual-in_err-put_indentation in
    then_printed _ _ _ _ (statements_text (suc depth) c.args.body.now) (indentation depth
    ++ c.args.closing.now) c.in_ok-put_statements.ensures
    (refused r.result c.in_err-put_indentation.field-0.0 _ _
    (indentation depth) c.args.closing.now r.ensures.1 c.in_err-put_indentation.ensures)

pub put_block-returns : goal.put_block-returns
put_block-returns g t c =
    let depth = depth_of c.args.outer.now in
    then_printed _ _ _ _ (statements_text (suc depth) c.args.body.now) (indentation depth
    ++ c.args.closing.now) c.in_ok-put_statements.ensures
    (then_printed _ _ _ _ (indentation depth) c.args.closing.now c.in_ok-put_indentation.ensures
    (printed _ _ _ _ c.put_all.ensures.whole c.put_all.ensures.part))

pub put_statement-returns-in_err-put_one-in-If : goal.put_statement-returns-in_err-put_one-in-If
put_statement-returns-in_err-put_one-in-If g t c =
    let depth = depth_of c.args.indent.now in
    let s = c.in-If in
    retold _ _ _ _ _ (sym (if_text depth s.e s.first s.second) ∙ ap (statement_text depth) (sym s.is))
    (refused c.from_residual.result c.in_err-put_one-in-If.field-0.0 _ _ (codes "if " ++ (expr_text s.e ++ codes " {\n"))
    (block depth s.first (codes "} else {\n") ++ block depth s.second (codes "}\n")) c.from_residual.ensures.1
    c.in_err-put_one-in-If.ensures)

pub put_statement-returns-in_err-put_block-in-If : goal.put_statement-returns-in_err-put_block-in-If
put_statement-returns-in_err-put_block-in-If g t c =
    let depth = depth_of c.args.indent.now in
    let s = c.in-If in
    let r = c.from_residual-in_err-put_block-in-If in
    let head : List ℕ = codes "if " ++ (expr_text s.e ++ codes " {\n") in
    let last : List ℕ = block depth s.second (codes "}\n") in
    let same : head ++ (block depth c.as_slice.result.now (codes "} else {\n") ++ last) ≡ statement_text depth c.args.s.now =
    ap (λ (b : List KStmt). head ++ (block depth b (codes "} else {\n") ++ last)) c.as_slice.ensures
    ∙ sym (if_text depth s.e s.first s.second) ∙ ap (statement_text depth) (sym s.is) in
    retold _ _ _ _ _ same
    (then_printed _ _ _ _ head (block depth c.as_slice.result.now (codes "} else {\n") ++ last) c.in_ok-put_one-in-If.ensures
    (refused r.result c.in_err-put_block-in-If.field-0.0 _ _
    (block depth c.as_slice.result.now (codes "} else {\n")) last r.ensures.1 c.in_err-put_block-in-If.ensures))

pub put_statement-returns-in_ok-put_block-in-If : goal.put_statement-returns-in_ok-put_block-in-If
put_statement-returns-in_ok-put_block-in-If g t c =
    let depth = depth_of c.args.indent.now in
    let s = c.in-If in
    let head : List ℕ = codes "if " ++ (expr_text s.e ++ codes " {\n") in
    let first : List ℕ = block depth c.as_slice.result.now (codes "} else {\n") in
    let last : List ℕ = block depth c.as_slice-in-If.result.now (codes "}\n") in
    let same : head ++ (first ++ last) ≡ statement_text depth c.args.s.now =
    ap (λ (b : List KStmt). head ++ (block depth b (codes "} else {\n") ++ last)) c.as_slice.ensures
    ∙ ap (λ (b : List KStmt). head ++ (block depth s.first (codes "} else {\n") ++ block depth b (codes "}\n"))) c.as_slice-in-If.ensures
    ∙ sym (if_text depth s.e s.first s.second) ∙ ap (statement_text depth) (sym s.is) in
    retold _ _ _ _ _ same
    (then_printed _ _ _ _ head (first
    ++ last) c.in_ok-put_one-in-If.ensures (then_printed _ _ _ _ first last c.in_ok-put_block-in-If.ensures c.put_block-in-If.ensures))

pub put_statement-returns-in_err-put_loop_head-in-While : goal.put_statement-returns-in_err-put_loop_head-in-While
put_statement-returns-in_err-put_loop_head-in-While g t c =
    let depth = depth_of c.args.indent.now in
    let s = c.in-While in
    let r = c.from_residual-in_err-put_loop_head-in-While in
    retold _ _ _ _ _ (sym (while_text depth s.kind s.e s.body) ∙ ap (statement_text depth) (sym s.is))
    (refused r.result c.in_err-put_loop_head-in-While.field-0.0 _ _ (codes "while "
    ++ (kind_text s.kind ++ (codes " " ++ (expr_text s.e ++ codes " {\n"))))
    (block depth s.body (codes "}\n")) r.ensures.1 c.in_err-put_loop_head-in-While.ensures)

pub put_statement-returns-in_ok-put_loop_head-in-While : goal.put_statement-returns-in_ok-put_loop_head-in-While
put_statement-returns-in_ok-put_loop_head-in-While g t c =
    let depth = depth_of c.args.indent.now in
    let s = c.in-While in
    let head : List ℕ = codes "while " ++ (kind_text s.kind ++ (codes " " ++ (expr_text s.e ++ codes " {\n"))) in
    let same : head ++ block depth c.as_slice-in-While.result.now (codes "}\n") ≡ statement_text depth c.args.s.now =
    ap (λ (b : List KStmt). head ++ block depth b (codes "}\n")) c.as_slice-in-While.ensures
    ∙ sym (while_text depth s.kind s.e s.body) ∙ ap (statement_text depth) (sym s.is) in
    retold _ _ _ _ _ same
    (then_printed _ _ _ _ head (block depth c.as_slice-in-While.result.now (codes "}\n")) c.in_ok-put_loop_head-in-While.ensures
    c.put_block-in-While.ensures)

pub put_statements-loop-s-init : goal.put_statements-loop-s-init
put_statements-loop-s-init g t c = none_so_far _ (statements_text (depth_of c.args.indent.now) c.args.statements.now)

pub put_statements-returns-in_err-put_indentation : goal.put_statements-returns-in_err-put_indentation
put_statements-returns-in_err-put_indentation g t c =
    let depth = depth_of c.args.indent.now in
    let ss = c.args.statements.now in
    let i : ℕ = c.loop-s.s-index in
    let s = c.s-item.result in
    then_rest _ _ _ _ _ _ (rest_told _ _ _ _ _ (statements_step depth ss i s c.loop-s-test.true c.s-item.is) c.loop-s.invariant)
    (refused c.from_residual.result c.in_err-put_indentation.field-0.0 _ _ (indentation depth) (statement_text depth s
    ++ statements_text depth (drop (i + 1) ss))
    c.from_residual.ensures.1 c.in_err-put_indentation.ensures)

pub put_statements-returns-in_err-put_statement : goal.put_statements-returns-in_err-put_statement
put_statements-returns-in_err-put_statement g t c =
    let depth = depth_of c.args.indent.now in
    let ss = c.args.statements.now in
    let i : ℕ = c.loop-s.s-index in
    let s = c.s-item.result in
    let r = c.from_residual-in_err-put_statement in
    then_rest _ _ _ _ _ _ (rest_told _ _ _ _ _ (statements_step depth ss i s c.loop-s-test.true c.s-item.is) c.loop-s.invariant)
    (then_printed _ _ _ _ (indentation depth) (statement_text depth s
    ++ statements_text depth (drop (i + 1) ss)) c.in_ok-put_indentation.ensures
    (refused r.result c.in_err-put_statement.field-0.0 _ _ (statement_text depth s)
    (statements_text depth (drop (i + 1) ss)) r.ensures.1 c.in_err-put_statement.ensures))

pub put_statements-loop-s-preserved : goal.put_statements-loop-s-preserved
put_statements-loop-s-preserved g t c =
    let depth = depth_of c.args.indent.now in
    let ss = c.args.statements.now in
    let i : ℕ = c.loop-s.s-index in
    let s = c.s-item.result in
    more_so_far _ _ _ _ (statement_text depth s) (statements_text depth (drop (i + 1) ss))
    (more_so_far _ _ _ _ (indentation depth) (statement_text depth s ++ statements_text depth (drop (i + 1) ss))
    (rest_told _ _ _ _ _ (statements_step depth ss i s c.loop-s-test.true c.s-item.is) c.loop-s.invariant)
    c.in_ok-put_indentation.ensures) c.in_ok-put_statement.ensures

pub put_statements-returns : goal.put_statements-returns
put_statements-returns g t c =
    let depth = depth_of c.args.indent.now in
    all_so_far _ _ _ _ (ap (statements_text depth) (drop_all c.loop-s.s-index c.args.statements.now c.loop-s-test.false)) c.loop-s.invariant
