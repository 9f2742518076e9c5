use Rattle.std.specs.Prelude.{ℕ, List, ◌++◌, codes}
use Rattle.std.proofs.Common.{ap}
use Rattle.kernel_print.specs.Text.{expr_text}
use Rattle.text_lines.proofs.PutPieces.{then_printed, refused, retold}
use Rattle.kernel_print.proofs.statements.put_loop_head.Goals as goal

pub returns-in_err-put_all : goal.returns-in_err-put_all
returns-in_err-put_all g c =
    refused c.from_residual.result c.in_err-put_all.field-0.0 _ _ _ _ c.from_residual.ensures.1 c.in_err-put_all.ensures.part

pub returns-in_err-put_all-2 : goal.returns-in_err-put_all-2
returns-in_err-put_all-2 g c =
    let test : List ℕ = codes " " ++ (expr_text c.args.e.now ++ codes " {\n") in
    let r = c.from_residual-in_err-put_all-2 in
    retold _ _ _ _ _ (ap (λ (k : List ℕ). codes "while " ++ (k ++ test)) c.kind_word.ensures)
    (then_printed _ _ _ _ (codes "while ") (c.kind_word.result.now ++ test) c.in_ok-put_all.ensures.whole
    (refused r.result c.in_err-put_all-2.field-0.0 _ _ c.kind_word.result.now test r.ensures.1 c.in_err-put_all-2.ensures.part))

pub returns : goal.returns
returns g c =
    let test : List ℕ = codes " " ++ (expr_text c.args.e.now ++ codes " {\n") in
    retold _ _ _ _ _ (ap (λ (k : List ℕ). codes "while " ++ (k ++ test)) c.kind_word.ensures)
    (then_printed _ _ _ _ (codes "while ") (c.kind_word.result.now ++ test) c.in_ok-put_all.ensures.whole
    (then_printed _ _ _ _ c.kind_word.result.now test c.in_ok-put_all-2.ensures.whole c.put_one.ensures))
