use Rattle.std.specs.Prelude.{◌≡◌, ℕ, List, ◌++◌, codes}
use Rattle.std.proofs.Common.{◌∙◌, ap, sym}
use Rattle.kernel_print.specs.Text.{array_text, expr_text, operator_text}
use Rattle.kernel_print.proofs.Equations.{at_text, bin_text, min_text, width_text}
use Rattle.text_lines.proofs.PutPieces.{printed, then_printed, refused, retold}
use Rattle.kernel_print.proofs.exprs.+exprs.Goals as goal

pub put_expr-returns-in-At : goal.put_expr-returns-in-At
put_expr-returns-in-At g t c =
    let same : array_text c.in-At.a ++ (codes "[" ++ (expr_text c.get.result.now ++ codes "]")) ≡ expr_text c.args.e.now =
    ap (λ e. array_text c.in-At.a ++ (codes "[" ++ (expr_text e ++ codes "]"))) c.get.ensures ∙ sym (at_text c.in-At.a c.in-At.i)
    ∙ ap expr_text (sym c.in-At.is) in
    retold _ _ _ _ _ same c.put_word.ensures

pub put_expr-returns-in_err-put_one-in-Bin : goal.put_expr-returns-in_err-put_one-in-Bin
put_expr-returns-in_err-put_one-in-Bin g t c =
    let first : List ℕ = codes "(" ++ (expr_text c.get-in-Bin.result.now ++ c.operator.result.now) in
    let rest : List ℕ = expr_text c.in-Bin.b ++ codes ")" in
    let same : first ++ rest ≡ expr_text c.args.e.now =
    ap (λ e. (codes "(" ++ (expr_text e ++ c.operator.result.now)) ++ rest) c.get-in-Bin.ensures
    ∙ ap (λ (o : List ℕ). (codes "(" ++ (expr_text c.in-Bin.a ++ o)) ++ rest) c.operator.ensures
    ∙ sym (bin_text c.in-Bin.op c.in-Bin.a c.in-Bin.b) ∙ ap expr_text (sym c.in-Bin.is) in
    retold _ _ _ _ _ same
    (refused c.from_residual.result c.in_err-put_one-in-Bin.field-0.0 _ _ first rest c.from_residual.ensures.1
    c.in_err-put_one-in-Bin.ensures)

pub put_expr-returns-in_ok-put_one-in-Bin : goal.put_expr-returns-in_ok-put_one-in-Bin
put_expr-returns-in_ok-put_one-in-Bin g t c =
    let first : List ℕ = codes "(" ++ (expr_text c.get-in-Bin.result.now ++ c.operator.result.now) in
    let second : List ℕ = expr_text c.get-in-Bin-2.result.now ++ codes ")" in
    let same : first ++ second ≡ expr_text c.args.e.now =
    ap (λ e. (codes "(" ++ (expr_text e ++ c.operator.result.now)) ++ second) c.get-in-Bin.ensures
    ∙ ap (λ (o : List ℕ). (codes "(" ++ (expr_text c.in-Bin.a ++ o)) ++ second) c.operator.ensures
    ∙ ap (λ e. (codes "(" ++ (expr_text c.in-Bin.a ++ operator_text c.in-Bin.op)) ++ (expr_text e ++ codes ")")) c.get-in-Bin-2.ensures
    ∙ sym (bin_text c.in-Bin.op c.in-Bin.a c.in-Bin.b) ∙ ap expr_text (sym c.in-Bin.is) in
    retold _ _ _ _ _ same (then_printed _ _ _ _ first second c.in_ok-put_one-in-Bin.ensures c.put_one-in-Bin.ensures)

pub put_expr-returns-in_err-put_one-in-Min : goal.put_expr-returns-in_err-put_one-in-Min
put_expr-returns-in_err-put_one-in-Min g t c =
    let first : List ℕ = codes "min(" ++ (expr_text c.get-in-Min.result.now ++ codes ", ") in
    let rest : List ℕ = expr_text c.in-Min.b ++ codes ")" in
    let same : first ++ rest ≡ expr_text c.args.e.now =
    ap (λ e. (codes "min(" ++ (expr_text e ++ codes ", ")) ++ rest) c.get-in-Min.ensures
    ∙ sym (min_text c.in-Min.a c.in-Min.b) ∙ ap expr_text (sym c.in-Min.is) in
    retold _ _ _ _ _ same
    (refused c.from_residual-in_err-put_one-in-Min.result c.in_err-put_one-in-Min.field-0.0 _ _ first rest
    c.from_residual-in_err-put_one-in-Min.ensures.1 c.in_err-put_one-in-Min.ensures)

pub put_expr-returns-in_ok-put_one-in-Min : goal.put_expr-returns-in_ok-put_one-in-Min
put_expr-returns-in_ok-put_one-in-Min g t c =
    let first : List ℕ = codes "min(" ++ (expr_text c.get-in-Min.result.now ++ codes ", ") in
    let second : List ℕ = expr_text c.get-in-Min-2.result.now ++ codes ")" in
    let same : first ++ second ≡ expr_text c.args.e.now =
    ap (λ e. (codes "min(" ++ (expr_text e ++ codes ", ")) ++ second) c.get-in-Min.ensures
    ∙ ap (λ e. (codes "min(" ++ (expr_text c.in-Min.a ++ codes ", ")) ++ (expr_text e ++ codes ")")) c.get-in-Min-2.ensures
    ∙ sym (min_text c.in-Min.a c.in-Min.b) ∙ ap expr_text (sym c.in-Min.is) in
    retold _ _ _ _ _ same (then_printed _ _ _ _ first second c.in_ok-put_one-in-Min.ensures c.put_one-in-Min-2.ensures)

pub put_expr-returns-in-Width : goal.put_expr-returns-in-Width
put_expr-returns-in-Width g t c =
    let same : codes "width(" ++ (expr_text c.get-in-Width.result.now ++ codes ")") ≡ expr_text c.args.e.now =
    ap (λ e. codes "width(" ++ (expr_text e ++ codes ")")) c.get-in-Width.ensures ∙ sym (width_text c.in-Width.e)
    ∙ ap expr_text (sym c.in-Width.is) in
    retold _ _ _ _ _ same c.put_one-in-Width.ensures

pub put_one-returns-in_err-put_all : goal.put_one-returns-in_err-put_all
put_one-returns-in_err-put_all g t c =
    refused c.from_residual.result c.in_err-put_all.field-0.0 _ _ _ _ c.from_residual.ensures.1 c.in_err-put_all.ensures.part

pub put_one-returns-in_err-put_expr : goal.put_one-returns-in_err-put_expr
put_one-returns-in_err-put_expr g t c =
    then_printed _ _ _ _ _ _ c.in_ok-put_all.ensures.whole
    (refused c.from_residual-in_err-put_expr.result c.in_err-put_expr.field-0.0 _ _ _ _ c.from_residual-in_err-put_expr.ensures.1
    c.in_err-put_expr.ensures)

pub put_one-returns : goal.put_one-returns
put_one-returns g t c =
    then_printed _ _ _ _ _ _ c.in_ok-put_all.ensures.whole
    (then_printed _ _ _ _ _ _ c.in_ok-put_expr.ensures (printed _ _ _ _ c.put_all-2.ensures.whole c.put_all-2.ensures.part))

pub put_word-returns-in_err-put_array : goal.put_word-returns-in_err-put_array
put_word-returns-in_err-put_array g t c =
    refused c.from_residual.result c.in_err-put_array.field-0.0 _ _ _ _ c.from_residual.ensures.1 c.in_err-put_array.ensures

pub put_word-returns : goal.put_word-returns
put_word-returns g t c = then_printed _ _ _ _ _ _ c.in_ok-put_array.ensures c.put_one.ensures
