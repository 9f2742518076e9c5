-- What the meaning says at an expression or a statement that is made of parts, one equation for each.
use Rattle.std.specs.Prelude.{◌≡◌, ℕ, ◌+◌, min, List, [], ◌∷◌, ◌++◌, refl}
use Rattle.std.proofs.Common.{◌∙◌, ap, sym, zero-add, add_assoc}
use denote.Hole.Carrier.{hidden}
use Rattle.kernel_code.specs.declared.syntax.Arr.{Arr}
use Rattle.kernel_code.specs.declared.syntax.LoopKind.{LoopKind}
use Rattle.kernel_code.specs.declared.syntax.Op.{Op}
use Rattle.kernel_code.specs.declared.syntax.KExpr.{KExpr, At, Bin, Min, Width}
use Rattle.kernel_code.specs.declared.syntax.KExpr.TheBlock.{hidden-the_row-KExpr-0}
use Rattle.kernel_code.specs.declared.syntax.KStmt.{KStmt, If, While, Row_of-KStmt, end_of-KStmt, more_of-KStmt, items-the_row-KStmt}
use Rattle.kernel_code.specs.declared.syntax.KStmt.{items_hidden-the_row-KStmt-0}
use Rattle.kernel_code.specs.declared.syntax.KStmt.TheBlock.{hidden-the_row-KStmt-0}
use Rattle.kernel_code.specs.Meaning.{Setting, State, value, word_at, width_of, apply_each, apply_both, choice}
use Rattle.kernel_code.specs.Meaning.{then_run, behind, run, run_row}
use Rattle.kernel_code.specs.Meaning.{run_list, run_turns, statements_in, statements_in_row, statements_in_list}

pub value_at : (a : Arr) (i : KExpr) (s : State) → value (At a i) s ≡ word_at (s.arrays a) (value i s)
unfolding hidden-the_row-KExpr-0 hidden
value_at a i s = refl

pub value_bin : (o : Op) (a b : KExpr) (s : State) → value (Bin o a b) s ≡ apply_both o (value a s) (value b s)
unfolding hidden-the_row-KExpr-0 hidden
value_bin o a b s = refl

pub value_min : (a b : KExpr) (s : State) → value (Min a b) s ≡ apply_each min (value a s) (value b s)
unfolding hidden-the_row-KExpr-0 hidden
value_min a b s = refl

pub value_width : (e : KExpr) (s : State) → value (Width e) s ≡ width_of (value e s)
unfolding hidden-the_row-KExpr-0 hidden
value_width e s = refl

row_is_list : {m : _} (c : Setting) (n : ℕ) (row : Row_of-KStmt m) → run_row c n row ≡ run_list c n (items-the_row-KStmt m row)
row_is_list c n end_of-KStmt = refl
row_is_list c n (more_of-KStmt s rest) =
    ap (λ next st. then_run (run c n s st) (λ st'. behind (statements_in s) (next st'))) (row_is_list c n rest)

held_is_list : (c : Setting) (n : ℕ) (body : List KStmt) → run_row c n (hidden-the_row-KStmt-0 body) ≡ run_list c n body
held_is_list c n body = row_is_list c n (hidden-the_row-KStmt-0 body) ∙ ap (run_list c n) (items_hidden-the_row-KStmt-0 body)

row_counts_list : {m : _} (row : Row_of-KStmt m) → statements_in_row row ≡ statements_in_list (items-the_row-KStmt m row)
row_counts_list end_of-KStmt = refl
row_counts_list (more_of-KStmt s rest) = ap (λ n. statements_in s + n) (row_counts_list rest)

held_counts_list : (body : List KStmt) → statements_in_row (hidden-the_row-KStmt-0 body) ≡ statements_in_list body
held_counts_list body = row_counts_list (hidden-the_row-KStmt-0 body) ∙ ap statements_in_list (items_hidden-the_row-KStmt-0 body)

pub statements_in_if : (e : KExpr) (first second : List KStmt)
    → statements_in (If e first second) ≡ 1 + (statements_in_list first + statements_in_list second)
statements_in_if e first second =
    ap (λ n. 1 + (n + statements_in_row (hidden-the_row-KStmt-0 second))) (held_counts_list first)
    ∙ ap (λ n. 1 + (statements_in_list first + n)) (held_counts_list second)

pub statements_in_while : (k : LoopKind) (e : KExpr) (body : List KStmt) → statements_in (While k e body) ≡ 1 + statements_in_list body
statements_in_while k e body = ap (λ n. 1 + n) (held_counts_list body)

pub run_if : (c : Setting) (n : ℕ) (e : KExpr) (first second : List KStmt) (s : State)
    → run c n (If e first second) s
    ≡ choice s (value e s) (behind 1 (run_list c n first s)) (behind (1 + statements_in_list first) (run_list c n second s))
run_if c n e first second s =
    ap (λ go. choice s (value e s) (behind 1 (go s))
    (behind (1 + statements_in_row (hidden-the_row-KStmt-0 first)) (run_row c n (hidden-the_row-KStmt-0 second) s)))
    (held_is_list c n first)
    ∙ ap (λ k. choice s (value e s) (behind 1 (run_list c n first s)) (behind (1 + k) (run_row c n (hidden-the_row-KStmt-0 second) s)))
    (held_counts_list first)
    ∙ ap (λ go. choice s (value e s) (behind 1 (run_list c n first s)) (behind (1 + statements_in_list first) (go s)))
    (held_is_list c n second)

pub run_while : (c : Setting) (n : ℕ) (k : LoopKind) (e : KExpr) (body : List KStmt) (s : State)
    → run c n (While k e body) s ≡ run_turns n k (value e) (λ s'. behind 1 (run_list c n body s')) s
run_while c n k e body s = ap (λ go. run_turns n k (value e) (λ s'. behind 1 (go s')) s) (held_is_list c n body)

-- statements of lists one behind the other
pub statements_in_append : (a b : List KStmt) → statements_in_list (a ++ b) ≡ statements_in_list a + statements_in_list b
statements_in_append [] b = sym (zero-add (statements_in_list b))
statements_in_append (s ∷ a) b =
    ap (λ n. statements_in s + n) (statements_in_append a b) ∙ sym
    (add_assoc (statements_in s) (statements_in_list a) (statements_in_list b))
