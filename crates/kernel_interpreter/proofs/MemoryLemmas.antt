-- What holds throughout statements that are made of others.
use Rattle.std.specs.Prelude.{◌≡◌, ℕ, suc, ◌+◌, ◌<◌, List, length, drop, slice_index_or}
use Rattle.std.proofs.Common.{subst, sym, arith}
use Rattle.std.proofs.Math.Seq.{drop-cons}
use Rattle.kernel_code.specs.declared.syntax.LoopKind.{LoopKind}
use Rattle.kernel_code.specs.declared.syntax.KExpr.{KExpr}
use Rattle.kernel_code.specs.declared.syntax.KStmt.{KStmt, If, While, Row_of-KStmt, end_of-KStmt, more_of-KStmt, items-the_row-KStmt}
use Rattle.kernel_code.specs.declared.syntax.KStmt.{items_hidden-the_row-KStmt-0}
use Rattle.kernel_code.specs.declared.syntax.KStmt.TheBlock.{hidden-the_row-KStmt-0}
use Rattle.kernel_interpreter.specs.Memory.{Throughout, Throughout_row, Through}

row_through : {m : _} (P : KStmt → Type 0) (row : Row_of-KStmt m) → Throughout_row P row → Through P (items-the_row-KStmt m row)
row_through P end_of-KStmt h = tt
row_through P (more_of-KStmt s rest) h = (h.0, row_through P rest h.1)

held_through : (P : KStmt → Type 0) (body : List KStmt) → Throughout_row P (hidden-the_row-KStmt-0 body) → Through P body
held_through P body h = subst (Through P) (items_hidden-the_row-KStmt-0 body) (row_through P (hidden-the_row-KStmt-0 body) h)

pub first_body : (P : KStmt → Type 0) (e : KExpr) (first second : List KStmt) → Throughout P (If e first second) → Through P first
first_body P e first second h = held_through P first h.0

pub second_body : (P : KStmt → Type 0) (e : KExpr) (first second : List KStmt) → Throughout P (If e first second) → Through P second
second_body P e first second h = held_through P second h.1

pub loop_body : (P : KStmt → Type 0) (k : LoopKind) (e : KExpr) (body : List KStmt) → Throughout P (While k e body) → Through P body
loop_body P k e body h = held_through P body h

next : (i : ℕ) → suc i ≡ i + 1
next i = omega arith

-- the statement at a place
pub through_here : (P : KStmt → Type 0) (code : List KStmt) (i : ℕ) (s : KStmt) → i < length code → s ≡ slice_index_or code i s
    → Through P (drop i code) → Throughout P s
through_here P code i s l is h = subst (Throughout P) (sym is) (subst (Through P) (drop-cons code i s l) h).0

-- what stands behind it
pub through_rest : (P : KStmt → Type 0) (code : List KStmt) (i : ℕ) (s : KStmt) → i < length code → Through P (drop i code)
    → Through P (drop (i + 1) code)
through_rest P code i s l h = subst (λ k. Through P (drop k code)) (next i) (subst (Through P) (drop-cons code i s l) h).1
