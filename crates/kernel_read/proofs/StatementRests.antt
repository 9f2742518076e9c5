-- A statement is told by its text whatever stands behind it.
use Rattle.std.specs.Prelude.{◌≡◌, ℕ, ◌+◌, ◌≤◌, List, ◌++◌, codes, drop, refl}
use Rattle.std.proofs.Common.{◌∙◌, ap, sym, arith}
use Rattle.kernel_code.specs.declared.syntax.KExpr.{KExpr}
use Rattle.kernel_code.specs.declared.syntax.KStmt.{KStmt, If, While}
use Rattle.kernel_code.specs.declared.syntax.LoopKind.{LoopKind}
use Rattle.kernel_code.specs.declared.syntax.LoopKind.TheVariants as kind
use Rattle.kernel_print.specs.ExprTexts.{ExprHasWords}
use Rattle.kernel_print.specs.KernelTexts.{StatementHasWords}
use Rattle.kernel_print.specs.Text.{expr_text, kind_text, statement_text}
use Rattle.kernel_print.proofs.ExprTexts.{expr_told, size, expr_is_told}
use Rattle.kernel_print.proofs.KernelTexts.{statement_is_told}
use Rattle.kernel_print.proofs.StatementTexts.{statement_size, statement_told, code_told, ReadStatement}

-- so it is read, and what stands behind it
abbrev reads : ℕ → ℕ → ReadStatement
reads n depth = statement_told (expr_told n) (code_told n depth)

pub cut_statement : (s t : KStmt) (depth : ℕ) (behind behind' : List ℕ) → StatementHasWords s → StatementHasWords t
    → statement_text depth s ++ behind ≡ statement_text depth t ++ behind' → (s ≡ t) × (behind ≡ behind')
cut_statement s t depth behind behind' words words' same =
    let n : ℕ = statement_size s + statement_size t in
    let enough : statement_size s ≤ n = omega arith in
    let enough' : statement_size t ≤ n = omega arith in
    let both : (s, behind) ≡ (t, behind') = sym (statement_is_told s n depth behind enough words)
    ∙ ap (reads n depth) same ∙ statement_is_told t n depth behind' enough' words' in
    (ap (λ (x : KStmt × List ℕ). x.0) both, ap (λ (x : KStmt × List ℕ). x.1) both)

-- what is read behind the test of an `if`, and behind that of a loop
abbrev if_read : ℕ → ℕ → KExpr × List ℕ → KStmt × List ℕ
if_read n depth x =
    let first = code_told n depth (drop 3 x.1) in
    let second = code_told n depth (drop 9 first.1) in
    (If x.0 first.0 second.0, drop 2 second.1)

abbrev loop_read : LoopKind → ℕ → ℕ → KExpr × List ℕ → KStmt × List ℕ
loop_read k n depth x = let body = code_told n depth (drop 3 x.1) in (While k x.0 body.0, drop 2 body.1)

-- a statement whose text begins as that of an `if` is one with this test
pub if_begins : (s : KStmt) (e : KExpr) (depth : ℕ) (behind rest : List ℕ) → StatementHasWords s → ExprHasWords e
    → statement_text depth s ++ behind ≡ codes "if " ++ (expr_text e ++ (codes " {\n" ++ rest))
    → (first : List KStmt) × ((second : List KStmt) × (s ≡ If e first second))
if_begins s e depth behind rest words words' same =
    let n : ℕ = statement_size s + size e in
    let enough : statement_size s ≤ n = omega arith in
    let enough' : size e ≤ n = omega arith in
    let first = code_told n depth rest in
    let second = code_told n depth (drop 9 first.1) in
    let both : (s, behind) ≡ if_read n depth (e, codes " {\n" ++ rest) = sym (statement_is_told s n depth behind enough words)
    ∙ ap (reads n depth) same ∙ ap (if_read n depth) (expr_is_told e n (codes " {\n" ++ rest) enough' words' refl) in
    (first.0, (second.0, ap (λ (x : KStmt × List ℕ). x.0) both))

kind_read : (k : LoopKind) (n depth : ℕ) (rest : List ℕ)
    → reads n depth (codes "while " ++ (kind_text k ++ (codes " " ++ rest))) ≡ loop_read k n depth (expr_told n rest)
kind_read kind.Merge n depth rest = refl
kind_read kind.Skip n depth rest = refl
kind_read kind.Gather n depth rest = refl
kind_read kind.Drain n depth rest = refl
kind_read kind.Probe n depth rest = refl

-- and one whose text begins as that of a loop is a loop of this kind with this test
pub loop_begins : (s : KStmt) (k : LoopKind) (e : KExpr) (depth : ℕ) (behind rest : List ℕ) → StatementHasWords s → ExprHasWords e
    → statement_text depth s ++ behind ≡ codes "while " ++ (kind_text k ++ (codes " " ++ (expr_text e ++ (codes " {\n" ++ rest))))
    → (body : List KStmt) × (s ≡ While k e body)
loop_begins s k e depth behind rest words words' same =
    let n : ℕ = statement_size s + size e in
    let enough : statement_size s ≤ n = omega arith in
    let enough' : size e ≤ n = omega arith in
    let both : (s, behind) ≡ loop_read k n depth (e, codes " {\n" ++ rest) = sym (statement_is_told s n depth behind enough words)
    ∙ ap (reads n depth) same ∙ kind_read k n depth (expr_text e ++ (codes " {\n" ++ rest))
    ∙ ap (loop_read k n depth) (expr_is_told e n (codes " {\n" ++ rest) enough' words' refl) in
    ((code_told n depth rest).0, ap (λ (x : KStmt × List ℕ). x.0) both)
