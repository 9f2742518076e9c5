use Rattle.std.proofs.Common.{◌∙◌, ◌++◌, ◌∷◌, [], ap, sym, map, take}
use Rattle.std.proofs.lemmas.List.{take_more}
use Rattle.kernel_code.specs.declared.syntax.KStmt as stmt
use Rattle.resolved_code.specs.Erase.{erase}
use Rattle.resolved_code.proofs.EraseLemmas.{erase_if, erase_while, more_erased}
use Rattle.resolved_code.proofs.resolving.+resolve.Goals as goal

pub resolve_statement-returns-in_ok-second-in-If : goal.resolve_statement-returns-in_ok-second-in-If
resolve_statement-returns-in_ok-second-in-If t c =
    let s = c.in-If in
    let first = c.in_ok-first-in-If in
    let second = c.in_ok-second-in-If in
    erase_if c.in_ok-e-in-If.e first.first second.second
    ∙ ap (λ e. stmt.If e (map erase first.first) (map erase second.second)) c.in_ok-e-in-If.ensures
    ∙ ap (λ code. stmt.If s.e code (map erase second.second)) (first.ensures ∙ c.as_slice.ensures)
    ∙ ap (stmt.If s.e s.first) (second.ensures ∙ c.as_slice-in-If.ensures)
    ∙ sym s.is

pub resolve_statement-returns-in_ok-body-in-While : goal.resolve_statement-returns-in_ok-body-in-While
resolve_statement-returns-in_ok-body-in-While t c =
    let s = c.in-While in
    let body = c.in_ok-body-in-While in
    erase_while s.kind c.in_ok-e-in-While.e body.body
    ∙ ap (λ e. stmt.While s.kind e (map erase body.body)) c.in_ok-e-in-While.ensures
    ∙ ap (stmt.While s.kind s.e) (body.ensures ∙ c.as_slice-in-While.ensures)
    ∙ sym s.is

pub resolve-loop-s-preserved : goal.resolve-loop-s-preserved
resolve-loop-s-preserved t c =
    let all = c.args.statements.now in
    let i = c.loop-s.s-index in
    let r = c.in_ok-resolved.resolved in
    ap (map erase) c.in_ok-push.ensures.ok ∙ more_erased c.loop-s.code r
    ∙ ap (λ code. code ++ erase r ∷ []) c.loop-s.invariant
    ∙ ap (λ s. take i all ++ s ∷ []) (c.in_ok-resolved.ensures ∙ c.s-item.is)
    ∙ sym (take_more all i c.s-item.result c.loop-s-test.true)
