use Rattle.std.proofs.Common.{◌≡◌, ◌<◌, ◌++◌, ◌∷◌, [], Some, None, false, arith, sym}
use Rattle.kernel_code.specs.declared.syntax.KStmt.{If, Sort, SortSum, While}
use Rattle.simplifier.specs.Folded.{is_zero, number_of}
use Rattle.simplifier.proofs.Equations.{folded_if, folded_while}
use Rattle.simplifier.proofs.CodeLemmas.{added, added_simple, first_taken, no_loop, pushed, runs_now, runs_result, runs_same, runs_so_far}
use Rattle.simplifier.proofs.CodeLemmas.{same_if, same_while, second_taken, step_same, step_then}
use Rattle.simplifier.proofs.ExprLemmas.{same_value}
use Rattle.simplifier.proofs.code.+code.Goals as goal

pub add_loop-returns-then-is_zero-clause-same : goal.add_loop-returns-then-is_zero-clause-same
add_loop-returns-then-is_zero-clause-same g t c = no_loop g.S.Semiring.arithmetic c.args.out.now c.args.kind c.args.test c.args.body.now cc

pub add_loop-returns-clause-same : goal.add_loop-returns-clause-same
add_loop-returns-clause-same g t c =
    let new = c.in_ok-body in
    let old = While c.args.kind c.args.test c.args.body.now in
    added g.S.Semiring.arithmetic c.push.result c.push.new.self c.args.out.now (While c.args.kind c.args.test new.body) old
    c.push.ensures.ok
    (same_while g.S.Semiring.arithmetic c.args.kind c.args.test c.args.test new.body c.args.body.now (same_value c.args.test)
    new.ensures.same)

pub add_loop-returns-clause-simple : goal.add_loop-returns-clause-simple
add_loop-returns-clause-simple g t c =
    let new = c.in_ok-body in
    let other : is_zero c.args.test ≡ false = cc in
    λ test.
    added_simple g.S.Semiring.arithmetic c.push.result c.push.new.self c.args.out.now (While c.args.kind c.args.test new.body)
    c.push.ensures.ok
    (folded_while g.S.Semiring.arithmetic c.args.kind c.args.test new.body other test new.ensures.simple.folded)

pub add_statement-returns-in-Sort-clause-simple : goal.add_statement-returns-in-Sort-clause-simple
add_statement-returns-in-Sort-clause-simple g t c =
    added_simple g.S.Semiring.arithmetic c.push.result c.push.new.self c.args.out.now (Sort c.in-Sort.list) c.push.ensures.ok tt

pub add_statement-returns-in-SortSum-clause-simple : goal.add_statement-returns-in-SortSum-clause-simple
add_statement-returns-in-SortSum-clause-simple g t c =
    let push = c.push-in-SortSum in
    added_simple g.S.Semiring.arithmetic push.result push.new.self c.args.out.now (SortSum c.in-SortSum.workspace) push.ensures.ok tt

pub add_statement-returns-in-Some-eq0-clause-same : goal.add_statement-returns-in-Some-eq0-clause-same
add_statement-returns-in-Some-eq0-clause-same g t c =
    let s = c.in-If in
    let new = c.in_ok-test-in-If in
    let out = c.args.out.now in
    let zero : number_of new.test ≡ Some 0 = cc in
    runs_result g.S.Semiring.arithmetic c.add_code.result c.add_code.new.out (out ++ c.as_slice.result.now)
    (out ++ c.args.s.now ∷ []) c.add_code.ensures.same
    (second_taken g.S.Semiring.arithmetic out s.test new.test s.first s.second c.as_slice.result.now c.args.s.now zero
    new.ensures.same c.as_slice.ensures s.is)

pub add_statement-returns-in-Some-clause-same : goal.add_statement-returns-in-Some-clause-same
add_statement-returns-in-Some-clause-same g t c =
    let s = c.in-If in
    let new = c.in_ok-test-in-If in
    let out = c.args.out.now in
    let call = c.add_code-in-Some in
    let body = c.as_slice-in-Some in
    let number : number_of new.test ≡ Some c.in-Some.field-0 = cc in
    let more : 0 < c.in-Some.field-0 = omega (arith, c.in-Some.field-0-test) in
    runs_result g.S.Semiring.arithmetic call.result call.new.out (out ++ body.result.now) (out ++ c.args.s.now ∷ []) call.ensures.same
    (first_taken g.S.Semiring.arithmetic out s.test new.test s.first s.second body.result.now c.args.s.now c.in-Some.field-0 number
    more new.ensures.same
    body.ensures s.is)

pub add_statement-returns-in-If-clause-same : goal.add_statement-returns-in-If-clause-same
add_statement-returns-in-If-clause-same g t c =
    let s = c.in-If in
    let new = c.in_ok-test-in-If in
    let first = c.in_ok-first-in-None in
    let second = c.in_ok-second-in-None in
    let push = c.push-in-None in
    let same = same_if g.S.Semiring.arithmetic new.test s.test first.first second.second s.first s.second new.ensures.same
    (runs_now g.S.Semiring.arithmetic _ _ _ first.ensures.same c.as_slice-in-None.ensures)
    (runs_now g.S.Semiring.arithmetic _ _ _ second.ensures.same c.as_slice-in-None-2.ensures) in
    added g.S.Semiring.arithmetic push.result push.new.self c.args.out.now (If new.test first.first second.second) c.args.s.now
    push.ensures.ok
    (step_then g.S.Semiring.arithmetic _ _ _ same (step_same g.S.Semiring.arithmetic _ _ (sym s.is)))

pub add_statement-returns-in-If-clause-simple : goal.add_statement-returns-in-If-clause-simple
add_statement-returns-in-If-clause-simple g t c =
    let new = c.in_ok-test-in-If in
    let first = c.in_ok-first-in-None in
    let second = c.in_ok-second-in-None in
    let push = c.push-in-None in
    let none : number_of new.test ≡ None = cc in
    added_simple g.S.Semiring.arithmetic push.result push.new.self c.args.out.now (If new.test first.first second.second) push.ensures.ok
    (folded_if g.S.Semiring.arithmetic new.test first.first second.second none new.ensures.folded first.ensures.simple.folded
    second.ensures.simple.folded)

pub add_statement-returns-clause-same : goal.add_statement-returns-clause-same
add_statement-returns-clause-same g t c =
    let s = c.in-While in
    let new = c.in_ok-test-in-While in
    let out = c.args.out.now in
    let body = c.as_slice-in-While in
    let same = same_while g.S.Semiring.arithmetic s.kind new.test s.test body.result.now s.body new.ensures.same
    (runs_now g.S.Semiring.arithmetic _ _ _ (runs_same g.S.Semiring.arithmetic body.result.now) body.ensures) in
    runs_result g.S.Semiring.arithmetic c.add_loop.result c.add_loop.new.out (out ++ While s.kind new.test body.result.now ∷ [])
    (out ++ c.args.s.now ∷ [])
    c.add_loop.ensures.same (pushed g.S.Semiring.arithmetic out _ _
    (step_then g.S.Semiring.arithmetic _ _ _ same (step_same g.S.Semiring.arithmetic _ _ (sym s.is))))

pub add_code-loop-s-preserved : goal.add_code-loop-s-preserved
add_code-loop-s-preserved g t c =
    let done = c.in_ok-add_statement.ensures in (
      runs_so_far g.S.Semiring.arithmetic c.add_statement.new.out c.loop-s.out c.args.out.now c.args.code.now c.loop-s.s-index
          c.s-item.result c.loop-s-test.true
          c.s-item.is c.loop-s.invariant.0 done.same,
      λ simple. done.simple (c.loop-s.invariant.1 simple),
    )
