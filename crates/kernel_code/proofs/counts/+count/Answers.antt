use Rattle.std.proofs.Common.{◌≡◌, ◌∙◌, ◌+◌, ap, arith, drop, suc, zero-add, slice_index_or}
use Rattle.std.proofs.Math.Seq.{drop-cons}
use Rattle.std.proofs.lemmas.List.{drop_all}
use Rattle.kernel_code.specs.Arrays.{word_count}
use Rattle.kernel_code.specs.Meaning.{statements_in, statements_in_list}
use Rattle.kernel_code.proofs.Equations.{statements_in_if, statements_in_while}
use Rattle.kernel_code.proofs.Capped.{one_body, two_bodies, one_more, none_more}
use Rattle.kernel_code.proofs.counts.+count.Goals as goal

pub count_in-returns-in-If : goal.count_in-returns-in-If
count_in-returns-in-If t c =
    let s = c.in-If in
    two_bodies c.count_statements-first.result c.count_statements-second.result c.saturating_add.result c.saturating_add-in-If.result
    (statements_in_list s.first) (statements_in_list s.second) (statements_in c.args.s.now)
    (c.count_statements-first.ensures ∙ ap (λ code. word_count (statements_in_list code)) c.as_slice.ensures)
    (c.count_statements-second.ensures ∙ ap (λ code. word_count (statements_in_list code)) c.as_slice-in-If.ensures)
    c.saturating_add.ensures c.saturating_add-in-If.ensures
    (ap statements_in s.is ∙ statements_in_if s.field-0 s.first s.second)

pub count_in-returns-in-While : goal.count_in-returns-in-While
count_in-returns-in-While t c =
    let s = c.in-While in
    one_body c.count_statements.result c.saturating_add-in-While.result (statements_in_list s.body) (statements_in c.args.s.now)
    (c.count_statements.ensures ∙ ap (λ code. word_count (statements_in_list code)) c.as_slice-in-While.ensures)
    c.saturating_add-in-While.ensures (ap statements_in s.is ∙ statements_in_while s.field-0 s.field-1 s.body)

pub count_statements-loop-s-init : goal.count_statements-loop-s-init
count_statements-loop-s-init t c = (omega arith, ap word_count (zero-add (statements_in_list c.args.statements.now)))

pub count_statements-loop-s-preserved : goal.count_statements-loop-s-preserved
count_statements-loop-s-preserved t c =
    let all = c.args.statements.now in
    let i = c.loop-s.s-index in
    let next : i + 1 ≡ suc i = omega arith in
    let rest = statements_in_list (drop (suc i) all) in
    let here = ap statements_in_list (drop-cons all i c.s-item.result c.loop-s-test.true) in
    let more = ap (λ j. word_count (c.saturating_add-count.result + statements_in_list (drop j all))) next
    ∙ one_more c.loop-s.count c.count_in.result c.saturating_add-count.result
    (statements_in (slice_index_or all i c.s-item.result)) rest (statements_in_list (drop i all)) (statements_in_list all)
    (c.count_in.ensures ∙ ap (λ s. word_count (statements_in s)) c.s-item.is) c.saturating_add-count.ensures here c.loop-s.invariant.1 in
    (omega arith, more)

pub count_statements-returns : goal.count_statements-returns
count_statements-returns t c =
    let all = c.args.statements.now in
    none_more c.loop-s.count (statements_in_list (drop c.loop-s.s-index all)) (statements_in_list all) c.loop-s.invariant.0
    (ap statements_in_list (drop_all c.loop-s.s-index all c.loop-s-test.false)) c.loop-s.invariant.1
