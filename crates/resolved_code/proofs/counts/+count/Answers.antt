use Rattle.std.proofs.Common.{◌≡◌, ◌∙◌, ◌+◌, ◌≤◌, ap, sym, subst, arith, drop, map, suc, length, zero-add, slice_index_or}
use Rattle.std.proofs.lemmas.List.{drop_all, length-map}
use Rattle.kernel_code.specs.Arrays.{word_count}
use Rattle.kernel_code.specs.Meaning.{statements_in, statements_in_list}
use Rattle.kernel_code.proofs.Equations.{statements_in_if, statements_in_while}
use Rattle.kernel_code.proofs.Capped.{one_body, two_bodies, one_more, none_more}
use Rattle.resolved_code.specs.Erase.{erase, erase_value}
use Rattle.resolved_code.proofs.EraseLemmas.{erase_if, erase_while, next_erased}
use Rattle.resolved_code.proofs.counts.+count.Goals as goal

pub count_in-returns-in-If : goal.count_in-returns-in-If
count_in-returns-in-If t c =
    let s = c.in-If in
    two_bodies c.count_resolved-first.result c.count_resolved-second.result c.saturating_add.result c.saturating_add-in-If.result
    (statements_in_list (map erase s.first)) (statements_in_list (map erase s.second)) (statements_in (erase c.args.s.now))
    (c.count_resolved-first.ensures ∙ ap (λ code. word_count (statements_in_list (map erase code))) c.as_slice.ensures)
    (c.count_resolved-second.ensures ∙ ap (λ code. word_count (statements_in_list (map erase code))) c.as_slice-in-If.ensures)
    c.saturating_add.ensures c.saturating_add-in-If.ensures
    (ap (λ s. statements_in (erase s)) s.is ∙ ap statements_in (erase_if s.field-0 s.first s.second)
    ∙ statements_in_if (erase_value s.field-0) (map erase s.first) (map erase s.second))

pub count_in-returns-in-While : goal.count_in-returns-in-While
count_in-returns-in-While t c =
    let s = c.in-While in
    one_body c.count_resolved.result c.saturating_add-in-While.result (statements_in_list (map erase s.body))
    (statements_in (erase c.args.s.now))
    (c.count_resolved.ensures ∙ ap (λ code. word_count (statements_in_list (map erase code))) c.as_slice-in-While.ensures)
    c.saturating_add-in-While.ensures
    (ap (λ s. statements_in (erase s)) s.is ∙ ap statements_in (erase_while s.field-0 s.field-1 s.body)
    ∙ statements_in_while s.field-0 (erase_value s.field-1) (map erase s.body))

pub count_resolved-loop-s-init : goal.count_resolved-loop-s-init
count_resolved-loop-s-init t c = (omega arith, ap word_count (zero-add (statements_in_list (map erase c.args.statements.now))))

pub count_resolved-loop-s-preserved : goal.count_resolved-loop-s-preserved
count_resolved-loop-s-preserved t c =
    let code = c.args.statements.now in
    let all = map erase code in
    let i = c.loop-s.s-index in
    let next : i + 1 ≡ suc i = omega arith in
    let rest = statements_in_list (drop (suc i) all) in
    let here = ap statements_in_list (next_erased code i c.s-item.result c.loop-s-test.true) in
    let more = ap (λ j. word_count (c.saturating_add-count.result + statements_in_list (drop j all))) next
    ∙ one_more c.loop-s.count c.count_in.result c.saturating_add-count.result
    (statements_in (erase (slice_index_or code i c.s-item.result))) rest (statements_in_list (drop i all)) (statements_in_list all)
    (c.count_in.ensures ∙ ap (λ s. word_count (statements_in (erase s))) c.s-item.is) c.saturating_add-count.ensures here
    c.loop-s.invariant.1 in
    (omega arith, more)

pub count_resolved-returns : goal.count_resolved-returns
count_resolved-returns t c =
    let code = c.args.statements.now in
    let all = map erase code in
    let i = c.loop-s.s-index in
    let past : length all ≤ i = subst (λ n. n ≤ i) (sym (length-map code erase)) c.loop-s-test.false in
    none_more c.loop-s.count (statements_in_list (drop i all)) (statements_in_list all) c.loop-s.invariant.0
    (ap statements_in_list (drop_all i all past)) c.loop-s.invariant.1
