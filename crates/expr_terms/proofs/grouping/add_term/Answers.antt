use Rattle.std.specs.Prelude.{◌≡◌, ◌<◌, ℕ, nat_eq, List, length, slice_set, slice_index_or}
use Rattle.std.specs.Cmp.Lexicographic.{pointwise}
use Rattle.std.proofs.Common.{◌∙◌, sym, ap, subst}
use Rattle.std.specs.List.{position}
use Rattle.std.proofs.lemmas.List.Quantifiers.{position-Some}
use Rattle.expr_terms.specs.Groups.{Group}
use Rattle.expr_terms.specs.Terms.{Term}
use Rattle.expr_terms.proofs.Grouped.{term_joins, term_opens}
use Rattle.expr_terms.proofs.grouping.add_term.Goals as goal

pub returns-in_ok-push-in-Some : goal.returns-in_ok-push-in-Some
returns-in_ok-push-in-Some c ts are =
    let groups : List Group = c.args.groups.now.items in
    let group : Group = c.index_mut.result.now in
    let n : ℕ = c.in-Some.n in
    let vars : List ℕ = c.as_slice-2.result.now in
    let place = position-Some (λ (h : Group). pointwise nat_eq h.vars vars) c.as_slice.result.now n group (sym c.in-Some.ensures.place) in
    let read : group ≡ slice_index_or groups n group = c.index_mut.ensures.value in
    let here : slice_index_or groups n group ≡ slice_index_or c.as_slice.result.now n group =
    ap (λ hs. slice_index_or hs n group) (sym c.as_slice.ensures.value) in
    ap (λ (us : List Term). slice_set groups n (record { vars = group.vars; terms = us })) c.in_ok-push-in-Some.ensures.ok
    ∙ term_joins c.args.statement.now ts c.args.term groups vars n group are (c.as_slice-2.ensures ∙ c.in_ok-vars.ensures)
    (subst (λ hs. n < length hs) c.as_slice.ensures.value place.0)
    read (ap (λ (h : Group). pointwise nat_eq h.vars vars) (read ∙ here) ∙ place.1)

pub returns-in_ok-push-in-None : goal.returns-in_ok-push-in-None
returns-in_ok-push-in-None c ts are =
    let group : Group = c.in_ok-group_of_one-in-None.field-0 in
    c.in_ok-push-in-None.ensures.items
    ∙ term_opens c.args.statement.now ts c.args.term c.args.groups.now.items c.as_slice-2.result.now group are (c.as_slice-2.ensures
    ∙ c.in_ok-vars.ensures)
    (c.in_ok-group_of_one-in-None.ensures.0 ∙ sym c.as_slice-2.ensures) c.in_ok-group_of_one-in-None.ensures.1
    (ap (position (λ (h : Group). pointwise nat_eq h.vars c.as_slice-2.result.now)) (sym c.as_slice.ensures.value)
    ∙ sym c.in-None.ensures.place)
