use Rattle.std.specs.Prelude.{◌≡◌, ◌≢◌, true, nat_eq, All, slice_index_or}
use Rattle.std.proofs.Common.{◌∙◌, sym, ap, subst, arith}
use Rattle.std.specs.Cmp.Lexicographic.{pointwise}
use Rattle.std.proofs.lemmas.Cmp.{nat_list_eq_equiv}
use Rattle.std.proofs.lemmas.Bool.{false≢true}
use Rattle.format_spec.specs.Words.{mode_text}
use Rattle.format_spec.proofs.OrderSteps.{Started, has_digit, next_is_new, one_more, all_read}
use Rattle.format_spec.proofs.modes.read_modes.Goals as goal

pub returns-in_default : goal.returns-in_default
returns-in_default c modes order is =
    c.in_default.ensures (slice_index_or modes c.loop-place.place 0)
    (has_digit c.args.order c.args.text.now modes c.loop-place.place 0 order is c.loop-place-test.true)

pub returns-then-not-is_new : goal.returns-then-not-is_new
returns-then-not-is_new c modes order is =
    let fresh = next_is_new c.loop-place.place c.args.order c.args.text.now c.loop-place.modes modes c.in-Some.mode c.loop-place.invariant
    order is c.loop-place-test.true c.in-Some.ensures in
    absurd (false≢true (sym c.if-not-is_new.true
    ∙ c.is_new.ensures.1 (fresh.0, subst (All (λ other. other ≢ c.in-Some.mode)) (sym c.as_slice.ensures) fresh.1)))

pub loop-place-preserved : goal.loop-place-preserved
loop-place-preserved c =
    let fresh = c.is_new.ensures.0 c.if-not-is_new.false in
    one_more c.loop-place.place c.args.order c.args.text.now c.loop-place.modes c.push_reserved.new.self c.in-Some.mode
    c.loop-place.invariant fresh.0
    (subst (All (λ other. other ≢ c.in-Some.mode)) c.as_slice.ensures fresh.1) c.in-Some.ensures c.push_reserved.ensures.items
    c.push_reserved.ensures.capacity

pub returns-else-eq : goal.returns-else-eq
returns-else-eq c modes order is =
    let done : c.loop-place.place ≡ c.args.order = omega (arith, c.loop-place.auto.place-end, c.loop-place-test.false) in
    let read = all_read c.args.order c.args.text.now c.loop-place.modes modes
    (subst (λ n. Started n c.args.order c.args.text.now c.loop-place.modes) done c.loop-place.invariant) order is in
    let text : c.as_slice-4.result.now ≡ c.args.text.now = c.as_slice-4.ensures ∙ c.text_of.ensures
    ∙ ap mode_text (c.as_slice-2.ensures ∙ read) ∙ sym is in
    let same : pointwise nat_eq c.as_slice-4.result.now c.args.text.now ≡ true = ap (λ t. pointwise nat_eq t c.args.text.now) text
    ∙ nat_list_eq_equiv.refl c.args.text.now in
    absurd (false≢true (sym c.if-eq.false ∙ c.eq.ensures ∙ same))
