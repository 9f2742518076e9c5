use Rattle.std.specs.Prelude.{◌+◌, ◌%◌, slice_index}
use Rattle.std.proofs.Common.{◌∙◌, sym, ap}
use Rattle.hashed_level.proofs.SearchLaws.{place_first, place_next}
use Rattle.level_checks.proofs.Loops.{no}
use Rattle.level_checks.proofs.BlockSteps.{passed_none, passed_more, lost_at_end}
use Rattle.level_checks.proofs.BlockSteps.{filled_is}
use Rattle.level_checks.proofs.blocks.is_found_at.Goals as goal

pub loop-step-init : goal.loop-step-init
loop-step-init c =
    let a = c.args in
    (place_first a.width a.x, passed_none (slice_index a.slots.now) a.width a.base a.x a.at)

pub returns : goal.returns
returns c =
    let a = c.args in
    let l = c.loop-step in
    no (lost_at_end (slice_index a.slots.now) a.width a.base a.x a.at l.step l.invariant.1 c.loop-step-test.false)

pub loop-step-preserved : goal.loop-step-preserved
loop-step-preserved c =
    let a = c.args in
    let l = c.loop-step in
    let f = slice_index a.slots.now in
    let is = l.invariant.0 in
    let here = filled_is (f (a.base + l.place)) c.in-Some.other (sym c.in-Some.is ∙ c.coordinate_of.ensures) in
    let at_place = ap (λ k. f (a.base + k)) is in (
      ap (λ k. (k + 1) % a.width) is ∙ place_next a.width a.x l.step,
      passed_more f a.width a.base a.x a.at l.step l.invariant.1 (λ z. here.1 (at_place ∙ z))
          (λ z. c.if-other-x.false (sym here.0 ∙ at_place ∙ z)) (λ z. c.if-place-at.false (is ∙ z)),
    )
