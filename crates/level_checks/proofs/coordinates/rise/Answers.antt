use Rattle.std.proofs.Common.{◌∙◌, subst, sym}
use Rattle.std.proofs.lemmas.List.{drop_all}
use Rattle.level_core.specs.Logs.{Rises}
use Rattle.level_checks.specs.Orders.{least_behind}
use Rattle.level_checks.proofs.Loops.{never, same_self, yes, no}
use Rattle.level_checks.proofs.Orders.{rises_next}
use Rattle.level_checks.proofs.coordinates.rise.Goals as goal

pub loop-x-init : goal.loop-x-init
loop-x-init c = same_self

pub returns-then-not-may_follow : goal.returns-then-not-may_follow
returns-then-not-may_follow c =
    let l = c.loop-x in
    let next = rises_next c.args.unique (least_behind c.args.unique l.last) c.args.coords.now l.x-index c.loop-x-test.true in
    no (λ p. never (sym c.if-not-may_follow.true ∙ c.may_follow.ensures.1 (next.0 (l.invariant.1 p)).0))

pub loop-x-preserved : goal.loop-x-preserved
loop-x-preserved c =
    let l = c.loop-x in
    let next = rises_next c.args.unique (least_behind c.args.unique l.last) c.args.coords.now l.x-index c.loop-x-test.true in (
      λ rest. l.invariant.0 (next.1 (c.may_follow.ensures.0 c.if-not-may_follow.false, rest)),
      λ p. (next.0 (l.invariant.1 p)).1,
    )

pub returns : goal.returns
returns c =
    let l = c.loop-x in
    let none = drop_all l.x-index c.args.coords.now c.loop-x-test.false in
    yes (l.invariant.0 (subst (Rises c.args.unique (least_behind c.args.unique l.last)) (sym none) tt))
