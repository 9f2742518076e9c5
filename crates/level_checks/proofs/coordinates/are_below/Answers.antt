use Rattle.std.specs.Prelude.{◌≤◌, slice_index}
use Rattle.std.proofs.Common.{subst, sym, arith, rules}
use Rattle.std.proofs.lemmas.List.{drop_all}
use Rattle.level_core.specs.GroupLaws.{CoordsBelow}
use Rattle.level_checks.proofs.Loops.{same_self, yes, no}
use Rattle.level_checks.proofs.Orders.{below_next}
use Rattle.level_checks.proofs.coordinates.are_below.Goals as goal

pub loop-x-init : goal.loop-x-init
loop-x-init c = same_self

pub returns-then-x-size : goal.returns-then-x-size
returns-then-x-size c =
    let l = c.loop-x in
    no (λ p.
    let h = ((below_next c.args.size c.args.coords.now l.x-index c.loop-x-test.true).0 (l.invariant.1 p)).0 in
    let past : c.args.size ≤ slice_index c.args.coords.now l.x-index = search rules in
    omega (arith, h, past))

pub loop-x-preserved : goal.loop-x-preserved
loop-x-preserved c =
    let l = c.loop-x in
    let next = below_next c.args.size c.args.coords.now l.x-index c.loop-x-test.true in (
      λ rest. l.invariant.0 (next.1 (search rules, rest)),
      λ p. (next.0 (l.invariant.1 p)).1,
    )

pub returns : goal.returns
returns c =
    let l = c.loop-x in
    yes (l.invariant.0 (subst (CoordsBelow c.args.size) (sym (drop_all l.x-index c.args.coords.now c.loop-x-test.false)) tt))
