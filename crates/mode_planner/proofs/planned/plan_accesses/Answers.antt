use Rattle.std.specs.Prelude.{◌≡◌, ◌∷◌, ◌++◌, ◌+◌, [], take}
use Rattle.std.proofs.Common.{◌∙◌, sym, ap, subst}
use Rattle.mode_planner.specs.Planned.{IsPlannedOf}
use Rattle.mode_planner.proofs.Planning.{next_taken}
use Rattle.mode_planner.proofs.planned.plan_accesses.Goals as goal

pub loop-access-preserved : goal.loop-access-preserved
loop-access-preserved c =
    let s = c.args.statement.now in
    let formats = c.args.formats.now in
    let k = c.loop-access.access-index in
    let item = c.access-item.result in
    let items = c.as_slice-access-items.result.now in
    let next : take (k + 1) s.accesses ≡ take k s.accesses ++ item ∷ [] =
    ap (take (k + 1)) (sym c.as_slice-access-items.ensures) ∙ next_taken items k item c.loop-access-test.true c.access-item.is
    ∙ ap (λ xs. take k xs ++ item ∷ []) c.as_slice-access-items.ensures in
    subst (λ xs. IsPlannedOf s formats xs c.plan_access.new.plan) (sym next)
    (c.in_ok-plan_access.ensures (take k s.accesses) c.loop-access.invariant)
