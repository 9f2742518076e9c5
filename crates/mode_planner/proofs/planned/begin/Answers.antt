use Rattle.std.specs.Prelude.{◌≡◌, ◌<◌, ◌∷◌, ◌++◌, [], List, Some, length, slice_get}
use Rattle.std.proofs.Common.{◌∙◌, sym, ap, subst, arith}
use Rattle.index_notation.specs.declared.syntax.Name.{Name}
use Rattle.index_notation.specs.declared.syntax.Statement.{Statement}
use Rattle.mode_planner.proofs.Planning.{begun, by_plan_is, stands_at}
use Rattle.mode_planner.proofs.planned.begin.Goals as goal

pub returns : goal.returns
returns c =
    let s = c.args.statement.now in
    let formats = c.args.formats.now in
    let name = c.in_ok-name.name in
    let format = c.in_ok-format.format in
    let some : 0 < length s.tensors = let tensor = c.requires.numbered.tensor in omega (arith, tensor) in
    let at : slice_get c.as_slice-2.result.now 0 ≡ Some c.index-as_slice-0.result =
    stands_at c.as_slice-2.result.now 0 c.index-as_slice-0.result
    (subst (λ (xs : List Name). 0 < length xs) (sym c.as_slice-2.ensures) some) c.index-as_slice-0.is in
    begun s formats (record { statement = c.new-2.result; formats = c.push.new.self; origins = c.new-3.result }) name format
    (ap (λ (t : Statement). t.vars) c.new-2.ensures ∙ c.in_ok-vars.ensures ∙ c.as_slice-3.ensures)
    (ap (λ (t : Statement). t.left) c.new-2.ensures ∙ c.in_ok-left.ensures)
    (ap (λ (t : Statement). t.accumulate) c.new-2.ensures)
    (ap (λ (t : Statement). t.sums) c.new-2.ensures ∙ c.in_ok-sums.ensures ∙ c.as_slice-4.ensures)
    (ap (λ (t : Statement). t.expr) c.new-2.ensures ∙ c.in_ok-expr.ensures)
    (ap (λ (t : Statement). t.accesses) c.new-2.ensures ∙ c.new.ensures)
    (ap (λ (t : Statement). t.tensors) c.new-2.ensures ∙ c.in_ok-push-2.ensures.ok
    ∙ ap (λ names. names ++ name ∷ []) c.new-tensors.ensures)
    (ap (λ xs. slice_get xs 0) (sym c.as_slice-2.ensures) ∙ at ∙ ap (λ (n : Name). Some n) (sym c.in_ok-name.ensures))
    (c.in_ok-push.ensures.ok ∙ ap (λ fs. fs ++ format ∷ []) c.new-planned_formats.ensures)
    (by_plan_is s formats s.left c.len.result c.index-formats-left.result c.as_slice.result.now format c.requires.left.tensor c.len.ensures
    c.index-formats-left.is c.as_slice.ensures c.in_ok-format.ensures)
    c.new-3.ensures
