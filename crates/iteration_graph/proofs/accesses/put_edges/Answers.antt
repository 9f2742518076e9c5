use Rattle.std.specs.Prelude.{◌≡◌, ◌++◌, ◌∷◌, [], ◌+◌, ◌-◌, take, slice_get, slice_index}
use Rattle.std.proofs.Common.{◌∙◌, sym, ap, arith}
use Rattle.std.proofs.lemmas.List.{append-nil, append_assoc}
use Rattle.format_spec.specs.Formats.{modes_of}
use Rattle.iteration_graph.specs.Edges.{neighbours, by_level}
use Rattle.iteration_graph.proofs.EdgeSteps.{dense_gives_none, next_edge}
use Rattle.iteration_graph.proofs.accesses.put_edges.Goals as goal

pub returns-then-is_all_dense-clause-edges : goal.returns-then-is_all_dense-clause-edges
returns-then-is_all_dense-clause-edges c =
    sym (append-nil c.args.edges.now)
    ∙ ap (λ es. c.args.edges.now
    ++ es) (sym (dense_gives_none c.args.format.now c.args.vars.now (c.is_all_dense.ensures.told.0 c.if-is_all_dense.true)))

pub loop-level-preserved : goal.loop-level-preserved
loop-level-preserved c =
    let levels = c.args.format.now in
    let vars = c.args.vars.now in
    let level = c.loop-level.level in
    let same : level + 1 - 1 ≡ level = omega arith in
    let next = next_edge levels vars level c.mode.result c.mode-in-loop-level.result c.loop-level.auto.level
    (omega (arith, c.loop-level-test.true, c.order-level-end.ensures.value)) c.mode.ensures.value
    (ap (slice_get (modes_of levels)) (sym same) ∙ c.mode-in-loop-level.ensures.value) in
    c.in_ok-push.ensures.ok
    ∙ ap (λ es. es ++ (slice_index vars c.mode.result, slice_index vars c.mode-in-loop-level.result) ∷ []) c.loop-level.invariant
    ∙ append_assoc c.args.edges.now (neighbours (take level (by_level levels vars)))
    ((slice_index vars c.mode.result, slice_index vars c.mode-in-loop-level.result) ∷ [])
    ∙ ap (λ es. c.args.edges.now ++ es) (sym next)
