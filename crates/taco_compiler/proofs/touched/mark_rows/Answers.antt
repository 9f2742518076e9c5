use Rattle.std.specs.Prelude.{length}
use Rattle.std.proofs.Common.{◌∙◌, sym, subst, arith}
use Rattle.format_spec.specs.Formats.{IsFormat}
use Rattle.index_notation.specs.declared.syntax.Statement.{Statement}
use Rattle.iteration_graph.specs.Edges.{format_of}
use Rattle.format_spec.specs.declared.format.FormatLevel.{FormatLevel}
use Rattle.std.specs.Prelude.{ℕ, ◌≡◌, List}
use Rattle.concrete_notation.specs.Nests.{left_in_order}
use Rattle.concrete_notation.specs.Workspaces.{AreAllDense}
use Rattle.kernel_emit.specs.Emitted.{AddsLoops}
use Rattle.kernel_emit.specs.Given.{PlacesFit}
use Rattle.sparse_results.specs.Keys.{HasOrderedResult}
use Rattle.touched_workspaces.specs.Sinks.{touched_sink}
use Rattle.taco_compiler.specs.Loops.{MayBeLowered}
use Rattle.taco_compiler.proofs.Fits.{IsTarget, loops_fit, places_fit}
use Rattle.taco_compiler.proofs.Targets.{keys_are_target, keys_many}
use Rattle.taco_compiler.proofs.touched.mark_rows.Goals as goal

-- the one left variable is the target
one_target : (s : Statement) (formats : List (List FormatLevel)) (order left : List ℕ) → MayBeLowered s formats order
    → (AreAllDense (format_of formats s.left.tensor) → ⊥) → length s.left.vars ≡ 1 → left ≡ left_in_order s order → IsTarget s left 1
one_target s formats order left ready some one is =
    let result = ready.named.result in
    let ordered : HasOrderedResult s formats = record {
      numbered = ready.numbered;
      named = ready.named;
      left = ready.left;
      format = subst (λ t. IsFormat (format_of formats t)) result ready.formed.0;
      some = λ dense. some (subst (λ t. AreAllDense (format_of formats t)) (sym result) dense);
    } in
    subst (λ keys. IsTarget s keys 1) (sym is)
    (keys_are_target s formats ordered order ready.is_order 1 (keys_many s formats ordered order ready.is_order ∙ one))

pub emit-requires-clause-places : goal.emit-requires-clause-places
emit-requires-clause-places g c =
    let s = c.args.statement.now in
    let formats = c.args.formats.now in
    let left = c.in_ok-left.left in
    let places = c.in_ok-places.places in
    subst (λ target. PlacesFit s formats places target 1 3) (sym c.as_slice-target.ensures)
    (places_fit s formats places 0 left 1 c.requires.ready.numbered c.requires.ready.named c.requires.ready.right
    c.in_ok-places.ensures.variables c.in_ok-places.ensures.accesses (omega arith)
    (one_target s formats c.args.order.now left c.requires.ready c.requires.some c.requires.one c.in_ok-left.ensures))

pub emit-requires-clause-loops : goal.emit-requires-clause-loops
emit-requires-clause-loops g c =
    loops_fit g.S.Semiring.has_minus c.args.statement.now c.args.formats.now c.args.order.now c.in_ok-loops.loops c.requires.ready.numbered
    c.requires.ready.flat c.requires.meant c.in_ok-loops.ensures

pub returns : goal.returns
returns g c = record {
  loops = c.in_ok-loops.loops;
  are = c.in_ok-loops.ensures;
  places = c.in_ok-places.places;
  at = c.in_ok-places.ensures.accesses;
  below = (places_fit c.args.statement.now c.args.formats.now c.in_ok-places.places 0 c.in_ok-left.left 1 c.requires.ready.numbered
      c.requires.ready.named c.requires.ready.right c.in_ok-places.ensures.variables c.in_ok-places.ensures.accesses (omega arith)
      (one_target c.args.statement.now c.args.formats.now c.args.order.now c.in_ok-left.left c.requires.ready c.requires.some
      c.requires.one c.in_ok-left.ensures)).below;
  adds = subst (λ target. AddsLoops g.S.Semiring.arithmetic touched_sink c.args.sink c.args.statement.now c.args.formats.now
      c.in_ok-places.places target c.in_ok-loops.loops 3 1 c.in_ok-emitted.emitted.lists c.in_ok-emitted.emitted.code)
      (c.as_slice-target.ensures ∙ c.in_ok-left.ensures) c.in_ok-emitted.ensures;
}
