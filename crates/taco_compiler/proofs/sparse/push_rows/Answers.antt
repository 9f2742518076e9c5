use Rattle.std.specs.Prelude.{length}
use Rattle.std.proofs.Common.{◌∙◌, sym, ap, subst, arith}
use Rattle.format_spec.specs.Formats.{IsFormat}
use Rattle.iteration_graph.specs.Edges.{format_of}
use Rattle.concrete_notation.specs.Workspaces.{AreAllDense}
use Rattle.kernel_emit.specs.Emitted.{AddsLoops}
use Rattle.kernel_emit.specs.Given.{PlacesFit}
use Rattle.term_code.specs.WorkspaceSinks.{workspace_sink}
use Rattle.taco_compiler.proofs.Fits.{IsTarget, loops_fit, places_fit}
use Rattle.taco_compiler.proofs.Targets.{keys_are_target}
use Rattle.taco_compiler.proofs.sparse.push_rows.Goals as goal

pub emit-requires-clause-places : goal.emit-requires-clause-places
emit-requires-clause-places g c =
    let s = c.args.statement.now in
    let formats = c.args.formats.now in
    let order = c.args.order.now in
    let left = c.in_ok-left.left in
    let places = c.in_ok-places.places in
    let result = c.requires.ready.named.result in
    subst (λ target. PlacesFit s formats places target (length target) 3) (sym c.as_slice-target.ensures)
    (places_fit s formats places 0 left (length left) c.requires.ready.numbered c.requires.ready.named c.requires.ready.right
    c.in_ok-places.ensures.variables c.in_ok-places.ensures.accesses (omega arith)
    (subst (λ keys. IsTarget s keys (length left)) (sym c.in_ok-left.ensures)
    (keys_are_target s formats (record {
      numbered = c.requires.ready.numbered;
      named = c.requires.ready.named;
      left = c.requires.ready.left;
      format = subst (λ t. IsFormat (format_of formats t)) result c.requires.ready.formed.0;
      some = λ dense. c.requires.some (subst (λ t. AreAllDense (format_of formats t)) (sym result) dense);
    }) order c.requires.ready.is_order (length left) (ap length (sym c.in_ok-left.ensures)))))

pub emit-requires-clause-loops : goal.emit-requires-clause-loops
emit-requires-clause-loops g c =
    loops_fit g.S.Semiring.has_minus c.args.statement.now c.args.formats.now c.args.order.now c.in_ok-loops.loops c.requires.ready.numbered
    c.requires.ready.flat c.requires.meant c.in_ok-loops.ensures

pub returns : goal.returns
returns g c = record {
  loops = c.in_ok-loops.loops;
  are = c.in_ok-loops.ensures;
  places = c.in_ok-places.places;
  at = c.in_ok-places.ensures.accesses;
  adds = subst (λ target. AddsLoops g.S.Semiring.arithmetic workspace_sink (record { number = 0; keys = length target })
      c.args.statement.now c.args.formats.now c.in_ok-places.places target c.in_ok-loops.loops 3 1 c.in_ok-emitted.emitted.lists
      c.in_ok-emitted.emitted.code)
      (c.as_slice-target.ensures ∙ c.in_ok-left.ensures) c.in_ok-emitted.ensures;
}
