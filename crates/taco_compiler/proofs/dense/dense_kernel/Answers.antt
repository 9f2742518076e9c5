use Rattle.std.specs.Prelude.{length}
use Rattle.std.proofs.Common.{◌∙◌, sym, ap, subst, arith}
use Rattle.format_spec.specs.Formats.{modes_of}
use Rattle.iteration_graph.specs.Edges.{format_of}
use Rattle.concrete_notation.specs.Workspaces.{AreAllDense}
use Rattle.kernel_emit.specs.Emitted.{AddsLoops}
use Rattle.kernel_emit.specs.Given.{PlacesFit}
use Rattle.term_code.specs.DenseSinks.{dense_sink}
use Rattle.row_orders.proofs.TakingLaws.{dense_calls_for_none}
use Rattle.taco_compiler.proofs.DenseKernels.{dense_compiled}
use Rattle.taco_compiler.proofs.Fits.{left_is_target, loops_fit, places_fit}
use Rattle.taco_compiler.proofs.dense.dense_kernel.Goals as goal

pub emit-requires-clause-places : goal.emit-requires-clause-places
emit-requires-clause-places g c =
    let s = c.args.statement.now in
    let formats = c.args.formats.now in
    let modes = c.in_ok-sink.sink.modes in
    let places = c.in_ok-places.places in
    subst (λ target. PlacesFit s formats places target (length modes) 3) (sym c.as_slice-target.ensures)
    (places_fit s formats places 0 s.left.vars (length modes) c.requires.ready.numbered c.requires.ready.named c.requires.ready.right
    c.in_ok-places.ensures.variables c.in_ok-places.ensures.accesses (omega arith)
    (left_is_target s formats modes c.requires.ready.numbered c.requires.ready.left c.in_ok-sink.ensures))

pub emit-requires-clause-loops : goal.emit-requires-clause-loops
emit-requires-clause-loops g c =
    loops_fit g.S.Semiring.has_minus c.args.statement.now c.args.formats.now c.args.order.now c.in_ok-loops.loops c.requires.ready.numbered
    c.requires.ready.flat c.requires.meant c.in_ok-loops.ensures

pub returns-clause-compiled : goal.returns-clause-compiled
returns-clause-compiled g c =
    let s = c.args.statement.now in
    let formats = c.args.formats.now in
    let sink = c.in_ok-sink.sink in
    let places = c.in_ok-places.places in
    let loops = c.in_ok-loops.loops in
    let result = c.requires.ready.named.result in
    let emitted = c.in_ok-emitted.emitted in
    dense_compiled g.S.Semiring.arithmetic g.met.S.Semiring.laws s formats (record {
      numbered = c.requires.ready.numbered;
      named = c.requires.ready.named;
      left = c.requires.ready.left;
      flat = c.requires.ready.flat;
      read = c.requires.ready.read;
      dense = subst (λ t. AreAllDense (format_of formats t)) result c.requires.dense;
    }) c.args.order.now (dense_calls_for_none s formats c.args.order.now c.requires.dense) loops c.in_ok-loops.ensures sink
    (c.in_ok-sink.ensures ∙ ap (λ t. modes_of (format_of formats t)) result) places
    c.in_ok-places.ensures.accesses c.in_ok-body.body emitted c.in_ok-body.ensures 3
    (subst (λ target. AddsLoops g.S.Semiring.arithmetic dense_sink sink s formats places target loops 3 0 emitted.lists emitted.code)
    c.as_slice-target.ensures c.in_ok-emitted.ensures)
    (record { semiring = c.in_ok-semiring.semiring; workspaces = c.new.result; lists = emitted.lists; body = c.append.new.self })
    c.new.ensures (omega arith) c.in_ok-append.ensures.ok
