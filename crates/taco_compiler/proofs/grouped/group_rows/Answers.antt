use Rattle.std.specs.Prelude.{◌≡◌, ◌+◌, ◌*◌, length, take, drop, replicate}
use Rattle.std.proofs.Common.{◌∙◌, sym, ap, subst, arith}
use Rattle.std.proofs.lemmas.List.{take-append-drop}
use Rattle.format_spec.specs.Formats.{IsFormat}
use Rattle.iteration_graph.specs.Edges.{format_of}
use Rattle.concrete_notation.specs.Workspaces.{AreAllDense}
use Rattle.concrete_notation.specs.Nests.{left_in_order}
use Rattle.dense_results.specs.Kernels.{AreAtBase}
use Rattle.sparse_results.specs.Keys.{HasOrderedResult}
use Rattle.kernel_emit.specs.Given.{PlacesFit}
use Rattle.term_code.specs.Places.{AreBelow}
use Rattle.appended_results.specs.Sink.{appended_sink}
use Rattle.grouped_loops.specs.Chains.{IsChain}
use Rattle.grouped_loops.specs.Emitted.{AddsGroups}
use Rattle.grouped_kernels.proofs.Chains.{lowered_chain}
use Rattle.taco_compiler.proofs.AppendedKernels.{levels_few}
use Rattle.taco_compiler.proofs.Fits.{IsTarget, loops_fit, places_fit}
use Rattle.taco_compiler.proofs.LoopTurns.{in_order_of}
use Rattle.taco_compiler.proofs.Targets.{keys_are_target, keys_many}
use Rattle.taco_compiler.proofs.grouped.group_rows.Goals as goal

pub emit_grouped-requires-clause-places : goal.emit_grouped-requires-clause-places
emit_grouped-requires-clause-places g c =
    let s = c.args.statement.now in
    let formats = c.args.formats.now in
    let order = c.args.order.now in
    let left = c.in_ok-left.left in
    let places = c.in_ok-places.places in
    let sink = c.args.sink.now.outer.now in
    let result = c.requires.ready.named.result in
    let ordered : HasOrderedResult s formats = record {
      numbered = c.requires.ready.numbered;
      named = c.requires.ready.named;
      left = c.requires.ready.left;
      format = subst (λ t. IsFormat (format_of formats t)) result c.requires.ready.formed.0;
      some = λ dense. c.requires.some (subst (λ t. AreAllDense (format_of formats t)) (sym result) dense);
    } in
    let few = levels_few s formats sink c.requires.ready.numbered c.requires.ready.left c.requires.levels in
    let base = c.requires.base in
    let many = c.len.ensures in
    subst (λ target. PlacesFit s formats places target (length sink.levels) (sink.base + 4 * c.len.result + 3))
    (sym c.as_slice-target.ensures)
    (places_fit s formats places (sink.base + 4 * c.len.result) left (length sink.levels) c.requires.ready.numbered
    c.requires.ready.named c.requires.ready.right c.in_ok-places.ensures.variables c.in_ok-places.ensures.accesses
    (omega (arith, few, base, many))
    (subst (λ keys. IsTarget s keys (length sink.levels)) (sym c.in_ok-left.ensures)
    (keys_are_target s formats ordered order c.requires.ready.is_order (length sink.levels)
    (keys_many s formats ordered order c.requires.ready.is_order ∙ sym (ap length c.requires.levels ∙ c.requires.ready.left.order)))))

pub emit_grouped-requires-clause-loops : goal.emit_grouped-requires-clause-loops
emit_grouped-requires-clause-loops g c =
    loops_fit g.S.Semiring.has_minus c.args.statement.now c.args.formats.now c.args.order.now c.in_ok-loops.loops c.requires.ready.numbered
    c.requires.ready.flat c.requires.meant c.in_ok-loops.ensures

pub emit_grouped-requires-clause-keys : goal.emit_grouped-requires-clause-keys
emit_grouped-requires-clause-keys g c = c.requires.keys ∙ ap length (sym (c.as_slice-target.ensures ∙ c.in_ok-left.ensures))

pub emit_grouped-requires-clause-chain : goal.emit_grouped-requires-clause-chain
emit_grouped-requires-clause-chain g c =
    let s = c.args.statement.now in
    let formats = c.args.formats.now in
    let order = c.args.order.now in
    let loops = c.in_ok-loops.loops in
    let l = c.in_ok-loops.ensures in
    let first = c.args.sink.now.first in
    subst (λ vs. IsChain (take first vs) loops) (sym (c.as_slice-target.ensures ∙ c.in_ok-left.ensures))
    (lowered_chain s formats c.requires.ready.numbered l.concrete (in_order_of s formats order loops l) l.shares l.none loops l.shape
    (take first (left_in_order s order)) (drop first (left_in_order s order)) (sym (take-append-drop first (left_in_order s order)))
    c.requires.outer)

pub overflow_mul-base : goal.overflow_mul-base
overflow_mul-base g c =
    let few = levels_few c.args.statement.now c.args.formats.now c.args.sink.now.outer.now c.requires.ready.numbered c.requires.ready.left
    c.requires.levels in
    let many = c.len.ensures in omega (arith, few, many)

pub overflow_add-base : goal.overflow_add-base
overflow_add-base g c =
    let few = levels_few c.args.statement.now c.args.formats.now c.args.sink.now.outer.now c.requires.ready.numbered c.requires.ready.left
    c.requires.levels in
    let many = c.len.ensures in
    let base = c.requires.base in omega (arith, few, many, base)

pub overflow_add-base-2 : goal.overflow_add-base-2
overflow_add-base-2 g c =
    let few = levels_few c.args.statement.now c.args.formats.now c.args.sink.now.outer.now c.requires.ready.numbered c.requires.ready.left
    c.requires.levels in
    let many = c.len.ensures in
    let base = c.requires.base in omega (arith, few, many, base)

pub returns : goal.returns
returns g c =
    let s = c.args.statement.now in
    let formats = c.args.formats.now in
    let order = c.args.order.now in
    let grouped = c.args.sink.now in
    let sink = c.args.sink.now.outer.now in
    let places = c.in_ok-places.places in
    let loops = c.in_ok-loops.loops in
    let l = c.in_ok-loops.ensures in
    let emitted = c.in_ok-emitted.emitted in
    let many = c.len.ensures in
    let result = c.requires.ready.named.result in
    let ordered : HasOrderedResult s formats = record {
      numbered = c.requires.ready.numbered;
      named = c.requires.ready.named;
      left = c.requires.ready.left;
      format = subst (λ t. IsFormat (format_of formats t)) result c.requires.ready.formed.0;
      some = λ dense. c.requires.some (subst (λ t. AreAllDense (format_of formats t)) (sym result) dense);
    } in
    let few = levels_few s formats sink c.requires.ready.numbered c.requires.ready.left c.requires.levels in
    let base = c.requires.base in
    let first = grouped.first in
    record {
      loops = loops;
      are = l;
      places = places;
      at = subst (λ n. AreAtBase s (sink.base + 4 * n) places) many c.in_ok-places.ensures.accesses;
      variables = subst (λ n. places.variables ≡ replicate (length s.vars) (sink.base + 4 * n)) many c.in_ok-places.ensures.variables;
      below = subst (λ n. AreBelow (sink.base + 4 * n + 3) places) many
          (places_fit s formats places (sink.base + 4 * c.len.result) c.in_ok-left.left (length sink.levels) c.requires.ready.numbered
          c.requires.ready.named c.requires.ready.right c.in_ok-places.ensures.variables c.in_ok-places.ensures.accesses
          (omega (arith, few, base, many))
          (subst (λ keys. IsTarget s keys (length sink.levels)) (sym c.in_ok-left.ensures)
          (keys_are_target s formats ordered order c.requires.ready.is_order (length sink.levels)
          (keys_many s formats ordered order c.requires.ready.is_order
          ∙ sym (ap length c.requires.levels ∙ c.requires.ready.left.order))))).below;
      chain = lowered_chain s formats c.requires.ready.numbered l.concrete (in_order_of s formats order loops l) l.shares l.none
          loops l.shape
          (take first (left_in_order s order)) (drop first (left_in_order s order)) (sym (take-append-drop first (left_in_order s order)))
          c.requires.outer;
      adds = subst (λ n. AddsGroups g.S.Semiring.arithmetic g.W.RowSink.sink appended_sink g.W.DrainedWorkspace.draining grouped s
          formats places
          (left_in_order s order) 0 loops (sink.base + 4 * n + 3) 0 emitted.lists emitted.code) many
          (subst (λ target. AddsGroups g.S.Semiring.arithmetic g.W.RowSink.sink appended_sink g.W.DrainedWorkspace.draining grouped
          s formats
          places target 0 loops (sink.base + 4 * c.len.result + 3) 0 emitted.lists emitted.code)
          (c.as_slice-target.ensures ∙ c.in_ok-left.ensures) c.in_ok-emitted.ensures);
    }
