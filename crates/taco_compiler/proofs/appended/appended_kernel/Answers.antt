use Rattle.std.specs.Prelude.{◌+◌, ◌*◌, ◌++◌, length}
use Rattle.std.specs.List.{list_any}
use Rattle.std.proofs.Common.{◌∙◌, sym, ap, subst, arith}
use Rattle.format_spec.specs.Formats.{IsFormat, letters_of}
use Rattle.iteration_graph.specs.Edges.{format_of}
use Rattle.concrete_notation.proofs.Points.{neither}
use Rattle.concrete_notation.specs.Workspaces.{AreAllDense}
use Rattle.row_orders.specs.Heads.{head as left_head, result_levels}
use Rattle.row_orders.specs.Takings.{is_inside_sum, is_unordered}
use Rattle.term_code.specs.Places.{StartsAt}
use Rattle.sparse_results.specs.Keys.{HasOrderedResult}
use Rattle.appended_results.specs.Begins.{BeginsFirst}
use Rattle.appended_results.specs.Ends.{EndsFirst}
use Rattle.taco_compiler.proofs.AppendedKernels.{appended_compiled, levels_few, places_from, sink_fits}
use Rattle.taco_compiler.proofs.appended.appended_kernel.Goals as goal

pub end_levels-requires : goal.end_levels-requires
end_levels-requires g c =
    let sink = c.in_ok-sink.sink in
    let few = levels_few c.args.statement.now c.args.formats.now sink c.requires.ready.numbered c.requires.ready.left
    c.in_ok-sink.ensures.levels in
    let base = c.in_ok-sink.ensures.base in
    let same = ap length c.as_slice-levels.ensures in
    record { room = record { result = omega arith; code = omega (arith, few, base, same) } }

pub returns-clause-compiled : goal.returns-clause-compiled
returns-clause-compiled g c =
    let s = c.args.statement.now in
    let formats = c.args.formats.now in
    let order = c.args.order.now in
    let result = c.requires.ready.named.result in
    let a = g.S.Semiring.arithmetic in
    let sink = c.in_ok-sink.sink in
    let rows = c.in_ok-appended.ensures in
    let appended = c.in_ok-appended.appended in
    let ordered : HasOrderedResult s formats = record {
      numbered = c.requires.ready.numbered;
      named = c.requires.ready.named;
      left = c.requires.ready.left;
      format = subst (λ t. IsFormat (format_of formats t)) result c.requires.ready.formed.0;
      some = λ dense. c.requires.some (subst (λ t. AreAllDense (format_of formats t)) (sym result) dense);
    } in
    let levels = c.as_slice-levels.ensures in
    let top = subst (λ ls. StartsAt (sink.base + 4 * length ls) c.in_ok-body.body) levels c.in_ok-body.ensures in
    let begin = subst (λ ls. BeginsFirst (letters_of ls) (length ls) sink.base (length ls) c.in_ok-begin.begin) levels
    c.in_ok-begin.ensures in
    let end = subst (λ ls. EndsFirst (letters_of ls) sink.base (sink.base + 4 * length ls) (length ls) c.in_ok-end.end) levels
    c.in_ok-end.ensures in
    appended_compiled a g.met.S.Semiring.laws s formats order
    (record {
      ordered = ordered;
      flat = c.requires.ready.flat;
      read = c.requires.ready.read;
      sorted = (neither (list_any is_unordered (result_levels s formats)) (list_any (is_inside_sum s order) (left_head s formats))
          c.requires.none).0;
    }) c.requires.none rows.loops rows.are sink
    (sink_fits a s formats sink ordered c.in_ok-sink.ensures.levels c.in_ok-sink.ensures.head c.in_ok-sink.ensures.zero)
    rows.places rows.at (places_from s (sink.base + 4 * length sink.levels) rows.places rows.variables rows.at) c.in_ok-body.body
    c.in_ok-begin.begin c.in_ok-end.end appended top begin (sink.base + 4 * length sink.levels + 3) (sink.base + 4 * length sink.levels)
    (omega arith) rows.adds end (record {
      semiring = c.in_ok-semiring.semiring;
      workspaces = c.new-workspaces.result;
      lists = appended.lists;
      body = c.append-3.new.self;
    }) c.new-workspaces.ensures (omega arith)
    (c.in_ok-append-3.ensures.ok ∙ ap (λ b. b ++ c.in_ok-end.end)
    (c.in_ok-append-2.ensures.ok ∙ ap (λ b. b ++ appended.code) c.in_ok-append.ensures.ok))
