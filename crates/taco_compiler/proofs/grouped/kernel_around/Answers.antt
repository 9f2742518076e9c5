use Rattle.std.specs.Prelude.{◌+◌, ◌*◌, ◌++◌, length, drop, refl}
use Rattle.std.proofs.Common.{◌∙◌, sym, ap, subst, arith}
use Rattle.format_spec.specs.Formats.{IsFormat, letters_of, modes_of}
use Rattle.iteration_graph.specs.Edges.{format_of}
use Rattle.concrete_notation.specs.Workspaces.{AreAllDense}
use Rattle.term_code.specs.Places.{StartsAt}
use Rattle.sparse_results.specs.Keys.{HasOrderedResult}
use Rattle.appended_results.specs.Begins.{BeginsFirst}
use Rattle.appended_results.specs.Ends.{EndsFirst}
use Rattle.appended_kernels.specs.Kernels.{IsForAppended}
use Rattle.taco_compiler.proofs.AppendedKernels.{levels_few, places_from, sink_fits}
use Rattle.taco_compiler.proofs.GroupedKernels.{bound_there, grouped_compiled}
use Rattle.taco_compiler.proofs.Heads.{head_is}
use Rattle.taco_compiler.proofs.grouped.kernel_around.Goals as goal

pub group_rows-requires-clause-keys : goal.group_rows-requires-clause-keys
group_rows-requires-clause-keys g c = ap (λ n. c.args.sink.now.first + n) c.requires.keys ∙ c.requires.tail.many

pub end_levels-requires : goal.end_levels-requires
end_levels-requires g c =
    let sink = c.args.sink.now.outer.now in
    let few = levels_few c.args.statement.now c.args.formats.now sink c.requires.grouped.ready.numbered
    c.requires.grouped.ready.left c.requires.outer.levels in
    let base = c.requires.outer.base in
    let same = ap length c.as_slice-levels.ensures in
    record { room = record { result = omega arith; code = omega (arith, few, base, same) } }

pub returns-clause-compiled : goal.returns-clause-compiled
returns-clause-compiled g c =
    let s = c.args.statement.now in
    let formats = c.args.formats.now in
    let order = c.args.order.now in
    let result = c.requires.grouped.ready.named.result in
    let a = g.S.Semiring.arithmetic in
    let laws = g.met.S.Semiring.laws in
    let grouped = c.args.sink.now in
    let sink = c.args.sink.now.outer.now in
    let rows = c.in_ok-grouped.ensures in
    let emitted = c.in_ok-grouped.grouped in
    let ordered : HasOrderedResult s formats = record {
      numbered = c.requires.grouped.ready.numbered;
      named = c.requires.grouped.ready.named;
      left = c.requires.grouped.ready.left;
      format = subst (λ t. IsFormat (format_of formats t)) result c.requires.grouped.ready.formed.0;
      some = λ dense. c.requires.grouped.some (subst (λ t. AreAllDense (format_of formats t)) (sym result) dense);
    } in
    let for_appended : IsForAppended s formats =
    record {
      ordered = ordered;
      flat = c.requires.grouped.ready.flat;
      read = c.requires.grouped.ready.read;
      sorted = c.requires.grouped.sorted;
    } in
    let levels = c.as_slice-levels.ensures in
    let top = subst (λ ls. StartsAt (sink.base + 4 * length ls) c.in_ok-body.body) levels c.in_ok-body.ensures in
    let begin = subst (λ ls. BeginsFirst (letters_of ls) (length ls) sink.base (length ls) c.in_ok-begin.begin) levels
    c.in_ok-begin.ensures in
    let end = subst (λ ls. EndsFirst (letters_of ls) sink.base (sink.base + 4 * length ls) (length ls) c.in_ok-end.end) levels
    c.in_ok-end.ensures in
    grouped_compiled a laws s formats order for_appended c.requires.grouped.called rows.loops rows.are g.W.RowSink.sink
    g.W.DrainedWorkspace.draining grouped
    (sink_fits a s formats sink ordered c.requires.outer.levels c.requires.outer.head c.requires.outer.zero) rows.places rows.at
    (places_from s (sink.base + 4 * length sink.levels) rows.places rows.variables rows.at) c.in_ok-body.body c.in_ok-begin.begin
    c.args.begun emitted.code c.in_ok-end.end top begin (sink.base + 4 * length sink.levels + 3) emitted.lists c.args.workspaces
    (record {
      workspace = c.requires.workspace;
      suits = c.requires.suits;
      modes = c.requires.tail.are ∙ ap (λ t. drop grouped.first (modes_of (format_of formats t))) result;
      keys = ap (λ n. grouped.first + n) c.requires.keys ∙ c.requires.tail.many;
      begins = c.requires.begins;
      places_below = rows.below;
      room = omega arith;
      placed = rows.are.placed;
      bound = bound_there a laws s formats order for_appended c.requires.grouped.called rows.loops rows.are;
      adds = rows.adds;
    })
    rows.chain (head_is s formats order grouped.first grouped.modes.now c.requires.tail) c.requires.tail.rest
    (sink.base + 4 * length sink.levels) end (record {
      semiring = c.in_ok-semiring.semiring;
      workspaces = c.args.workspaces;
      lists = emitted.lists;
      body = c.append-4.new.self;
    }) refl c.requires.spaces (omega arith)
    (c.in_ok-append-4.ensures.ok ∙ ap (λ b. b ++ c.in_ok-end.end)
    (c.in_ok-append-3.ensures.ok ∙ ap (λ b. b ++ c.append-2.new.self) c.in_ok-append.ensures.ok
    ∙ ap (λ d. (c.in_ok-body.body ++ c.in_ok-begin.begin) ++ d) c.in_ok-append-2.ensures.ok))
