use Rattle.std.specs.Prelude.{◌++◌, refl}
use Rattle.std.proofs.Common.{◌∙◌, sym, ap, subst}
use Rattle.format_spec.specs.Formats.{IsFormat}
use Rattle.iteration_graph.specs.Edges.{format_of}
use Rattle.concrete_notation.specs.Workspaces.{AreAllDense}
use Rattle.taco_compiler.specs.Filling.{FillsFromRows}
use Rattle.taco_compiler.proofs.SparseKernels.{sparse_compiled}
use Rattle.taco_compiler.proofs.sparse.sparse_kernel.Goals as goal

pub returns-clause-compiled : goal.returns-clause-compiled
returns-clause-compiled g c =
    let s = c.args.statement.now in
    let formats = c.args.formats.now in
    let result = c.requires.ready.named.result in
    let a = g.S.Semiring.arithmetic in
    let pushes = c.in_ok-pushed.ensures in
    let pushed = c.in_ok-pushed.pushed in
    sparse_compiled a g.met.S.Semiring.laws s formats (record {
      numbered = c.requires.ready.numbered;
      named = c.requires.ready.named;
      left = c.requires.ready.left;
      flat = c.requires.ready.flat;
      read = c.requires.ready.read;
      format = subst (λ t. IsFormat (format_of formats t)) result c.requires.ready.formed.0;
      some = λ dense. c.requires.some (subst (λ t. AreAllDense (format_of formats t)) (sym result) dense);
    }) c.args.order.now c.requires.called c.requires.unordered c.requires.several pushes.loops pushes.are pushes.places pushes.at
    c.in_ok-body.body c.in_ok-fill.fill pushed
    c.in_ok-body.ensures 3 pushes.adds
    (subst (λ t. FillsFromRows (format_of formats t) a.zero c.in_ok-fill.fill) result c.in_ok-fill.ensures)
    (record {
      semiring = c.in_ok-semiring.semiring;
      workspaces = c.in_ok-workspaces.workspaces;
      lists = pushed.lists;
      body = c.append-2.new.self;
    }) c.in_ok-workspaces.ensures refl
    (c.in_ok-append-2.ensures.ok ∙ ap (λ b. b ++ c.in_ok-fill.fill) c.in_ok-append.ensures.ok)
