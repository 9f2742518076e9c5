use Rattle.std.specs.Prelude.{◌++◌, length, refl, slice_get, slice_index_or}
use Rattle.std.proofs.Common.{◌∙◌, sym, ap, subst, arith}
use Rattle.std.proofs.lemmas.List.{length-map}
use Rattle.format_spec.specs.declared.format.FormatLevel.{FormatLevel}
use Rattle.format_spec.specs.Formats.{modes_of}
use Rattle.iteration_graph.specs.Edges.{format_of}
use Rattle.touched_workspaces.specs.declared.sink.TouchedSink.{TouchedSink}
use Rattle.taco_compiler.specs.Marking.{FillsFromSums}
use Rattle.taco_compiler.proofs.Tails.{one_alone}
use Rattle.taco_compiler.proofs.TouchedKernels.{for_touched, mode_inside, touched_compiled}
use Rattle.taco_compiler.proofs.touched.touched_kernel.Goals as goal

pub mark_rows-requires-clause-one : goal.mark_rows-requires-clause-one
mark_rows-requires-clause-one g c =
    let many = ap length c.requires.modes ∙ length-map (format_of c.args.formats.now c.args.statement.now.left.tensor)
    (λ (level : FormatLevel). level.mode) in
    let order = c.requires.ready.left.order in
    let one = c.requires.one in
    omega (arith, many, order, one)

pub returns-clause-compiled : goal.returns-clause-compiled
returns-clause-compiled g c =
    let s = c.args.statement.now in
    let formats = c.args.formats.now in
    let modes = c.args.modes.now in
    let result = c.requires.ready.named.result in
    let a = g.S.Semiring.arithmetic in
    let marks = c.in_ok-marked.ensures in
    let marked = c.in_ok-marked.marked in
    let many = ap length c.requires.modes ∙ length-map (format_of formats s.left.tensor) (λ (level : FormatLevel). level.mode) in
    let order = c.requires.ready.left.order in
    let one = c.requires.one in
    let w : TouchedSink = record { dense = 0; list = 1; variable = slice_index_or modes 0 0; zero = c.zero.result } in
    touched_compiled a g.met.S.Semiring.laws s formats
    (for_touched s formats c.args.order.now c.requires.ready c.requires.some c.requires.unordered (omega (arith, many, one)))
    c.args.order.now c.requires.called c.requires.unordered (omega (arith, many, order, one)) marks.loops marks.are w marks.places marks.at
    marks.below c.in_ok-body.body c.in_ok-code.code c.in_ok-fill.fill marked c.in_ok-body.ensures c.in_ok-code.ensures marks.adds
    (subst (λ t. FillsFromSums (format_of formats t) a.zero w c.in_ok-fill.fill) result c.in_ok-fill.ensures)
    (record {
      semiring = c.in_ok-semiring.semiring;
      workspaces = c.in_ok-workspaces.workspaces;
      lists = marked.lists;
      body = c.append-3.new.self;
    }) c.in_ok-workspaces.ensures
    (record {
      modes = ap (λ t. modes_of (format_of formats t)) (sym result) ∙ sym c.requires.modes ∙ one_alone modes one;
      inside = mode_inside s formats c.args.order.now modes c.requires.ready c.requires.modes one;
      zero = c.zero.ensures;
      apart = λ same. absurd (omega (arith, same));
      dense = ap (λ ws. slice_get ws 0) c.in_ok-workspaces.ensures;
      list = ap (λ ws. slice_get ws 1) c.in_ok-workspaces.ensures;
    })
    refl
    (c.in_ok-append-3.ensures.ok
    ∙ ap (λ b. b ++ c.in_ok-fill.fill) (c.in_ok-append-2.ensures.ok ∙ ap (λ b. c.in_ok-body.body ++ b) c.in_ok-append.ensures.ok))
