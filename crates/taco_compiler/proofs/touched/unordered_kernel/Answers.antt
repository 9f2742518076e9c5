use Rattle.std.specs.Prelude.{[], length}
use Rattle.std.proofs.Common.{◌∙◌, ap, arith}
use Rattle.std.proofs.lemmas.List.{get_or_read, length-map}
use Rattle.format_spec.specs.declared.format.FormatLevel.{FormatLevel}
use Rattle.format_spec.specs.Formats.{modes_of}
use Rattle.iteration_graph.specs.Edges.{format_of}
use Rattle.taco_compiler.proofs.touched.unordered_kernel.Goals as goal

pub touched_kernel-requires-clause-modes : goal.touched_kernel-requires-clause-modes
touched_kernel-requires-clause-modes g c =
    let format = get_or_read c.args.formats.now c.args.statement.now.left.tensor c.index-formats-statement.result
    c.requires.ready.left.tensor c.index-formats-statement.is [] in
    c.as_slice-modes.ensures ∙ c.in_ok-all.ensures ∙ ap modes_of format

pub sparse_kernel-requires-clause-several : goal.sparse_kernel-requires-clause-several
sparse_kernel-requires-clause-several g c one =
    let format = get_or_read c.args.formats.now c.args.statement.now.left.tensor c.index-formats-statement.result
    c.requires.ready.left.tensor c.index-formats-statement.is [] in
    let many = ap length (c.as_slice-modes.ensures ∙ c.in_ok-all.ensures ∙ ap modes_of format)
    ∙ length-map (format_of c.args.formats.now c.args.statement.now.left.tensor) (λ (level : FormatLevel). level.mode) in
    let order = c.requires.ready.left.order in
    absurd (c.if-modes-eq1.false (omega (arith, many, order, one)))
