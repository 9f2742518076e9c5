use Rattle.std.proofs.Common.{List, ℕ, ◌++◌, length, ap, ◌∙◌}
use Rattle.std.specs.Prelude.{filter}
use Rattle.std.specs.Fmt.{decimal}
use Rattle.tensor_map.specs.Entries.{is_nonzero}
use Rattle.mtx_io.specs.Text.{banner_text, rows_of, columns_of, line_of, size_text, entries_text}
use Rattle.text_lines.proofs.PutPieces.{then_printed, refused, retold}
use Rattle.mtx_io.proofs.WrittenEntries.{below_small}
use Rattle.mtx_io.proofs.printing.put_matrix.Goals as goal

pub returns-in_err-put_all : goal.returns-in_err-put_all
returns-in_err-put_all g c =
    let signed = g.S.Semiring.is_signed in
    let written = filter (is_nonzero g.S.Semiring.arithmetic) c.args.entries.now.list in
    refused c.from_residual.result c.in_err-put_all.field-0.0 _ _ banner_text
    (size_text c.args.shape.now (length written) ++ entries_text signed written) c.from_residual.ensures.1 c.in_err-put_all.ensures.part

pub put_entries-requires-clause-small : goal.put_entries-requires-clause-small
put_entries-requires-clause-small g c =
    λ k d h. below_small c.args.shape.now _ c.ranges-ranges.ensures.shape.within (c.requires.below k d h)

pub returns-in_err-put_size : goal.returns-in_err-put_size
returns-in_err-put_size g c =
    let signed = g.S.Semiring.is_signed in
    let written = filter (is_nonzero g.S.Semiring.arithmetic) c.args.entries.now.list in
    let ranges = c.ranges-ranges.ensures.value in
    let columns = c.columns_in.ensures ∙ ap columns_of ranges in
    let size : List ℕ = line_of (decimal (rows_of c.ranges-ranges.result.now)) (decimal c.columns_in.result)
    (decimal c.count_nonzero-count.result) in
    let r = c.from_residual-in_err-put_size in
    retold r.result _ _ _ (banner_text ++ (size ++ entries_text signed written))
    (λ i. banner_text ++ (line_of (decimal (rows_of (ranges i))) (decimal (columns i)) (decimal (c.count_nonzero-count.ensures i))
    ++ entries_text signed written))
    (then_printed r.result _ _ _ banner_text (size ++ entries_text signed written) c.in_ok-put_all.ensures.whole
    (refused r.result c.in_err-put_size.field-0.0 _ _ size (entries_text signed written) r.ensures.1 c.in_err-put_size.ensures))

pub returns : goal.returns
returns g c =
    let signed = g.S.Semiring.is_signed in
    let written = filter (is_nonzero g.S.Semiring.arithmetic) c.args.entries.now.list in
    let ranges = c.ranges-ranges.ensures.value in
    let columns = c.columns_in.ensures ∙ ap columns_of ranges in
    let size : List ℕ = line_of (decimal (rows_of c.ranges-ranges.result.now)) (decimal c.columns_in.result)
    (decimal c.count_nonzero-count.result) in
    retold c.put_entries.result _ _ _ (banner_text ++ (size ++ entries_text signed written))
    (λ i. banner_text ++ (line_of (decimal (rows_of (ranges i))) (decimal (columns i)) (decimal (c.count_nonzero-count.ensures i))
    ++ entries_text signed written))
    (then_printed c.put_entries.result _ _ _ banner_text (size ++ entries_text signed written) c.in_ok-put_all.ensures.whole
    (then_printed c.put_entries.result _ _ _ size (entries_text signed written) c.in_ok-put_size.ensures c.put_entries.ensures))
