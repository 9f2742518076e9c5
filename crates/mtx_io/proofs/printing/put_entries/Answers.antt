use Rattle.std.proofs.Common.{[], ◌∷◌, ◌+◌, ◌<◌, length, arith}
use Rattle.std.specs.Prelude.{filter, drop, slice_index_or}
use Rattle.tensor_map.specs.Entries.{Entry, is_nonzero}
use Rattle.mtx_io.specs.Text.{entries_text}
use Rattle.text_lines.proofs.PutPieces.{more_so_far, rest_told, then_rest, refused}
use Rattle.mtx_io.proofs.WrittenEntries.{left_is}
use Rattle.mtx_io.proofs.printing.put_entries.Goals as goal

pub loop-i-preserved : goal.loop-i-preserved
loop-i-preserved g c =
    let a = g.S.Semiring.arithmetic in
    let signed = g.S.Semiring.is_signed in
    let list = c.args.entries.now.list in
    let d : Entry = record { coords = []; value = 0 } in
    let within : c.loop-i.i < length list = omega (arith, c.loop-i-test.true, c.len-i-end.ensures.value) in
    more_so_far _ _ _ _ (entries_text signed (filter (is_nonzero a) (slice_index_or list c.loop-i.i d ∷ [])))
    (entries_text signed (filter (is_nonzero a) (drop (c.loop-i.i + 1) list)))
    (rest_told _ _ _ _ _ (left_is a signed list c.loop-i.i d within) c.loop-i.invariant) (c.in_ok-put_if_nonzero.ensures d)

pub returns-in_err-put_if_nonzero : goal.returns-in_err-put_if_nonzero
returns-in_err-put_if_nonzero g c =
    let a = g.S.Semiring.arithmetic in
    let signed = g.S.Semiring.is_signed in
    let list = c.args.entries.now.list in
    let d : Entry = record { coords = []; value = 0 } in
    let within : c.loop-i.i < length list = omega (arith, c.loop-i-test.true, c.len-i-end.ensures.value) in
    then_rest _ _ _ _ _ _ (rest_told _ _ _ _ _ (left_is a signed list c.loop-i.i d within) c.loop-i.invariant)
    (refused c.from_residual.result c.in_err-put_if_nonzero.field-0.0 _ _
    (entries_text signed (filter (is_nonzero a) (slice_index_or list c.loop-i.i d ∷ [])))
    (entries_text signed (filter (is_nonzero a) (drop (c.loop-i.i + 1) list)))
    c.from_residual.ensures.1 (c.in_err-put_if_nonzero.ensures d))
