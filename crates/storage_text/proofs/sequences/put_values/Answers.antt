use Rattle.std.specs.Prelude.{ℕ, ◌+◌, drop, slice_index}
use Rattle.std.specs.List.{flat_map}
use Rattle.std.proofs.lemmas.Option.{slice_get-get_or}
use Rattle.text_lines.proofs.PutPieces.{more_so_far, refused, rest_told, then_rest}
use Rattle.storage_text.specs.StoreText.{value_text}
use Rattle.text_lines.proofs.ListTexts.{text_step}
use Rattle.storage_text.proofs.sequences.put_values.Goals as goal

pub loop-value-preserved : goal.loop-value-preserved
loop-value-preserved g c =
    let xs = c.args.values.now in
    let i : ℕ = c.loop-value.value-index in
    more_so_far _ _ _ _ _ _
    (rest_told _ _ _ _ _
    (text_step (value_text g.S.Semiring.is_signed) xs i (slice_index xs i) (slice_get-get_or xs i 0 c.loop-value-test.true))
    c.loop-value.invariant) c.in_ok-put_value.ensures

pub returns-in_err-put_value : goal.returns-in_err-put_value
returns-in_err-put_value g c =
    let xs = c.args.values.now in
    let i : ℕ = c.loop-value.value-index in
    then_rest _ _ _ _ _ _
    (rest_told _ _ _ _ _
    (text_step (value_text g.S.Semiring.is_signed) xs i (slice_index xs i) (slice_get-get_or xs i 0 c.loop-value-test.true))
    c.loop-value.invariant)
    (refused c.from_residual.result c.in_err-put_value.field-0.0 _ _ _ (flat_map (value_text g.S.Semiring.is_signed) (drop (i + 1) xs))
    c.from_residual.ensures.1 c.in_err-put_value.ensures)
