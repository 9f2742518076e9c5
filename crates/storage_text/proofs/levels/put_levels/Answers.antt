use Rattle.std.specs.Prelude.{◌≡◌, ℕ, ◌+◌, ◌<◌, List, length, drop, Some, slice_get, slice_index_or}
use Rattle.std.proofs.Common.{◌∙◌, ap, sym}
use Rattle.std.proofs.lemmas.Option.{slice_get-get_or}
use Rattle.tensor_storage.specs.declared.level.StorageLevel.{StorageLevel}
use Rattle.text_lines.proofs.PutPieces.{more_so_far, rest_told, then_rest, refused}
use Rattle.storage_text.specs.StoreText.{lines_from, text_of}
use Rattle.storage_text.proofs.Lines.{lines_step}
use Rattle.storage_text.proofs.levels.put_levels.Goals as goal

got : (levels : List StorageLevel) (i : ℕ) (l : StorageLevel) → i < length levels → l ≡ slice_index_or levels i l
    → slice_get levels i ≡ Some l
got levels i l inside is = slice_get-get_or levels i l inside ∙ ap Some (sym is)

pub loop-i-preserved : goal.loop-i-preserved
loop-i-preserved g c =
    let levels = c.args.levels.now in
    let l = c.index-levels-i.result in
    let there = got levels c.loop-i.i l c.loop-i-test.true c.index-levels-i.is in
    more_so_far _ _ _ _ _ _ (rest_told _ _ _ _ _ (lines_step levels c.loop-i.i l there) c.loop-i.invariant) c.in_ok-put_level.ensures

pub returns-in_err-put_level : goal.returns-in_err-put_level
returns-in_err-put_level g c =
    let levels = c.args.levels.now in
    let l = c.index-levels-i.result in
    let there = got levels c.loop-i.i l c.loop-i-test.true c.index-levels-i.is in
    then_rest _ _ _ _ _ _ (rest_told _ _ _ _ _ (lines_step levels c.loop-i.i l there) c.loop-i.invariant)
    (refused c.from_residual.result c.in_err-put_level.field-0.0 _ _ _
    (text_of (lines_from (c.loop-i.i + 1 + 1) (drop (c.loop-i.i + 1) levels))) c.from_residual.ensures.1 c.in_err-put_level.ensures)
