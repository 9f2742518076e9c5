use Rattle.std.specs.Prelude.{ℕ, List, [], ◌∷◌, ◌++◌}
use Rattle.std.proofs.Common.{◌∙◌, ap}
use Rattle.tensor_storage.specs.declared.level.StorageLevel.{StorageLevel}
use Rattle.text_lines.proofs.PutPieces.{part_printed, refused, retold, then_printed}
use Rattle.storage_text.specs.StoreText.{first_line, lines_from, values_line, text_of}
use Rattle.storage_text.proofs.Lines.{store_is}
use Rattle.storage_text.proofs.store.put_store_text.Goals as goal

pub returns-in_err-put_first_line-clause-part : goal.returns-in_err-put_first_line-clause-part
returns-in_err-put_first_line-clause-part g c =
    let s = c.args.tensor.now in
    let t : List ℕ = text_of (first_line c.args.number c.args.name.now s ∷ []) in
    let l : List ℕ = text_of (lines_from 1 c.levels-levels.result.now) in
    let v : List ℕ = text_of (values_line g.S.Semiring.is_signed s ∷ []) in
    part_printed c.from_residual.result _ _ _
    (retold _ _ _ _ _ (ap (λ (ls : List StorageLevel). t ++ (text_of (lines_from 1 ls) ++ v)) c.levels-levels.ensures
    ∙ store_is g.S.Semiring.is_signed c.args.number c.args.name.now s)
    (refused c.from_residual.result c.in_err-put_first_line.field-0.0 _ _ t (l ++ v) c.from_residual.ensures.1
    c.in_err-put_first_line.ensures))

pub returns-in_err-put_levels-clause-part : goal.returns-in_err-put_levels-clause-part
returns-in_err-put_levels-clause-part g c =
    let s = c.args.tensor.now in
    let t : List ℕ = text_of (first_line c.args.number c.args.name.now s ∷ []) in
    let l : List ℕ = text_of (lines_from 1 c.levels-levels.result.now) in
    let v : List ℕ = text_of (values_line g.S.Semiring.is_signed s ∷ []) in
    part_printed c.from_residual-in_err-put_levels.result _ _ _
    (retold _ _ _ _ _ (ap (λ (ls : List StorageLevel). t ++ (text_of (lines_from 1 ls) ++ v)) c.levels-levels.ensures
    ∙ store_is g.S.Semiring.is_signed c.args.number c.args.name.now s)
    (then_printed _ _ _ _ t (l ++ v) c.in_ok-put_first_line.ensures
    (refused c.from_residual-in_err-put_levels.result c.in_err-put_levels.field-0.0 _ _ l v c.from_residual-in_err-put_levels.ensures.1
    c.in_err-put_levels.ensures)))

pub returns-clause-part : goal.returns-clause-part
returns-clause-part g c =
    let s = c.args.tensor.now in
    let t : List ℕ = text_of (first_line c.args.number c.args.name.now s ∷ []) in
    let l : List ℕ = text_of (lines_from 1 c.levels-levels.result.now) in
    let v : List ℕ = text_of (values_line g.S.Semiring.is_signed s ∷ []) in
    part_printed c.put_values_line.result _ _ _
    (retold _ _ _ _ _ (ap (λ (ls : List StorageLevel). t ++ (text_of (lines_from 1 ls) ++ v)) c.levels-levels.ensures
    ∙ store_is g.S.Semiring.is_signed c.args.number c.args.name.now s)
    (then_printed _ _ _ _ t (l ++ v) c.in_ok-put_first_line.ensures
    (then_printed _ _ _ _ l v c.in_ok-put_levels.ensures
    c.put_values_line.ensures)))
