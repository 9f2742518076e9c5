use Rattle.std.specs.Prelude.{ℕ, List, [], ◌∷◌, ◌++◌, codes}
use Rattle.std.specs.List.{flat_map}
use Rattle.std.proofs.Common.{◌∙◌, ap}
use Rattle.text_lines.proofs.PutPieces.{printed, refused, retold, then_printed}
use Rattle.storage_text.specs.StoreText.{value_text}
use Rattle.storage_text.proofs.Lines.{values_is}
use Rattle.storage_text.proofs.store.put_values_line.Goals as goal

pub returns-in_err-put_all : goal.returns-in_err-put_all
returns-in_err-put_all g c =
    let n : List ℕ = flat_map (value_text g.S.Semiring.is_signed) c.values-values.result.now in
    retold _ _ _ _ _ (ap
    (λ (vs : List ℕ). codes "val" ++ (flat_map (value_text g.S.Semiring.is_signed) vs ++ 10 ∷ [])) c.values-values.ensures
    ∙ values_is g.S.Semiring.is_signed c.args.tensor.now)
    (refused c.from_residual.result c.in_err-put_all.field-0.0 _ _ (codes "val") (n ++ 10 ∷ []) c.from_residual.ensures.1
    c.in_err-put_all.ensures.part)

pub returns-in_err-put_values : goal.returns-in_err-put_values
returns-in_err-put_values g c =
    let n : List ℕ = flat_map (value_text g.S.Semiring.is_signed) c.values-values.result.now in
    let r = c.from_residual-in_err-put_values in
    retold _ _ _ _ _ (ap
    (λ (vs : List ℕ). codes "val" ++ (flat_map (value_text g.S.Semiring.is_signed) vs ++ 10 ∷ [])) c.values-values.ensures
    ∙ values_is g.S.Semiring.is_signed c.args.tensor.now)
    (then_printed _ _ _ _ (codes "val") (n ++ 10 ∷ []) c.in_ok-put_all.ensures.whole
    (refused r.result c.in_err-put_values.field-0.0 _ _ n (10 ∷ []) r.ensures.1 c.in_err-put_values.ensures))

pub returns : goal.returns
returns g c =
    let n : List ℕ = flat_map (value_text g.S.Semiring.is_signed) c.values-values.result.now in
    retold _ _ _ _ _ (ap
    (λ (vs : List ℕ). codes "val" ++ (flat_map (value_text g.S.Semiring.is_signed) vs ++ 10 ∷ [])) c.values-values.ensures
    ∙ values_is g.S.Semiring.is_signed c.args.tensor.now)
    (then_printed _ _ _ _ (codes "val") (n ++ 10 ∷ []) c.in_ok-put_all.ensures.whole
    (then_printed _ _ _ _ n (10 ∷ []) c.in_ok-put_values.ensures (printed _ _ _ _ c.put_all-2.ensures.whole c.put_all-2.ensures.part)))
