use Rattle.std.specs.Prelude.{ℕ, List, [], ◌∷◌, ◌++◌, codes}
use Rattle.std.proofs.Common.{◌∙◌, ap}
use Rattle.std.specs.Fmt.{decimal}
use Rattle.text_lines.proofs.PutPieces.{printed, refused, retold, then_printed}
use Rattle.storage_text.specs.StoreText.{head_text}
use Rattle.storage_text.proofs.Lines.{head_is}
use Rattle.storage_text.proofs.levels.put_head.Goals as goal

pub returns-in_err-put_all : goal.returns-in_err-put_all
returns-in_err-put_all g c =
    let b : List ℕ = 32 ∷ c.letter_byte.result ∷ [] in
    let w : List ℕ = c.array_text-word.result.now in
    retold _ _ _ _ _ (head_is c.args.number c.letter-kind.result b w (ap (λ x. 32 ∷ x ∷ []) c.letter_byte.ensures)
    ∙ (λ i. head_text c.args.number (c.letter-kind.ensures i) ++ c.array_text-word.ensures i))
    (refused c.from_residual.result c.in_err-put_all.field-0.0 _ _ (codes "level ") (decimal c.args.number ++ (b ++ w))
    c.from_residual.ensures.1 c.in_err-put_all.ensures.part)

pub returns-in_err-put_u64 : goal.returns-in_err-put_u64
returns-in_err-put_u64 g c =
    let b : List ℕ = 32 ∷ c.letter_byte.result ∷ [] in
    let w : List ℕ = c.array_text-word.result.now in
    retold _ _ _ _ _ (head_is c.args.number c.letter-kind.result b w (ap (λ x. 32 ∷ x ∷ []) c.letter_byte.ensures)
    ∙ (λ i. head_text c.args.number (c.letter-kind.ensures i) ++ c.array_text-word.ensures i))
    (then_printed _ _ _ _ (codes "level ") (decimal c.args.number ++ (b ++ w)) c.in_ok-put_all.ensures.whole
    (refused c.from_residual-in_err-put_u64.result c.in_err-put_u64.field-0.0 _ _ (decimal c.args.number) (b ++ w)
    c.from_residual-in_err-put_u64.ensures.1 c.in_err-put_u64.ensures.part))

pub returns-in_err-put_all-2 : goal.returns-in_err-put_all-2
returns-in_err-put_all-2 g c =
    let b : List ℕ = 32 ∷ c.letter_byte.result ∷ [] in
    let w : List ℕ = c.array_text-word.result.now in
    retold _ _ _ _ _ (head_is c.args.number c.letter-kind.result b w (ap (λ x. 32 ∷ x ∷ []) c.letter_byte.ensures)
    ∙ (λ i. head_text c.args.number (c.letter-kind.ensures i) ++ c.array_text-word.ensures i))
    (then_printed _ _ _ _ (codes "level ") (decimal c.args.number ++ (b ++ w)) c.in_ok-put_all.ensures.whole
    (then_printed _ _ _ _ (decimal c.args.number) (b ++ w) c.in_ok-put_u64.ensures.whole
    (refused c.from_residual-in_err-put_all-2.result c.in_err-put_all-2.field-0.0 _ _ b w
    c.from_residual-in_err-put_all-2.ensures.1 c.in_err-put_all-2.ensures.part)))

pub returns : goal.returns
returns g c =
    let b : List ℕ = 32 ∷ c.letter_byte.result ∷ [] in
    let w : List ℕ = c.array_text-word.result.now in
    retold _ _ _ _ _ (head_is c.args.number c.letter-kind.result b w (ap (λ x. 32 ∷ x ∷ []) c.letter_byte.ensures)
    ∙ (λ i. head_text c.args.number (c.letter-kind.ensures i) ++ c.array_text-word.ensures i))
    (then_printed _ _ _ _ (codes "level ") (decimal c.args.number ++ (b ++ w)) c.in_ok-put_all.ensures.whole
    (then_printed _ _ _ _ (decimal c.args.number) (b ++ w) c.in_ok-put_u64.ensures.whole
    (then_printed _ _ _ _ b w c.in_ok-put_all-2.ensures.whole
    (printed _ _ _ _ c.put_all-3.ensures.whole c.put_all-3.ensures.part))))
