use Rattle.std.specs.Prelude.{ℕ, List, [], ◌∷◌, ◌++◌}
use Rattle.std.specs.List.{flat_map}
use Rattle.text_lines.proofs.PutPieces.{printed, refused, retold, then_printed}
use Rattle.tensor_storage.specs.Levels.{meaning}
use Rattle.storage_text.specs.StoreText.{head_text, array_text, all_words, word_text}
use Rattle.storage_text.proofs.Lines.{line_is}
use Rattle.storage_text.proofs.levels.put_line.Goals as goal

pub returns-in_err-put_head : goal.returns-in_err-put_head
returns-in_err-put_head g c =
    let l = c.args.level.now in
    let h : List ℕ = head_text c.args.number (meaning.kind l) in
    let w : List ℕ = array_text c.args.array in
    let n : List ℕ = flat_map word_text (all_words (meaning.words l c.args.array)) in
    retold _ _ _ _ _ (line_is h w n)
    (refused c.from_residual.result c.in_err-put_head.field-0.0 _ _ (h ++ w) (n ++ 10 ∷ [])
    c.from_residual.ensures.1 c.in_err-put_head.ensures)

pub returns-in_err-put_words : goal.returns-in_err-put_words
returns-in_err-put_words g c =
    let l = c.args.level.now in
    let h : List ℕ = head_text c.args.number (meaning.kind l) in
    let w : List ℕ = array_text c.args.array in
    let n : List ℕ = flat_map word_text (all_words (meaning.words l c.args.array)) in
    let r = c.from_residual-in_err-put_words in
    retold _ _ _ _ _ (line_is h w n)
    (then_printed _ _ _ _ (h ++ w) (n ++ 10 ∷ []) c.in_ok-put_head.ensures
    (refused r.result c.in_err-put_words.field-0.0 _ _ n (10 ∷ []) r.ensures.1 c.in_err-put_words.ensures))

pub returns : goal.returns
returns g c =
    let l = c.args.level.now in
    let h : List ℕ = head_text c.args.number (meaning.kind l) in
    let w : List ℕ = array_text c.args.array in
    let n : List ℕ = flat_map word_text (all_words (meaning.words l c.args.array)) in
    retold _ _ _ _ _ (line_is h w n)
    (then_printed _ _ _ _ (h ++ w) (n ++ 10 ∷ []) c.in_ok-put_head.ensures
    (then_printed _ _ _ _ n (10 ∷ []) c.in_ok-put_words.ensures (printed _ _ _ _ c.put_all.ensures.whole c.put_all.ensures.part)))
