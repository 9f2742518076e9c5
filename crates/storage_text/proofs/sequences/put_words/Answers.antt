use Rattle.std.specs.Prelude.{◌≡◌, ℕ, ◌+◌, List, drop, Some, slice_get, slice_index}
use Rattle.std.specs.List.{flat_map}
use Rattle.std.proofs.Common.{ap, arith}
use Rattle.std.proofs.lemmas.List.{drop_all}
use Rattle.std.proofs.lemmas.Option.{slice_get-get_or}
use Rattle.text_lines.proofs.PutPieces.{none_so_far, more_so_far, all_so_far, rest_told, then_rest, refused}
use Rattle.tensor_storage.specs.Levels.{meaning}
use Rattle.storage_text.specs.StoreText.{word_text, all_words}
use Rattle.storage_text.proofs.Lines.{words_many, word_there}
use Rattle.text_lines.proofs.ListTexts.{text_step}
use Rattle.storage_text.proofs.sequences.put_words.Goals as goal

pub loop-at-init : goal.loop-at-init
loop-at-init g c = none_so_far _ (flat_map word_text (all_words (meaning.words c.args.level.now c.args.array)))

pub loop-at-preserved : goal.loop-at-preserved
loop-at-preserved g c =
    let o = meaning.words c.args.level.now c.args.array in
    let at : ℕ = c.loop-at.at in
    let many = words_many o c.args.count c.requires in
    let below = c.loop-at-test.true in
    let there = slice_get-get_or (all_words o) at 0 (omega (arith, many, below)) in
    more_so_far _ _ _ _ _ _
    (rest_told _ _ _ _ _ (text_step word_text (all_words o) at (slice_index (all_words o) at) there) c.loop-at.invariant)
    (c.in_ok-put_word.ensures (slice_index (all_words o) at) (word_there o at (slice_index (all_words o) at) there))

pub returns-in_err-put_word : goal.returns-in_err-put_word
returns-in_err-put_word g c =
    let o = meaning.words c.args.level.now c.args.array in
    let at : ℕ = c.loop-at.at in
    let many = words_many o c.args.count c.requires in
    let below = c.loop-at-test.true in
    let there = slice_get-get_or (all_words o) at 0 (omega (arith, many, below)) in
    then_rest _ _ _ _ _ _
    (rest_told _ _ _ _ _ (text_step word_text (all_words o) at (slice_index (all_words o) at) there) c.loop-at.invariant)
    (refused c.from_residual.result c.in_err-put_word.field-0.0 _ _ _ (flat_map word_text (drop (at + 1) (all_words o)))
    c.from_residual.ensures.1 (c.in_err-put_word.ensures (slice_index (all_words o) at)
    (word_there o at (slice_index (all_words o) at) there)))

pub returns : goal.returns
returns g c =
    let words : List ℕ = all_words (meaning.words c.args.level.now c.args.array) in
    let many = words_many (meaning.words c.args.level.now c.args.array) c.args.count c.requires in
    let end = c.loop-at-test.false in
    all_so_far _ _ _ _ (ap (flat_map word_text) (drop_all c.loop-at.at words (omega (arith, many, end)))) c.loop-at.invariant
