use Rattle.std.specs.Prelude.{drop}
use Rattle.std.specs.List.{flat_map}
use Rattle.outside.specs.Sink.{AppendsSoFar}
use Rattle.tensor_storage.specs.Levels.{meaning}
use Rattle.storage_text.specs.StoreText.{word_text, all_words}
use Rattle.storage_text.proofs.sequences.put_words.Given as goal

abbrev pub invariant-loop-at : goal.invariant-loop-at
invariant-loop-at g l =
    AppendsSoFar (g.S.Sink.state l.fn.sink) (g.S.Sink.state l.sink) (flat_map word_text (all_words (meaning.words l.level l.array)))
    (flat_map word_text (drop l.at (all_words (meaning.words l.level l.array))))
