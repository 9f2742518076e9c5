use Rattle.std.specs.Prelude.{◌≡◌, take}
use Rattle.tensor_storage.proofs.places.widened.Given as goal

abbrev pub invariant-loop-word : goal.invariant-loop-word
invariant-loop-word l = l.words.items ≡ take l.word-index l.column
