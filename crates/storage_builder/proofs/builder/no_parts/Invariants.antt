use Rattle.std.specs.Prelude.{◌≡◌, replicate}
use Rattle.tensor_storage.specs.Handed.{no_words}
use Rattle.storage_builder.proofs.builder.no_parts.Given as goal

abbrev pub invariant-loop-level : goal.invariant-loop-level
invariant-loop-level l = l.parts.items ≡ replicate l._level no_words
