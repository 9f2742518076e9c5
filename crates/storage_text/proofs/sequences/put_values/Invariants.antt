use Rattle.std.specs.Prelude.{drop}
use Rattle.std.specs.List.{flat_map}
use Rattle.outside.specs.Sink.{AppendsSoFar}
use Rattle.storage_text.specs.StoreText.{value_text}
use Rattle.storage_text.proofs.sequences.put_values.Given as goal

abbrev pub invariant-loop-value : goal.invariant-loop-value
invariant-loop-value g l =
    AppendsSoFar (g.K.Sink.state l.fn.sink) (g.K.Sink.state l.sink) (flat_map (value_text g.S.Semiring.is_signed) l.values)
    (flat_map (value_text g.S.Semiring.is_signed) (drop l.value-index l.values))
