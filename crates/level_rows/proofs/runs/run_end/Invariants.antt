use Rattle.std.specs.Prelude.{◌≡◌, ◌≤◌, ◌<◌, ◌+◌, ℕ, slice_index}
use Rattle.level_rows.proofs.runs.run_end.Given as goal

abbrev pub invariant-loop-word : goal.invariant-loop-word
invariant-loop-word l =
    (l.long ≡ l.word-index + 1) × ((i : ℕ) → l.first ≤ i → i < l.first + l.long → slice_index l.column i ≡ slice_index l.column l.first)
