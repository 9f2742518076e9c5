use Rattle.std.proofs.Common.{◌≡◌, List, ℕ, ◌++◌, length}
use Rattle.mtx_io.specs.Progress.{IsStage}
use Rattle.mtx_io.specs.Reader.{IsReadSoFar}
use Rattle.mtx_io.proofs.pieces.take_piece.Given as goal

-- what was taken so far is read
abbrev pub invariant-loop-rest : goal.invariant-loop-rest
invariant-loop-rest g l = record {
  order : l.entries.order ≡ l.fn.entries.order;
  stage : IsStage g.S.Semiring.has_minus l.fn.entries.order l.entries.list l.stage;
  read : (taken : List ℕ) × (l.fn.piece ≡ taken ++ l.rest)
      × ((fed : List ℕ) → IsReadSoFar g.S.Semiring.arithmetic g.S.Semiring.has_minus g.S.Semiring.is_signed l.fn.entries.order fed
      l.fn.lines.text
      l.fn.entries.list
      l.fn.stage
      → IsReadSoFar g.S.Semiring.arithmetic g.S.Semiring.has_minus g.S.Semiring.is_signed l.fn.entries.order (fed
      ++ taken) l.lines.text l.entries.list l.stage);
}

abbrev pub decreases-loop-rest : goal.decreases-loop-rest
decreases-loop-rest g l = length l.rest
