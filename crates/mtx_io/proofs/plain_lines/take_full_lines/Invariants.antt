use Rattle.std.proofs.Common.{◌≡◌, List, ℕ, ◌++◌}
use Rattle.mtx_io.specs.Plain.{full_due}
use Rattle.mtx_io.specs.Reader.{IsReadSoFar}
use Rattle.mtx_io.specs.declared.stage.Stage.TheVariants.{Sized}
use Rattle.mtx_io.proofs.plain_lines.take_full_lines.Given as goal

-- what was taken so far is read
abbrev pub invariant-loop-left : goal.invariant-loop-left
invariant-loop-left g l = record {
  order : l.entries.order ≡ l.fn.entries.order;
  read : (taken : List ℕ) × (l.fn.piece ≡ taken ++ l.rest)
      × ((fed : List ℕ) → IsReadSoFar g.S.Semiring.arithmetic g.S.Semiring.has_minus g.S.Semiring.is_signed l.fn.entries.order fed
      l.fn.lines.text
      l.fn.entries.list
      (Sized (full_due l.header l.count))
      → IsReadSoFar g.S.Semiring.arithmetic g.S.Semiring.has_minus g.S.Semiring.is_signed l.fn.entries.order (fed
      ++ taken) l.lines.text l.entries.list (Sized (full_due l.header l.left)));
}

abbrev pub decreases-loop-left : goal.decreases-loop-left
decreases-loop-left g l = l.left
