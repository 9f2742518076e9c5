use Rattle.std.proofs.Common.{◌≡◌, ℕ, ◌<◌, ◌≤◌, get_or, length}
use Rattle.tensor_map.specs.Columns.{KeepsBelow}
use Rattle.tensor_map.proofs.columns.lengthen.Given as goal

abbrev pub invariant-loop-mode : goal.invariant-loop-mode
invariant-loop-mode l = record {
  kept : (k : ℕ) (d : _) → k < l.mode → KeepsBelow l.count (get_or l.fn.columns k d).items (get_or l.columns k d).items;
  long : (k : ℕ) (d : _) → k < l.mode → l.wanted ≤ length (get_or l.columns k d).items;
  ahead : (k : ℕ) (d : _) → l.mode ≤ k → get_or l.columns k d ≡ get_or l.fn.columns k d;
}
