use Rattle.std.proofs.Common.{◌≡◌, ℕ, ◌<◌, ◌≤◌, max, get_or}
use Rattle.tensor_map.proofs.entries.raise.Given as goal

abbrev pub invariant-loop-mode : goal.invariant-loop-mode
invariant-loop-mode l = record {
  behind : (k : ℕ) → k < l.mode → get_or l.greatest k 0 ≡ max (get_or l.coords k 0) (get_or l.fn.greatest k 0);
  ahead : (k : ℕ) → l.mode ≤ k → get_or l.greatest k 0 ≡ get_or l.fn.greatest k 0;
}
