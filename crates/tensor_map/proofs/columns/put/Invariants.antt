use Rattle.std.proofs.Common.{◌≡◌, ℕ, ◌<◌, ◌≤◌, get_or}
use Rattle.std.specs.Prelude.{slice_set}
use Rattle.tensor_map.proofs.columns.put.Given as goal

abbrev pub invariant-loop-mode : goal.invariant-loop-mode
invariant-loop-mode l = record {
  behind : (k : ℕ) (d : _) → k < l.mode → (get_or l.columns k d).items
      ≡ slice_set (get_or l.fn.columns k d).items l.place (get_or l.coords k 0);
  ahead : (k : ℕ) (d : _) → l.mode ≤ k → get_or l.columns k d ≡ get_or l.fn.columns k d;
}
