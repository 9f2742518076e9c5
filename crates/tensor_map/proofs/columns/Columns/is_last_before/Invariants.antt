use Rattle.std.proofs.Common.{◌≡◌, drop, get_or}
use Rattle.std.specs.Ordering.{nat_cmp}
use Rattle.std.specs.Cmp.Lexicographic.{slice_cmp}
use Rattle.tensor_map.specs.Entries.{Entry}
use Rattle.tensor_map.proofs.columns.Columns.is_last_before.Given as goal

abbrev pub invariant-loop-mode : goal.invariant-loop-mode
invariant-loop-mode l = (d : Entry) → slice_cmp nat_cmp (drop l.mode (get_or l.self.list l.last d).coords) (drop l.mode l.coords)
    ≡ slice_cmp nat_cmp (get_or l.self.list l.last d).coords l.coords
