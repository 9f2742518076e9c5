use Rattle.std.specs.Prelude.{◌≡◌, drop}
use Rattle.std.specs.Ordering.{nat_cmp}
use Rattle.std.specs.Cmp.Lexicographic.{slice_cmp}
use Rattle.tensor_storage.specs.Arranged.{level_coords}
use Rattle.tensor_storage.proofs.entries.compare_entries.Given as goal

abbrev pub invariant-loop-level : goal.invariant-loop-level
invariant-loop-level l = slice_cmp nat_cmp (level_coords l.format l.entries.list l.left) (level_coords l.format l.entries.list l.right)
    ≡ slice_cmp nat_cmp (drop l.level (level_coords l.format l.entries.list l.left))
    (drop l.level (level_coords l.format l.entries.list l.right))
