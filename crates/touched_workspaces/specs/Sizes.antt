-- How large a range may be for which a workspace keeps a mark and a sum for each coordinate.
use Rattle.std.specs.Prelude.{ℕ}

-- 2^20: above it the two arrays would cost more than most workspaces hold
unfoldable pub greatest_marked_range : ℕ
greatest_marked_range = 1048576
