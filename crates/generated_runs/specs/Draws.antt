-- A row of numbers that look random: a linear congruential generator modulo 2^64, with the multiplier and the increment of Knuth's MMIX,
-- of whose states the upper halves are drawn.
use Rattle.std.specs.Prelude.{ℕ, zero, suc, ◌+◌, ◌*◌, ◌/◌, ◌%◌, ◌^◌}

-- the state behind another
unfoldable pub next_state : ℕ → ℕ
next_state x = (6364136223846793005 * x + 1442695040888963407) % 2 ^ 64

-- the state behind so many draws from a state on
abbrev pub state_after : ℕ → ℕ → ℕ
state_after x zero = x
state_after x (suc count) = next_state (state_after x count)

-- the draw of this number from a state on, counted from 0: the upper half of the state that it leaves
abbrev pub draw : ℕ → ℕ → ℕ
draw x k = state_after x (suc k) / 2 ^ 32
