-- The width of a block: the smallest power of two that is at least 2 and at least twice a number.
use Rattle.std.specs.Prelude.{ℕ, ◌*◌, ◌^◌}
use Rattle.kernel_code.specs.Meaning.{least_exponent}

unfoldable pub slot_width : ℕ → ℕ
slot_width most = 2 * 2 ^ least_exponent most 62
