use Rattle.std.specs.Prelude.{◌≡◌, ◌+◌, ◌<◌, ℕ, false}
use Rattle.tensor_storage.proofs.Arranging.{is_before}
use Rattle.tensor_storage.proofs.entries.are_in_order.Given as goal

abbrev pub invariant-loop-next : goal.invariant-loop-next
invariant-loop-next l = (k : ℕ) → k + 1 < l.next → is_before l.format l.entries.list (k + 1) k ≡ false
