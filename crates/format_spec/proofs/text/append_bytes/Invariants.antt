use Rattle.std.specs.Prelude.{◌≡◌, ◌++◌, take}
use Rattle.format_spec.proofs.text.append_bytes.Given as goal

abbrev pub invariant-loop-byte : goal.invariant-loop-byte
invariant-loop-byte l = (l.text.items ≡ l.fn.text.items ++ take l.byte-index l.bytes) × (l.text.capacity ≡ l.fn.text.capacity)
