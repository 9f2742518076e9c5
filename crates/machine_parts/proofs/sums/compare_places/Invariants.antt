use Rattle.std.proofs.Common.{◌≡◌, drop}
use Rattle.kernel_code.specs.Rows.{compare_keys, keys_at}
use Rattle.machine_parts.proofs.SumLemmas.{read}
use Rattle.machine_parts.proofs.sums.compare_places.Given as goal

-- the columns before are equal at both places
abbrev pub invariant-loop-column : goal.invariant-loop-column
invariant-loop-column l =
    compare_keys (keys_at (read (drop l.column-index l.columns)) l.i) (keys_at (read (drop l.column-index l.columns)) l.j) ≡ compare_keys
    (keys_at (read l.columns) l.i) (keys_at (read l.columns) l.j)
