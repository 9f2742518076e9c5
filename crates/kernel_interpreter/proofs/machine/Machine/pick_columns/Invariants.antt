use Rattle.std.proofs.Common.{◌≡◌, ℕ, List, Some, map}
use Rattle.machine_parts.specs.Rows.{row_of}
use Rattle.kernel_code.specs.Meaning.{key_columns, set_columns}
use Rattle.kernel_interpreter.specs.Store.{state_of}
use Rattle.kernel_interpreter.proofs.machine.Machine.pick_columns.Given as goal

-- the first k columns are replaced
abbrev pub invariant-loop-k : goal.invariant-loop-k
invariant-loop-k l = ((columns : List (List ℕ)) (count : ℕ) → key_columns (state_of l.fn.self) l.workspace count l.keys ≡ Some columns
    → state_of l.self ≡ set_columns (state_of l.fn.self) l.workspace (map (row_of columns) l.rows) l.k) × (l.self.turns ≡ l.fn.self.turns)
    × (l.self.variables ≡ l.fn.self.variables)
