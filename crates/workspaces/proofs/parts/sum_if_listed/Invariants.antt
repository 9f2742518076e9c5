use Rattle.std.specs.Prelude.{take}
use Rattle.tensor_map.specs.Entries.{value_at}
use Rattle.workspaces.specs.Presence.{TellsPart, is_listed}
use Rattle.workspaces.proofs.parts.sum_if_listed.Given as goal

-- the sum so far tells of the entries so far
abbrev pub invariant-loop-i : goal.invariant-loop-i
invariant-loop-i g l =
    TellsPart g.S.Semiring.arithmetic (is_listed (take l.i l.entries.list) l.coords)
    (value_at g.S.Semiring.arithmetic (take l.i l.entries.list) l.coords) l.sum
