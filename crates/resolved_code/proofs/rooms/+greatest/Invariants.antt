use Rattle.std.proofs.Common.{◌≡◌, drop}
use Rattle.std.specs.Prelude.{max}
use Rattle.resolved_code.specs.Rooms.{room_to, room_of_code}
use Rattle.resolved_code.proofs.rooms.+greatest.Given as goal

abbrev pub invariant-greatest_variable-loop-s : goal.invariant-greatest_variable-loop-s
invariant-greatest_variable-loop-s l = max (room_to l.greatest) (room_of_code (drop l.s-index l.code)) ≡ room_of_code l.code
