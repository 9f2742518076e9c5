use Rattle.variable_numbers.proofs.Tables.{longer_or_same}
use Rattle.variable_numbers.proofs.table.Numbers.make_room.Goals as goal

pub invariant_of-self : goal.invariant_of-self
invariant_of-self c =
    let numbers = c.loop-n.self in
    record {
      each_once = longer_or_same numbers.table c.push.new.self numbers.names c.push.result numbers.each_once c.push.ensures.ok
          c.push.ensures.err;
    }
