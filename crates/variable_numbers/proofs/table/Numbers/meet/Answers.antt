use Rattle.std.proofs.Common.{◌∙◌, Some, ap, sym}
use Rattle.variable_numbers.proofs.Tables.{met_now}
use Rattle.variable_numbers.proofs.table.Numbers.meet.Goals as goal

pub invariant_of-self-in-None-1 : goal.invariant_of-self-in-None-1
invariant_of-self-in-None-1 c =
    let numbers = c.make_room.new.self in
    let found = c.in-Some-None in
    record {
      each_once =
          met_now numbers.table c.set.new.self numbers.names c.push.new.self c.args.x c.len-number.result numbers.each_once
          (sym found.ensures.value ∙ ap Some found.field-0-is) c.len-number.ensures c.in_ok-push.ensures.ok c.set.ensures;
    }
