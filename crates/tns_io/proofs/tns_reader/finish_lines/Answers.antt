use Rattle.std.proofs.Common.{refl, subst}
use Rattle.tns_io.specs.Reading.{reading}
use Rattle.tns_io.specs.ReadSoFar.{Takes, Fails}
use Rattle.tns_io.proofs.EntryLaws.{last_read, last_fails}
use Rattle.tns_io.proofs.tns_reader.finish_lines.Goals as goal

pub returns-in-Ok : goal.returns-in-Ok
returns-in-Ok c = record {
  wants = refl;
  order_is = c.take_line.ensures.order;
  list_is =
      last_read c.args.signed c.args.entries.order c.args.lines c.finish.new.self c.args.entries.list c.requires c.in-Line.ensures.0
      c.in-Line.ensures.1
      c.in-Line.ensures.2 _
      (subst (λ l. Takes (reading c.args.signed c.args.entries.order l) c.args.entries.list c.take_line.new.entries.list) c.line.ensures
      c.in-Ok.ensures.takes);
}

pub returns : goal.returns
returns c =
    last_fails c.args.signed c.args.entries.order c.args.lines c.finish.new.self c.args.entries.list c.requires c.in-Line.ensures.0
    c.in-Line.ensures.1
    c.in-Line.ensures.2 c.in-Err.fault
    (subst (λ n. Fails n (reading c.args.signed c.args.entries.order c.finish.new.self.line) c.in-Err.fault) c.number-in-Line.ensures
    (subst (λ l. Fails c.number-in-Line.result
    (reading c.args.signed c.args.entries.order l) c.in-Err.fault) c.line.ensures c.in-Err.ensures.fails))
