use Rattle.std.proofs.Common.{◌-◌, arith}
use Rattle.outside.proofs.Feeding.{feeds_none, feeds_then, feeds_end, stops_after}
use Rattle.outside.proofs.reads.read_rest.Goals as goal

pub loop-n-init : goal.loop-n-init
loop-n-init g c = record { feeds = feeds_none _ _; within = omega arith }

pub loop-n-preserved : goal.loop-n-preserved
loop-n-preserved g c =
    record {
      feeds = feeds_then c.loop-n.invariant.feeds c.in-Ok.ensures.fed;
      within =
          omega (arith, c.in-Ok.ensures.within, c.loop-n.invariant.within);
    }

pub returns-in-Ok-eq0-clause-fed : goal.returns-in-Ok-eq0-clause-fed
returns-in-Ok-eq0-clause-fed g c = feeds_end c.loop-n.invariant.feeds c.in-Ok-eq0.ensures.fed c.in-Ok-eq0.field-0-test

pub returns-in-Err-clause-stops : goal.returns-in-Err-clause-stops
returns-in-Err-clause-stops g c =
    stops_after g.E.Eater.eaten g.E.Eater.refused _ _ _ c.args.eater.now c.loop-n.eater c.feed_piece.new.eater c.loop-n.count
    (c.args.budget - c.loop-n.count) c.args.budget c.in-Err.stop c.loop-n.invariant.feeds (omega arith) c.in-Err.ensures.stops
