use Rattle.std.proofs.Common.{subst}
use Rattle.dead_code.specs.Gathers.{Gathers, last_of}
use Rattle.dead_code.proofs.LiveLemmas.{covers_then, reads_more}
use Rattle.dead_code.proofs.operands.gather_live.Goals as goal

pub returns : goal.returns
returns c =
    let o = c.in_ok-operands in
    let first = c.add_reads in
    let last = c.add_reads-2 in
    record {
      within = o.ensures.within;
      gathers =
          subst (λ live. Gathers live (last_of o.operands.taken c.args.before.now) c.args.e.now c.args.f.now o.operands.first
          o.operands.second)
          c.as_slice.ensures o.ensures.gathers;
      covers = covers_then last.new.live first.new.live c.args.live.now last.ensures.covers first.ensures.covers;
      first = reads_more last.new.live first.new.live o.operands.first last.ensures.covers first.ensures.reads;
      second = last.ensures.reads;
    }
