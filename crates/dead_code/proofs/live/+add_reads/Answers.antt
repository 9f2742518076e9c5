use Rattle.dead_code.proofs.LiveLemmas.{reads_at, reads_bin, reads_min, reads_more, reads_width}
use Rattle.dead_code.proofs.live.+add_reads.Goals as goal

pub returns-in-At-clause-reads : goal.returns-in-At-clause-reads
returns-in-At-clause-reads t c =
    reads_at c.add_reads.new.live c.args.e.now c.in-At.i c.get.result.now c.in-At.field-0 c.in-At.is c.get.ensures c.add_reads.ensures.reads

pub returns-in-Bin-clause-reads : goal.returns-in-Bin-clause-reads
returns-in-Bin-clause-reads t c =
    let s = c.in-Bin in
    let last = c.add_reads-in-Bin-2 in
    reads_bin last.new.live c.args.e.now s.a s.b c.get-in-Bin.result.now c.get-in-Bin-2.result.now s.field-0 s.is c.get-in-Bin.ensures
    c.get-in-Bin-2.ensures (reads_more last.new.live c.add_reads-in-Bin.new.live _ last.ensures.covers c.add_reads-in-Bin.ensures.reads)
    last.ensures.reads

pub returns-in-Min-clause-reads : goal.returns-in-Min-clause-reads
returns-in-Min-clause-reads t c =
    let s = c.in-Min in
    let last = c.add_reads-in-Min-2 in
    reads_min last.new.live c.args.e.now s.a s.b c.get-in-Min.result.now c.get-in-Min-2.result.now s.is c.get-in-Min.ensures
    c.get-in-Min-2.ensures (reads_more last.new.live c.add_reads-in-Min.new.live _ last.ensures.covers c.add_reads-in-Min.ensures.reads)
    last.ensures.reads

pub returns-in-Width-clause-reads : goal.returns-in-Width-clause-reads
returns-in-Width-clause-reads t c =
    reads_width c.add_reads-in-Width.new.live c.args.e.now c.in-Width.e c.get-in-Width.result.now c.in-Width.is c.get-in-Width.ensures
    c.add_reads-in-Width.ensures.reads
