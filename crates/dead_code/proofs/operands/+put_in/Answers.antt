use Rattle.dead_code.proofs.Gathering.{put_in_at, put_in_bin, put_in_min, put_in_width}
use Rattle.dead_code.proofs.operands.+put_in.Goals as goal

pub returns-in_ok-new-in-At : goal.returns-in_ok-new-in-At
returns-in_ok-new-in-At t c =
    put_in_at c.args.x c.args.e.now c.args.f.now c.in-At.a c.in-At.i c.get.result.now c.in_ok-i-in-At.i c.in_ok-new-in-At.field-0 c.in-At.is
    c.get.ensures c.in_ok-i-in-At.ensures c.in_ok-new-in-At.ensures

pub returns-in_ok-new-in-Width : goal.returns-in_ok-new-in-Width
returns-in_ok-new-in-Width t c =
    put_in_width c.args.x c.args.e.now c.args.f.now c.in-Width.i c.get-in-Width.result.now c.in_ok-i-in-Width.i
    c.in_ok-new-in-Width.field-0 c.in-Width.is c.get-in-Width.ensures c.in_ok-i-in-Width.ensures c.in_ok-new-in-Width.ensures

pub returns-in_ok-new-in-Bin : goal.returns-in_ok-new-in-Bin
returns-in_ok-new-in-Bin t c =
    let s = c.in-Bin in
    put_in_bin c.args.x c.args.e.now c.args.f.now s.op s.a s.b c.get-in-Bin.result.now c.get-in-Bin-2.result.now c.in_ok-a-in-Bin.a
    c.in_ok-b-in-Bin.b c.in_ok-a-in-Bin-2.a c.in_ok-new-in-Bin.field-0 s.is c.get-in-Bin.ensures c.get-in-Bin-2.ensures
    c.in_ok-a-in-Bin.ensures c.in_ok-b-in-Bin.ensures c.in_ok-a-in-Bin-2.ensures c.in_ok-new-in-Bin.ensures

pub returns-in_ok-new-in-Min : goal.returns-in_ok-new-in-Min
returns-in_ok-new-in-Min t c =
    let s = c.in-Min in
    put_in_min c.args.x c.args.e.now c.args.f.now s.a s.b c.get-in-Min.result.now c.get-in-Min-2.result.now c.in_ok-a-in-Min.a
    c.in_ok-b-in-Min.b c.in_ok-a-in-Min-2.a c.in_ok-new-in-Min.field-0 s.is c.get-in-Min.ensures c.get-in-Min-2.ensures
    c.in_ok-a-in-Min.ensures c.in_ok-b-in-Min.ensures c.in_ok-a-in-Min-2.ensures c.in_ok-new-in-Min.ensures
