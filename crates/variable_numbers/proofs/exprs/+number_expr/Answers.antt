use Rattle.std.proofs.Common.{refl}
use Rattle.variable_numbers.specs.Numbers.{Renamed}
use Rattle.variable_numbers.proofs.Renaming.{reads_at, reads_bin, reads_min, reads_width}
use Rattle.variable_numbers.proofs.exprs.+number_expr.Goals as goal

pub returns-in_ok-new-in-At : goal.returns-in_ok-new-in-At
returns-in_ok-new-in-At t c =
    let s = c.in-At in
    reads_at (Renamed c.args.numbers.now.names) c.args.e.now _ s.a s.i c.get.result.now c.in_ok-i-in-At.i c.in_ok-new-in-At.field-0 s.is
    c.get.ensures c.in_ok-i-in-At.ensures c.in_ok-new-in-At.ensures refl

pub returns-in_ok-new-in-Width : goal.returns-in_ok-new-in-Width
returns-in_ok-new-in-Width t c =
    let s = c.in-Width in
    reads_width (Renamed c.args.numbers.now.names) c.args.e.now _ s.e c.get-in-Width.result.now c.in_ok-e-in-Width.e
    c.in_ok-new-in-Width.field-0 s.is c.get-in-Width.ensures c.in_ok-e-in-Width.ensures c.in_ok-new-in-Width.ensures refl

pub returns-in_ok-new-in-Bin : goal.returns-in_ok-new-in-Bin
returns-in_ok-new-in-Bin t c =
    let s = c.in-Bin in
    reads_bin (Renamed c.args.numbers.now.names) c.args.e.now _ s.op s.a s.b c.get-in-Bin.result.now c.get-in-Bin-2.result.now
    c.in_ok-a-in-Bin.a c.in_ok-b-in-Bin.b c.in_ok-a-in-Bin-2.a c.in_ok-new-in-Bin.field-0 s.is c.get-in-Bin.ensures c.get-in-Bin-2.ensures
    c.in_ok-a-in-Bin.ensures c.in_ok-b-in-Bin.ensures c.in_ok-a-in-Bin-2.ensures c.in_ok-new-in-Bin.ensures refl

pub returns-in_ok-new-in-Min : goal.returns-in_ok-new-in-Min
returns-in_ok-new-in-Min t c =
    let s = c.in-Min in
    reads_min (Renamed c.args.numbers.now.names) c.args.e.now _ s.a s.b c.get-in-Min.result.now c.get-in-Min-2.result.now
    c.in_ok-a-in-Min.a c.in_ok-b-in-Min.b c.in_ok-a-in-Min-2.a c.in_ok-new-in-Min.field-0 s.is c.get-in-Min.ensures c.get-in-Min-2.ensures
    c.in_ok-a-in-Min.ensures c.in_ok-b-in-Min.ensures c.in_ok-a-in-Min-2.ensures c.in_ok-new-in-Min.ensures refl
