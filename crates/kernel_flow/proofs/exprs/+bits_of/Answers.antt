use Rattle.kernel_flow.proofs.BitLemmas.{covers_at, covers_every, covers_least, covers_operator, covers_variable, covers_width}
use Rattle.kernel_flow.proofs.BitLemmas.{within_every, within_variable}
use Rattle.kernel_flow.proofs.ExprLemmas.{is_true}
use Rattle.kernel_flow.proofs.exprs.+bits_of.Goals as goal

pub returns-in-Var-clause-covers : goal.returns-in-Var-clause-covers
returns-in-Var-clause-covers t c = covers_variable c.args.e.now c.args.noted c.in-Var.x c.in-Var.is

pub returns-in-Var-clause-within : goal.returns-in-Var-clause-within
returns-in-Var-clause-within t c = within_variable c.args.noted c.in-Var.x

pub returns-in-At-clause-covers : goal.returns-in-At-clause-covers
returns-in-At-clause-covers t c =
    let s = c.in-At in
    covers_at c.bits_of.result c.args.e.now s.array s.i c.get.result.now s.is c.get.ensures
    (c.is_read_only.ensures (is_true c.is_read_only.result c.if-is_read_only.true)) c.bits_of.ensures.covers

pub returns-in-At-2-clause-covers : goal.returns-in-At-2-clause-covers
returns-in-At-2-clause-covers t c = covers_every c.args.e.now

pub returns-in-At-2-clause-within : goal.returns-in-At-2-clause-within
returns-in-At-2-clause-within t c = within_every c.args.noted

pub returns-in-Len-2-clause-covers : goal.returns-in-Len-2-clause-covers
returns-in-Len-2-clause-covers t c = covers_every c.args.e.now

pub returns-in-Len-2-clause-within : goal.returns-in-Len-2-clause-within
returns-in-Len-2-clause-within t c = within_every c.args.noted

pub returns-in-Bin-clause-covers : goal.returns-in-Bin-clause-covers
returns-in-Bin-clause-covers t c =
    let s = c.in-Bin in
    covers_operator c.bits_of-in-Bin.result c.args.e.now s.field-0 s.a s.b c.get-in-Bin.result.now c.get-in-Bin-2.result.now
    c.bits_of-first.result s.is c.get-in-Bin.ensures c.get-in-Bin-2.ensures c.bits_of-first.ensures.covers c.bits_of-in-Bin.ensures.within
    c.bits_of-in-Bin.ensures.covers

pub returns-in-Min-clause-covers : goal.returns-in-Min-clause-covers
returns-in-Min-clause-covers t c =
    let s = c.in-Min in
    covers_least c.bits_of-in-Min.result c.args.e.now s.a s.b c.get-in-Min.result.now c.get-in-Min-2.result.now
    c.bits_of-first-in-Min.result s.is c.get-in-Min.ensures c.get-in-Min-2.ensures c.bits_of-first-in-Min.ensures.covers
    c.bits_of-in-Min.ensures.within c.bits_of-in-Min.ensures.covers

pub returns-in-Width-clause-covers : goal.returns-in-Width-clause-covers
returns-in-Width-clause-covers t c =
    covers_width c.bits_of-in-Width.result c.args.e.now c.in-Width.e c.get-in-Width.result.now c.in-Width.is c.get-in-Width.ensures
    c.bits_of-in-Width.ensures.covers
