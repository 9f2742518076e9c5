use Rattle.std.proofs.Common.{inr, arith}
use Rattle.std.proofs.lemmas.Result.{err_from_is_err_and}
use Rattle.outside.proofs.Feeding.{feeds_none, refused_to_read}
use Rattle.outside.proofs.reads.feed_piece.Goals as goal

pub returns-in_err-n-clause-stops : goal.returns-in_err-n-clause-stops
returns-in_err-n-clause-stops g c =
    let p = err_from_is_err_and c.from_residual.result c.from_residual.ensures.1 in
    rw (p.1, p.2) (refused_to_read g.E.Eater.eaten g.E.Eater.refused _ _ c.args.left c.args.eater.now c.in_err-n.field-0.0
    c.in_err-n.ensures.refused)

pub returns-then-n-left-clause-stops : goal.returns-then-n-left-clause-stops
returns-then-n-left-clause-stops g c =
    record { mid = _; n = 0; feeds = feeds_none _ _; buffer = _; m = _; reads = c.in_ok-n.ensures.read; over = omega arith }

pub returns-in-Err-clause-stops : goal.returns-in-Err-clause-stops
returns-in-Err-clause-stops g c = inr (record {
  mid = _;
  before = c.args.eater.now;
  n = 0;
  feeds = feeds_none _ _;
  buffer = _;
  m = _;
  reads = c.in_ok-n.ensures.read;
  refuses = c.in-Err.ensures.err;
})
