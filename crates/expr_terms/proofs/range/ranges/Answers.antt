use Rattle.std.specs.Prelude.{ℕ, Result, Ok, List, length}
use Rattle.std.proofs.Common.{◌∙◌, sym, ap, arith}
use Rattle.expr_terms.specs.Ranges.{RangeFault, range_of, ranges_of}
use Rattle.expr_terms.specs.Told.{bound_at, given_at}
use Rattle.expr_terms.proofs.RangesFound.{next_range, first_refusal, passes_on, handed_on}
use Rattle.expr_terms.proofs.range.ranges.Goals as goal

pub loop-var-preserved : goal.loop-var-preserved
loop-var-preserved c =
    let range : ℕ → Result ℕ RangeFault = range_of c.args.statement.now (given_at c.args.given.now) (bound_at c.args.bounds.now) in
    next_range range c.loop-var.var c.loop-var.ranges c.in_ok-range_of.field-0 c.loop-var.invariant c.in_ok-range_of.ensures.range
    ∙ ap (λ (xs : List ℕ). Ok xs) (sym c.in_ok-push.ensures.ok)

pub returns-in_err-range_of-clause-fault : goal.returns-in_err-range_of-clause-fault
returns-in_err-range_of-clause-fault c =
    let range : ℕ → Result ℕ RangeFault = range_of c.args.statement.now (given_at c.args.given.now) (bound_at c.args.bounds.now) in
    let all : Result (List ℕ) RangeFault = ranges_of c.args.statement.now (given_at c.args.given.now) (bound_at c.args.bounds.now) in
    let fault : RangeFault = c.in_err-range_of.field-0.0 in
    handed_on all c.from_residual.result fault c.from_residual.ensures.1
    (passes_on (range c.loop-var.var) all fault
    (first_refusal range c.loop-var.var (length c.args.statement.now.vars) c.loop-var.ranges fault
    (omega (arith, c.len-var-end.ensures)) c.loop-var.invariant) c.in_err-range_of.ensures.fault)
