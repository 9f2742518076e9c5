use Rattle.std.proofs.Common.{List, subst}
use Rattle.expr_terms.specs.Names.{RepeatsFirst}
use Rattle.expr_terms.proofs.NameLaws.{left_fault, right_fault_found, faultless_step}
use Rattle.expr_terms.proofs.names.check_names.Goals as goal

pub returns-in-Some : goal.returns-in-Some
returns-in-Some c = left_fault c.args.statement.now c.in-Some.var
    (subst (λ (l : List _). RepeatsFirst l c.in-Some.var) c.as_slice.ensures c.in-Some.ensures)

pub returns-in-Some-right_fault : goal.returns-in-Some-right_fault
returns-in-Some-right_fault c =
    right_fault_found c.args.statement.now c.as_slice-accesses.result.now c.loop-i.i c.index-accesses-i.result
    c.in-Some-right_fault.fault c.as_slice-accesses.ensures
    c.loop-i-test.true c.index-accesses-i.is c.loop-i.invariant c.in-Some-right_fault.ensures

pub loop-i-preserved : goal.loop-i-preserved
loop-i-preserved c =
    faultless_step c.args.statement.now.left c.as_slice-accesses.result.now c.loop-i.i c.index-accesses-i.result c.loop-i-test.true
    c.index-accesses-i.is c.loop-i.invariant c.in_default-right_fault.ensures
