use Rattle.std.proofs.Common.{◌∙◌, sym}
use Rattle.nested_sums.specs.Bad.{is_bad, sum_variables}
use Rattle.nested_sums.proofs.BadSums.{bad_is_unclear, fine_is_clear, first_is_bad, none_passes}
use Rattle.nested_sums.proofs.bad_sums.check_sums.Goals as goal

pub returns-in-None-clause-first : goal.returns-in-None-clause-first
returns-in-None-clause-first c =
    let s = c.args.statement.now in
    none_passes (is_bad s) (sum_variables s) (sym c.first_bad.ensures ∙ c.in-None.is)

pub returns-in-None-clause-clear : goal.returns-in-None-clause-clear
returns-in-None-clause-clear c =
    let s = c.args.statement.now in
    fine_is_clear s c.requires.numbered (none_passes (is_bad s) (sum_variables s) (sym c.first_bad.ensures ∙ c.in-None.is))

pub returns-in-Some-clause-first : goal.returns-in-Some-clause-first
returns-in-Some-clause-first c =
    first_is_bad c.args.statement.now c.in-Some.var (sym c.first_bad.ensures ∙ c.in-Some.is)

pub returns-in-Some-clause-only : goal.returns-in-Some-clause-only
returns-in-Some-clause-only c =
    bad_is_unclear c.args.statement.now c.requires.numbered c.in-Some.var
    (first_is_bad c.args.statement.now c.in-Some.var (sym c.first_bad.ensures ∙ c.in-Some.is))
