use Rattle.kernel_runs.proofs.OneCount.{fits_by_one, one_count}
use Rattle.kernel_runs.proofs.laws.operands_have_one_count.Goals as goal

pub returns-clause-count : goal.returns-clause-count
returns-clause-count c = one_count

pub returns-clause-fits : goal.returns-clause-fits
returns-clause-fits c = fits_by_one
