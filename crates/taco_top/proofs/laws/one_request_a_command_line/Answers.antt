use Rattle.taco_top.proofs.OneRequest.{same_task, same_over, same_statement, same_formats, same_files, same_ranges, never_both}
use Rattle.taco_top.proofs.OneRequest.{workload_alone, workload_taken}
use Rattle.taco_top.proofs.laws.one_request_a_command_line.Goals as goal

pub returns-clause-task : goal.returns-clause-task
returns-clause-task c = same_task

pub returns-clause-over : goal.returns-clause-over
returns-clause-over c = same_over

pub returns-clause-statement : goal.returns-clause-statement
returns-clause-statement c = same_statement

pub returns-clause-formats : goal.returns-clause-formats
returns-clause-formats c = same_formats

pub returns-clause-files : goal.returns-clause-files
returns-clause-files c = same_files

pub returns-clause-ranges : goal.returns-clause-ranges
returns-clause-ranges c = same_ranges

pub returns-clause-never_both : goal.returns-clause-never_both
returns-clause-never_both c = never_both

pub returns-clause-workload_alone : goal.returns-clause-workload_alone
returns-clause-workload_alone c = workload_alone

pub returns-clause-workload_taken : goal.returns-clause-workload_taken
returns-clause-workload_taken c = workload_taken
