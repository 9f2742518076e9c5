use Rattle.taco_top.specs.Asked.{texts_in}
use Rattle.taco_top.specs.Exec.{ExecNames, IsExecRefused}
use Rattle.taco_top.proofs.BoundNames.{executed_for, refused_as, unnamed_execution}
use Rattle.taco_top.proofs.asked.ask_execution.Goals as goal

-- the text stands for none
pub returns-in_err-statement : goal.returns-in_err-statement
returns-in_err-statement c = λ all line.
    let why = c.in_err-statement.field-0.0 in
    refused_as _ (IsExecRefused all) c.from_residual.result why c.from_residual.ensures.1
    (unnamed_execution all c.args.path.now c.args.budget c.args.text.now (texts_in c.args.words.now) line why
    c.in_err-statement.ensures.refused)

-- the words ask for the statement that the written one stands for
pub returns : goal.returns
returns c = λ all line.
    let names : ExecNames all c.args.path.now c.args.budget c.in_ok-statement.statement (texts_in c.args.words.now) = record {
      text = c.args.text.now;
      line = line;
      named = c.in_ok-statement.ensures.statement.0;
    } in
    executed_for all c.args.path.now c.args.budget c.in_ok-statement.statement (texts_in c.args.words.now) names
    c.in_ok-statement.ensures.statement.1 c.bind_execution.result c.bind_execution.ensures
