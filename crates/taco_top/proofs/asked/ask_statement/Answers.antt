use Rattle.taco_top.specs.Asked.{IsRefusedByWords, Names, texts_in}
use Rattle.taco_top.proofs.BoundNames.{asked_for, by_minus, refused_as, unnamed}
use Rattle.taco_top.proofs.asked.ask_statement.Goals as goal

-- the text stands for none
pub returns-in_err-statement : goal.returns-in_err-statement
returns-in_err-statement c = λ all line.
    let why = c.in_err-statement.field-0.0 in
    refused_as _ (IsRefusedByWords all) c.from_residual.result why c.from_residual.ensures.1
    (unnamed all c.args.task c.args.over c.args.text.now (texts_in c.args.words.now) line why c.in_err-statement.ensures.refused)

-- a minus has no meaning
pub returns-in_err-check_minus : goal.returns-in_err-check_minus
returns-in_err-check_minus c = λ all line.
    let why = c.in_err-check_minus.field-0.0 in
    let answer = c.from_residual-in_err-check_minus in
    refused_as _ (IsRefusedByWords all) answer.result why answer.ensures.1
    (by_minus all c.args.task c.args.over c.args.text.now (texts_in c.args.words.now) c.in_ok-statement.statement line
    c.in_ok-statement.ensures.statement.0 why c.in_err-check_minus.ensures.refused)

-- the words ask for the statement that the written one stands for
pub returns : goal.returns
returns c = λ all line.
    let names : Names all c.args.task c.args.over c.in_ok-statement.statement (texts_in c.args.words.now) = record {
      text = c.args.text.now;
      line = line;
      named = c.in_ok-statement.ensures.statement.0;
      meant = c.in_ok-check_minus.ensures.meant;
    } in
    asked_for all c.args.task c.args.over c.in_ok-statement.statement (texts_in c.args.words.now) names
    c.in_ok-statement.ensures.statement.1 c.bind_names.result c.bind_names.ensures
