use Rattle.std.proofs.Common.{ℕ, List, map, string_bytes, ap, subst, sym, inl, inr}
use Rattle.std.specs.declared.alloc.Global.{Global}
use Rattle.taco_top.specs.Ends.{Cause}
use Rattle.taco_top.specs.Prepared.{end_of}
use Rattle.taco_top.specs.Values.{Values, values_in, values_of_line}
use Rattle.taco_top.specs.Work.{IsAsked}
use Rattle.taco_top.proofs.Answered.{by_unasked}
use Rattle.taco_top.proofs.top.answer.Goals as goal

pub returns-in-Ok-Statement : goal.returns-in-Ok-Statement
returns-in-Ok-Statement g c =
    let words : List (List ℕ) = map (string_bytes {Z = Global}) c.args.words.now in
    let asked = subst (IsAsked words) c.in-Ok-Statement.field-0-is c.in-Ok-Statement.ensures.asked in
    inl (subst (λ (v : Values). Cause v words (g.F.Folder.state c.args.files.now) (g.F.Folder.state c.answer_statement.new.files)
    (g.O.Sink.state c.args.out.now) (g.O.Sink.state c.answer_statement.new.out) (end_of c.answer_statement.result))
    (ap values_of_line (sym asked.0.names.line)) (c.answer_statement.ensures words asked.0))

pub returns-in-Ok-Workload : goal.returns-in-Ok-Workload
returns-in-Ok-Workload g c =
    let words : List (List ℕ) = map (string_bytes {Z = Global}) c.args.words.now in
    let asked = subst (IsAsked words) c.in-Ok-Workload.field-0-is c.in-Ok-Workload.ensures.asked in
    inl (c.tell_workload.ensures (values_in words) words (g.F.Folder.state c.args.files.now) asked.0)

pub execute-requires-clause-asked : goal.execute-requires-clause-asked
execute-requires-clause-asked g c =
    let words : List (List ℕ) = map (string_bytes {Z = Global}) c.args.words.now in
    let asked = subst (IsAsked words) c.in-Ok-Execution.field-0-is c.in-Ok-Execution.ensures.asked in
    (words, asked.0)

pub returns-in-Ok-Execution : goal.returns-in-Ok-Execution
returns-in-Ok-Execution g c =
    let words : List (List ℕ) = map (string_bytes {Z = Global}) c.args.words.now in
    let asked = subst (IsAsked words) c.in-Ok-Execution.field-0-is c.in-Ok-Execution.ensures.asked in
    inr (c.execute.ensures words asked.0)

pub returns-in-Err : goal.returns-in-Err
returns-in-Err g c =
    let words : List (List ℕ) = map (string_bytes {Z = Global}) c.args.words.now in
    let files = g.F.Folder.state c.args.files.now in
    let out = g.O.Sink.state c.args.out.now in
    by_unasked words files out c.in-Err.fault c.in-Err.ensures.refused
