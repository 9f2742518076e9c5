use Rattle.std.proofs.Common.{◌++◌, subst}
use Rattle.std.specs.Prelude.{codes}
use Rattle.std.proofs.lemmas.Result.{IfErr-weaker, on_ok_weaker}
use Rattle.outside.specs.Sink.{Appends}
use Rattle.text_lines.specs.Puts.{AppendsPart}
use Rattle.text_lines.proofs.PutsLemmas.{both_whole, part_of_first, part_of_second}
use Rattle.refusals.specs.Lines.{names_behind}
use Rattle.refusals.proofs.line.put_cycle.Goals as goal

pub returns-in-Ok-clause-whole : goal.returns-in-Ok-clause-whole
returns-in-Ok-clause-whole g c =
    let old = g.S.Sink.state c.args.sink.now in
    let new = g.S.Sink.state c.put_names.new.sink in
    on_ok_weaker c.put_names.result (λ behind.
    subst (λ names. Appends old new (codes "taco: cycle" ++ names_behind names c.args.cycle.now)) c.as_slice.ensures
    (both_whole old (g.S.Sink.state c.put_all.new.sink) new (codes "taco: cycle")
    (names_behind c.as_slice.result.now c.args.cycle.now) c.in-Ok.ensures.whole behind))
    c.put_names.ensures.whole

pub returns-in-Ok-clause-part : goal.returns-in-Ok-clause-part
returns-in-Ok-clause-part g c =
    let old = g.S.Sink.state c.args.sink.now in
    let new = g.S.Sink.state c.put_names.new.sink in
    IfErr-weaker c.put_names.result _ _ (λ why part.
    subst (λ names. AppendsPart old new (codes "taco: cycle" ++ names_behind names c.args.cycle.now) why) c.as_slice.ensures
    (part_of_second old (g.S.Sink.state c.put_all.new.sink) new (codes "taco: cycle")
    (names_behind c.as_slice.result.now c.args.cycle.now) why c.in-Ok.ensures.whole part))
    c.put_names.ensures.part

pub returns-in-Err-clause-part : goal.returns-in-Err-clause-part
returns-in-Err-clause-part g c =
    part_of_first (g.S.Sink.state c.args.sink.now) (g.S.Sink.state c.put_all.new.sink) (codes "taco: cycle")
    (names_behind c.args.statement.now.vars c.args.cycle.now) c.in-Err.refusal c.in-Err.ensures.part
