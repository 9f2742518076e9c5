use Rattle.std.proofs.Common.{ℕ, List, [], ◌∷◌, ◌++◌, sym, subst}
use Rattle.std.specs.Prelude.{codes}
use Rattle.std.proofs.lemmas.Result.{IfErr-weaker}
use Rattle.text_lines.specs.Puts.{AppendsPart}
use Rattle.text_lines.proofs.PutsLemmas.{part_of_first, part_of_second}
use Rattle.text_lines.specs.Pieces.{joined}
use Rattle.refusals.specs.Lines.{names_behind}
use Rattle.refusals.proofs.line.+put_names.Goals as goal

pub returns-in-Ok-clause-part : goal.returns-in-Ok-clause-part
returns-in-Ok-clause-part g t c =
    let old = g.S.Sink.state c.args.sink.now in
    let mid = g.S.Sink.state c.put_pieces.new.sink in
    let new = g.S.Sink.state c.put_names.new.sink in
    let names = c.args.names.now in
    let first : List ℕ = joined (codes " " ∷ c.name_at.result.now ∷ []) in
    let rest = names_behind names c.in-Some.others.now in
    IfErr-weaker c.put_names.result _ _ (λ why part.
    subst (λ vars. AppendsPart old new (names_behind names vars) why) (sym c.in-Some.ensures.cases.0)
    (subst (λ name. AppendsPart old new (joined (codes " " ∷ name ∷ []) ++ rest) why) c.name_at.ensures
    (part_of_second old mid new first rest why c.in-Ok.ensures.whole part)))
    c.put_names.ensures.part

pub returns-in-Err-clause-part : goal.returns-in-Err-clause-part
returns-in-Err-clause-part g t c =
    let old = g.S.Sink.state c.args.sink.now in
    let new = g.S.Sink.state c.put_pieces.new.sink in
    let names = c.args.names.now in
    let first : List ℕ = joined (codes " " ∷ c.name_at.result.now ∷ []) in
    let rest = names_behind names c.in-Some.others.now in
    subst (λ vars. AppendsPart old new (names_behind names vars) c.in-Err.refusal) (sym c.in-Some.ensures.cases.0)
    (subst (λ name. AppendsPart old new (joined (codes " " ∷ name ∷ []) ++ rest) c.in-Err.refusal) c.name_at.ensures
    (part_of_first old new first rest c.in-Err.refusal c.in-Err.ensures.part))
