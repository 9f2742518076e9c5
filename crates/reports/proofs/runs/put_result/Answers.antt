use Rattle.std.specs.Prelude.{ℕ, List, ◌++◌}
use Rattle.std.proofs.Common.{ap, subst}
use Rattle.std.proofs.lemmas.Result.{on_ok_weaker}
use Rattle.outside.specs.Sink.{Appends}
use Rattle.text_lines.proofs.PutPieces.{part_printed, printed, refused, retold, then_printed}
use Rattle.text_lines.proofs.PutsLemmas.{both_whole}
use Rattle.reports.specs.Reports.{turns_line}
use Rattle.storage_text.specs.StoreText.{store_text}
use Rattle.reports.proofs.runs.put_result.Goals as goal

pub returns-in_err-put_turns-clause-part : goal.returns-in_err-put_turns-clause-part
returns-in_err-put_turns-clause-part g c =
    let turns : List ℕ = turns_line c.args.turns.now in
    let store : List ℕ = store_text g.S.Semiring.is_signed 0 c.result_name-name.result.now c.args.tensor.now in
    let named = ap (λ (name : List ℕ). turns ++ store_text g.S.Semiring.is_signed 0 name c.args.tensor.now) c.result_name-name.ensures in
    let r = c.from_residual in
    part_printed r.result _ _ _
    (retold _ _ _ _ _ named (refused r.result c.in_err-put_turns.field-0.0 _ _ turns store r.ensures.1 c.in_err-put_turns.ensures.part))

pub returns-clause-whole : goal.returns-clause-whole
returns-clause-whole g c =
    let turns : List ℕ = turns_line c.args.turns.now in
    let store : List ℕ = store_text g.S.Semiring.is_signed 0 c.result_name-name.result.now c.args.tensor.now in
    let named = ap (λ (name : List ℕ). turns ++ store_text g.S.Semiring.is_signed 0 name c.args.tensor.now) c.result_name-name.ensures in
    on_ok_weaker c.put_store_text.result
    (λ whole. subst (λ (text : List ℕ). Appends (g.K.Sink.state c.args.sink.now) (g.K.Sink.state c.put_store_text.new.sink) text) named
    (both_whole _ _ _ turns store c.in_ok-put_turns.ensures.whole whole))
    c.put_store_text.ensures.whole

pub returns-clause-part : goal.returns-clause-part
returns-clause-part g c =
    let turns : List ℕ = turns_line c.args.turns.now in
    let store : List ℕ = store_text g.S.Semiring.is_signed 0 c.result_name-name.result.now c.args.tensor.now in
    let named = ap (λ (name : List ℕ). turns ++ store_text g.S.Semiring.is_signed 0 name c.args.tensor.now) c.result_name-name.ensures in
    part_printed c.put_store_text.result _ _ _
    (retold _ _ _ _ _ named (then_printed _ _ _ _ turns store c.in_ok-put_turns.ensures.whole
    (printed _ _ _ _ c.put_store_text.ensures.whole c.put_store_text.ensures.part)))
