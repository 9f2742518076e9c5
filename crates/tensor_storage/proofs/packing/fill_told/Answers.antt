use Rattle.std.specs.Prelude.{◌≡◌, true, length, slice_index}
use Rattle.std.proofs.Common.{◌∙◌, ap, sym, subst, arith}
use Rattle.level_core.specs.Kinds.{capabilities}
use Rattle.level_rows.specs.Rows.{rows_at}
use Rattle.level_rows.specs.Filling.{MayFill}
use Rattle.tensor_storage.specs.Levels.{meaning}
use Rattle.tensor_storage.specs.Places.{places_in}
use Rattle.tensor_storage.specs.Tables.{keys_of}
use Rattle.tensor_storage.proofs.PlaceSteps.{numbered_own, filled_answer, refused_answer}
use Rattle.tensor_storage.proofs.Standing.{written}
use Rattle.tensor_storage.proofs.packing.fill_told.Goals as goal

pub fill_stored-requires-clause-rows : goal.fill_stored-requires-clause-rows
fill_stored-requires-clause-rows g c =
    let keys = keys_of (g.T.RowTable.table c.args.rows.now.table.now) c.args.rows.now.level c.args.rows.now.through in
    subst (λ ps. MayFill meaning c.args.parents (rows_at keys ps) c.args.stored.now) (sym (c.deref_mut.ensures.value ∙ c.in-Ok.ensures))
    c.requires.rows

pub kept-requires : goal.kept-requires
kept-requires g c known i h =
    let table = g.T.RowTable.table c.args.rows.now.table.now in
    let e = c.in-Ok-fill_stored.ensures in
    let long : length c.fill_stored.new.places ≡ length c.in-Ok.list.items =
    omega (arith, ap length c.deref_mut.ensures.value, c.fill_stored.auto.places) in
    let all : c.in-Ok.list.len ≡ length c.in-Ok.list.items =
    omega (arith, ap length c.deref_mut.ensures.value, c.deref_mut.ensures.len) in
    let after = written c.in-Ok.list.len c.fill_stored.new.places c.in-Ok.list.items long all in
    let far = c.numbers_last-own.ensures known in
    let many : length c.in-Ok.list.items ≡ table.count = ap length c.in-Ok.ensures ∙ c.requires.many in
    let same = ap length after in
    ap (λ xs. slice_index xs i) after
    ∙ numbered_own table c.args.levels c.args.rows.now.level c.args.rows.now.through c.args.parents e.0 e.1 c.in-Ok-fill_stored.count
    c.deref_mut.result.now c.fill_stored.new.places c.args.stored.now c.fill_stored.new.stored c.requires.order far.0
    (subst (λ k. (capabilities k).append ≡ true) c.letter.ensures far.1) e.3 i
    (omega (arith, h, same, long, many))

pub returns-in-Ok-fill_stored : goal.returns-in-Ok-fill_stored
returns-in-Ok-fill_stored g c =
    let long : length c.fill_stored.new.places ≡ length c.in-Ok.list.items =
    omega (arith, ap length c.deref_mut.ensures.value, c.fill_stored.auto.places) in
    let all : c.in-Ok.list.len ≡ length c.in-Ok.list.items =
    omega (arith, ap length c.deref_mut.ensures.value, c.deref_mut.ensures.len) in
    let after = written c.in-Ok.list.len c.fill_stored.new.places c.in-Ok.list.items long all in
    filled_answer (keys_of (g.T.RowTable.table c.args.rows.now.table.now) c.args.rows.now.level c.args.rows.now.through)
    c.args.parents c.in-Ok-fill_stored.count c.deref_mut.result.now (places_in c.args.places) c.fill_stored.new.places
    (places_in c.kept.result) c.args.stored.now c.fill_stored.new.stored (c.deref_mut.ensures.value ∙ c.in-Ok.ensures)
    (sym (c.kept.ensures ∙ after)) c.in-Ok-fill_stored.ensures

pub returns : goal.returns
returns g c =
    refused_answer (keys_of (g.T.RowTable.table c.args.rows.now.table.now) c.args.rows.now.level c.args.rows.now.through)
    c.args.parents c.deref_mut.result.now (places_in c.args.places) c.fill_stored.new.places
    c.args.stored.now c.fill_stored.new.stored c.in-Err.refusal (c.deref_mut.ensures.value ∙ c.in-Ok.ensures) c.in-Err.ensures
