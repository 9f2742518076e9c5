use Rattle.std.specs.Prelude.{◌≡◌, false}
use Rattle.level_core.specs.Kinds.{capabilities}
use Rattle.std.proofs.Common.{◌∙◌, sym, ap, arith}
use Rattle.level_rows.specs.Rows.{rows_at}
use Rattle.level_core.proofs.KindLaws.{inserted_else}
use Rattle.level_rows.proofs.FillLaws.{few_below}
use Rattle.level_rows.proofs.filling.fill_level.Goals as goal

pub insert_rows-requires-clause-may : goal.insert_rows-requires-clause-may
insert_rows-requires-clause-may g c =
    let rows = rows_at (g.R.SortedRows.keys c.args.rows.now) c.args.positions.now in
    let kind = g.L.LevelKind.meaning.kind c.args.level.now in
    let none : (capabilities kind).append ≡ false = sym (ap (λ k. k.append) c.caps.ensures) ∙ c.if-caps.false in
    let may = c.requires.rows.inserts none in
    let few = few_below kind (g.L.LevelKind.meaning.size c.args.level.now) c.args.parents rows c.count_positions-need.result.positions
    c.count_positions-need.result.most none may.0.within (c.count_positions-need.ensures.few none)
    c.count_positions-need.ensures.needed in
    let within = c.if-need-greatest_positions.false in
    let limit = c.greatest_positions.ensures in
    record { able = inserted_else kind none; unprepared = may.2; coordinates = omega (arith, few, within, limit) }
