use Rattle.std.proofs.Common.{◌∙◌, sym}
use Rattle.level_rows.proofs.RowLaws.{begun_all}
use Rattle.level_rows.proofs.counting.positions_begun.Goals as goal

pub returns-then-all_begin : goal.returns-then-all_begin
returns-then-all_begin g c =
    let keys = g.R.SortedRows.keys c.args.rows.now in
    c.count.ensures ∙ sym (begun_all keys.first keys.count (c.all_begin.ensures c.if-all_begin.true))
