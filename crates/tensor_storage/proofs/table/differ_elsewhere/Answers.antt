use Rattle.std.specs.Prelude.{◌≡◌, suc, not}
use Rattle.std.proofs.Common.{◌∙◌, sym, ap, arith}
use Rattle.tensor_storage.proofs.Tables.{agree_above}
use Rattle.tensor_storage.proofs.table.differ_elsewhere.Goals as goal

pub returns-then-level-through : goal.returns-then-level-through
returns-then-level-through g c =
    let last : c.args.through ≡ suc c.args.level = (let is = c.if-level-through.true in omega (arith, is)) in
    ap not (c.rows_agree.ensures ∙ sym (agree_above (g.T.RowTable.table c.args.table.now).coords c.args.through c.args.level c.args.row
    c.args.other last c.requires.same))
