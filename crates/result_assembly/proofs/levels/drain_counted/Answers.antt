use Rattle.std.specs.Prelude.{◌+◌, ◌-◌, ◌++◌}
use Rattle.std.proofs.Common.{◌∙◌, sym, ap, subst, arith}
use Rattle.kernel_code.specs.Keeps.{Below}
use Rattle.tensor_storage.specs.Levels.{meaning}
use Rattle.result_assembly.proofs.Codes.{below_more, key_below, counted_of}
use Rattle.result_assembly.proofs.levels.drain_counted.Goals as goal

pub emit_insert_rows-requires-clause-parents : goal.emit_insert_rows-requires-clause-parents
emit_insert_rows-requires-clause-parents c =
    let base = ap (λ r. r.base) c.rows_site-rows.ensures in
    below_more c.args.at.base (c.rows_site-rows.result.base + 6) c.args.parents (omega (arith, base)) c.requires.parents

pub emit_insert_rows-requires-clause-coord : goal.emit_insert_rows-requires-clause-coord
emit_insert_rows-requires-clause-coord c =
    subst (Below (c.rows_site-rows.result.base + 6)) (sym c.in_ok-coord.ensures)
    (key_below (c.rows_site-rows.result.base + 6) c.args.at.workspace (c.args.at.level - 1) c.rows_site-rows.result.base (omega arith))

pub returns : goal.returns
returns c =
    counted_of (meaning.kind c.args.level.now) c.requires.counted c.args.at c.rows_site-rows.result c.args.through c.args.parents
    c.in_ok-first.first c.in_ok-again.again c.in_ok-coord.coord c.in_ok-total.total c.in_ok-code.code c.in_ok-insert.insert
    c.append.new.self c.requires.parents c.rows_site-rows.ensures c.in_ok-first.ensures c.in_ok-again.ensures c.in_ok-coord.ensures
    c.in_ok-total.ensures c.in_ok-code.ensures c.in_ok-insert.ensures
    (c.in_ok-append.ensures.ok ∙ ap (λ code. code ++ c.in_ok-insert.insert) c.in_ok-push.ensures.ok)
