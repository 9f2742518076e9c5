use Rattle.std.specs.Prelude.{◌≡◌, ℕ, ◌+◌, ◌<◌, ◌≤◌, ◌==◌, if◌then◌else◌}
use Rattle.std.proofs.Common.{◌∙◌, sym, ap, subst, arith}
use Rattle.level_rows.specs.Rows.{rows_at}
use Rattle.level_rows.proofs.Tallies.{Tallying, tallied_more, tallied_all, greatest_few}
use Rattle.level_rows.proofs.counting.greatest_below.Goals as goal

pub loop-row-preserved : goal.loop-row-preserved
loop-row-preserved g c =
    let rows = rows_at (g.R.SortedRows.keys c.args.rows.now) c.args.parents.now in
    let here : c.loop-row.row < rows.count = let test = c.loop-row-test.true in let long = c.length_of-row-end.ensures.is in
    let many = c.requires.many in omega (arith, test, long, many) in
    subst (λ last. Tallying rows (c.loop-row.row + 1) last c.with_row-at.result.here c.with_row-at.result.most)
    (sym c.with_row-at.ensures.last)
    (tallied_more rows c.loop-row.row c.loop-row.at.last c.loop-row.at.here c.loop-row.at.most c.with_row-at.result.here
    c.with_row-at.result.most c.requires.together here c.loop-row.invariant
    (c.with_row-at.ensures.here
    ∙ ap (λ b. (if c.loop-row.at.last == rows.parent c.loop-row.row then c.loop-row.at.here else 0) + (if b then 1 else 0))
    c.begins.ensures) c.with_row-at.ensures.most)

-- all rows are gone through
all_rows : (row long many : ℕ) → row ≤ long → long ≤ row → long ≡ many → row ≡ many
all_rows row long many h l is = omega (arith, h, l, is)

pub returns-clause-greatest : goal.returns-clause-greatest
returns-clause-greatest g c =
    tallied_all (rows_at (g.R.SortedRows.keys c.args.rows.now) c.args.parents.now) c.loop-row.row c.loop-row.at.last c.loop-row.at.here
    c.loop-row.at.most
    (all_rows c.loop-row.row c.length_of-row-end.result (g.R.SortedRows.keys c.args.rows.now).count c.loop-row.auto.row-end
    c.loop-row-test.false (c.length_of-row-end.ensures.is ∙ c.requires.many)) c.loop-row.invariant

pub returns-clause-few : goal.returns-clause-few
returns-clause-few g c =
    let rows = rows_at (g.R.SortedRows.keys c.args.rows.now) c.args.parents.now in
    let all = all_rows c.loop-row.row c.length_of-row-end.result (g.R.SortedRows.keys c.args.rows.now).count c.loop-row.auto.row-end
    c.loop-row-test.false (c.length_of-row-end.ensures.is ∙ c.requires.many) in
    let few =
    greatest_few rows c.loop-row.at.most
    (tallied_all rows c.loop-row.row c.loop-row.at.last c.loop-row.at.here c.loop-row.at.most all c.loop-row.invariant) in
    let small = c.length_of-row-end.ensures.few in
    let many = c.requires.many in
    let long = c.length_of-row-end.ensures.is in
    omega (arith, few, small, many, long)
