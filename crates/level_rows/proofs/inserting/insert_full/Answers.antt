use Rattle.std.specs.Prelude.{◌≡◌, ◌+◌, ◌*◌, ◌<◌, ◌≤◌, ◌^◌, ℕ, List, slice_index}
use Rattle.std.proofs.Common.{sym, subst, arith}
use Rattle.limits.specs.Limits.{greatest_position_count}
use Rattle.level_rows.specs.Rows.{Rows, MayInsertRows, rows_at}
use Rattle.level_rows.proofs.FullLoop.{Counted, counts, few_places, small_place}
use Rattle.level_rows.proofs.inserting.insert_full.Goals as goal

-- the next row's position is a word
small : (size range parents row : ℕ) (rows : Rows) (positions : List ℕ) → size ≡ range → MayInsertRows range parents rows
    → parents * size ≤ greatest_position_count → Counted size row rows positions → row < rows.count
    → (slice_index positions row * size + rows.coord row < 2 ^ 62) × (slice_index positions row * size < 2 ^ 62)
small size range parents row rows positions is may few c inside =
    subst (λ p. (p * size + rows.coord row < 2 ^ 62) × (p * size < 2 ^ 62)) (sym (c.ahead row (omega arith)))
    (small_place size parents (rows.parent row) (rows.coord row) (may.within row inside)
    (let below = may.below row inside in omega (arith, below, is)) few)

pub overflow_mul-positions : goal.overflow_mul-positions
overflow_mul-positions g c =
    let inside : c.loop-row.row < (g.R.SortedRows.keys c.args.rows.now).count = let test = c.loop-row-test.true in
    let many = c.requires.many in omega (arith, test, many) in
    let k = (small c.args.size (g.L.LevelKind.meaning.size c.args.level.now) c.args.parents c.loop-row.row
    (rows_at (g.R.SortedRows.keys c.args.rows.now) c.args.positions.now) c.loop-row.positions c.requires.size c.requires.rows
    (few_places g.L.LevelKind.meaning g.met.L.LevelKind.laws c.args.parents c.args.most
    (rows_at (g.R.SortedRows.keys c.args.rows.now) c.args.positions.now) c.args.level.now c.requires.rows c.requires.full c.args.size
    c.requires.size c.requires.within) c.loop-row.invariant inside).1 in
    omega (arith, k)

pub overflow_add-positions : goal.overflow_add-positions
overflow_add-positions g c =
    let inside : c.loop-row.row < (g.R.SortedRows.keys c.args.rows.now).count = let test = c.loop-row-test.true in
    let many = c.requires.many in omega (arith, test, many) in
    let k = (small c.args.size (g.L.LevelKind.meaning.size c.args.level.now) c.args.parents c.loop-row.row
    (rows_at (g.R.SortedRows.keys c.args.rows.now) c.args.positions.now) c.loop-row.positions c.requires.size c.requires.rows
    (few_places g.L.LevelKind.meaning g.met.L.LevelKind.laws c.args.parents c.args.most
    (rows_at (g.R.SortedRows.keys c.args.rows.now) c.args.positions.now) c.args.level.now c.requires.rows c.requires.full c.args.size
    c.requires.size c.requires.within) c.loop-row.invariant inside).0 in
    let is = c.coord.ensures in
    omega (arith, k, is)

pub returns-clause-ok : goal.returns-clause-ok
returns-clause-ok g c =
    let all : c.loop-row.row ≡ (g.R.SortedRows.keys c.args.rows.now).count = let end = c.loop-row.auto.row-end in
    let test = c.loop-row-test.false in let many = c.requires.many in omega (arith, end, test, many) in
    counts g.L.LevelKind.meaning g.met.L.LevelKind.laws c.args.parents c.args.most
    (rows_at (g.R.SortedRows.keys c.args.rows.now) c.args.positions.now) c.args.level.now c.requires.rows c.requires.full c.args.size
    c.loop-row.positions c.prepare.new.self c.tell_rules.ensures c.requires.may c.requires.within c.in_ok-prepare.ensures.ok c.requires.size
    (subst (λ n. Counted c.args.size n (rows_at (g.R.SortedRows.keys c.args.rows.now) c.args.positions.now) c.loop-row.positions) all
    c.loop-row.invariant)
