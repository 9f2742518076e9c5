use Rattle.std.specs.Prelude.{◌≡◌, ◌<◌, ◌≤◌, length, slice_index_or}
use Rattle.std.proofs.Common.{◌∙◌, ap, rules, arith}
use Rattle.level_location.proofs.LevelReads.{format_there, is_read, level_within, variable_read, variable_within}
use Rattle.level_location.proofs.reading.variable_of.Goals as goal

pub returns-clause-value : goal.returns-clause-value
returns-clause-value c =
    let s = c.args.statement.now in
    let seek = c.args.seek.now in
    let access = c.index-as_slice-seek.result in
    let format = c.index-formats-access.result in
    let read : access ≡ slice_index_or s.accesses seek.access access =
    c.index-as_slice-seek.is ∙ ap (λ xs. slice_index_or xs seek.access access) c.as_slice.ensures in
    let r = is_read s c.args.formats.now seek access format c.requires.formats c.requires.level read c.index-formats-access.is in
    variable_read s c.args.formats.now seek access format c.mode.result (slice_index_or c.as_slice-2.result.now c.mode.result 0)
    c.requires.level r c.mode.ensures.value (ap (λ xs. slice_index_or xs c.mode.result 0) c.as_slice-2.ensures)

pub offset_bounds-formats-access : goal.offset_bounds-formats-access
offset_bounds-formats-access c =
    let s = c.args.statement.now in
    let formats = c.args.formats.now in
    let seek = c.args.seek.now in
    let access = c.index-as_slice-seek.result in
    let read : access ≡ slice_index_or s.accesses seek.access access =
    c.index-as_slice-seek.is ∙ ap (λ xs. slice_index_or xs seek.access access) c.as_slice.ensures in
    let below : access.tensor < length formats = format_there s formats seek access c.requires.level read in
    search (rules, below)

pub bounds-formats-access : goal.bounds-formats-access
bounds-formats-access c =
    let s = c.args.statement.now in
    let formats = c.args.formats.now in
    let seek = c.args.seek.now in
    let access = c.index-as_slice-seek.result in
    let read : access ≡ slice_index_or s.accesses seek.access access =
    c.index-as_slice-seek.is ∙ ap (λ xs. slice_index_or xs seek.access access) c.as_slice.ensures in
    let below : access.tensor < length formats = format_there s formats seek access c.requires.level read in
    search (rules, below)

pub mode-requires-clause-last : goal.mode-requires-clause-last
mode-requires-clause-last c =
    let s = c.args.statement.now in
    let formats = c.args.formats.now in
    let seek = c.args.seek.now in
    let access = c.index-as_slice-seek.result in
    let read : access ≡ slice_index_or s.accesses seek.access access =
    c.index-as_slice-seek.is ∙ ap (λ xs. slice_index_or xs seek.access access) c.as_slice.ensures in
    let format = c.index-formats-access.result in
    let r = is_read s formats seek access format c.requires.formats c.requires.level read c.index-formats-access.is in
    level_within s formats seek access format c.requires.level r

pub offset_bounds-as_slice-mode : goal.offset_bounds-as_slice-mode
offset_bounds-as_slice-mode c =
    let s = c.args.statement.now in
    let formats = c.args.formats.now in
    let seek = c.args.seek.now in
    let access = c.index-as_slice-seek.result in
    let read : access ≡ slice_index_or s.accesses seek.access access =
    c.index-as_slice-seek.is ∙ ap (λ xs. slice_index_or xs seek.access access) c.as_slice.ensures in
    let format = c.index-formats-access.result in
    let r = is_read s formats seek access format c.requires.formats c.requires.level read c.index-formats-access.is in
    let order = r.order in
    let within = c.mode.ensures.within in
    let long : length c.as_slice-2.result.now ≡ length access.vars = ap length c.as_slice-2.ensures in
    let below : c.mode.result < length c.as_slice-2.result.now = omega (arith, order, within, long) in
    search (rules, below)

pub bounds-as_slice-mode : goal.bounds-as_slice-mode
bounds-as_slice-mode c =
    let s = c.args.statement.now in
    let formats = c.args.formats.now in
    let seek = c.args.seek.now in
    let access = c.index-as_slice-seek.result in
    let read : access ≡ slice_index_or s.accesses seek.access access =
    c.index-as_slice-seek.is ∙ ap (λ xs. slice_index_or xs seek.access access) c.as_slice.ensures in
    let format = c.index-formats-access.result in
    let r = is_read s formats seek access format c.requires.formats c.requires.level read c.index-formats-access.is in
    let order = r.order in
    let within = c.mode.ensures.within in
    let long : length c.as_slice-2.result.now ≡ length access.vars = ap length c.as_slice-2.ensures in
    let below : c.mode.result < length c.as_slice-2.result.now = omega (arith, order, within, long) in
    search (rules, below)

pub returns-clause-within : goal.returns-clause-within
returns-clause-within c =
    let s = c.args.statement.now in
    let formats = c.args.formats.now in
    let seek = c.args.seek.now in
    let access = c.index-as_slice-seek.result in
    let read : access ≡ slice_index_or s.accesses seek.access access =
    c.index-as_slice-seek.is ∙ ap (λ xs. slice_index_or xs seek.access access) c.as_slice.ensures in
    let format = c.index-formats-access.result in
    let r = is_read s formats seek access format c.requires.formats c.requires.level read c.index-formats-access.is in
    let order = r.order in
    let within = c.mode.ensures.within in
    variable_within s seek access c.mode.result (slice_index_or c.as_slice-2.result.now c.mode.result 0) c.requires.numbered
    c.requires.level.access read (omega (arith, order, within)) (ap (λ xs. slice_index_or xs c.mode.result 0) c.as_slice-2.ensures)
