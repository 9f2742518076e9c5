use Rattle.std.specs.Prelude.{◌≡◌, ◌<◌, ◌≤◌, length, slice_index_or}
use Rattle.std.proofs.Common.{◌∙◌, ap, rules, arith}
use Rattle.level_location.proofs.LevelReads.{format_there, is_read, letter_read, level_within}
use Rattle.level_location.proofs.reading.letter_of.Goals as goal

pub offset_bounds-formats-access : goal.offset_bounds-formats-access
offset_bounds-formats-access c =
    let s = c.args.statement.now in
    let formats = c.args.formats.now in
    let seek = c.args.seek.now in
    let access = c.index-as_slice-seek.result in
    let read : access ≡ slice_index_or s.accesses seek.access access =
    c.index-as_slice-seek.is ∙ ap (λ xs. slice_index_or xs seek.access access) c.as_slice.ensures in
    let below : access.tensor < length formats = format_there s formats seek access c.requires.level read in
    search (rules, below)

pub bounds-formats-access : goal.bounds-formats-access
bounds-formats-access c =
    let s = c.args.statement.now in
    let formats = c.args.formats.now in
    let seek = c.args.seek.now in
    let access = c.index-as_slice-seek.result in
    let read : access ≡ slice_index_or s.accesses seek.access access =
    c.index-as_slice-seek.is ∙ ap (λ xs. slice_index_or xs seek.access access) c.as_slice.ensures in
    let below : access.tensor < length formats = format_there s formats seek access c.requires.level read in
    search (rules, below)

pub letter-requires-clause-last : goal.letter-requires-clause-last
letter-requires-clause-last c =
    let s = c.args.statement.now in
    let formats = c.args.formats.now in
    let seek = c.args.seek.now in
    let access = c.index-as_slice-seek.result in
    let read : access ≡ slice_index_or s.accesses seek.access access =
    c.index-as_slice-seek.is ∙ ap (λ xs. slice_index_or xs seek.access access) c.as_slice.ensures in
    let format = c.index-formats-access.result in
    let r = is_read s formats seek access format c.requires.formats c.requires.level read c.index-formats-access.is in
    level_within s formats seek access format c.requires.level r

pub returns : goal.returns
returns c =
    let s = c.args.statement.now in
    let formats = c.args.formats.now in
    let seek = c.args.seek.now in
    let access = c.index-as_slice-seek.result in
    let read : access ≡ slice_index_or s.accesses seek.access access =
    c.index-as_slice-seek.is ∙ ap (λ xs. slice_index_or xs seek.access access) c.as_slice.ensures in
    let format = c.index-formats-access.result in
    let r = is_read s formats seek access format c.requires.formats c.requires.level read c.index-formats-access.is in
    letter_read s formats seek access format c.letter.result c.requires.level r c.letter.ensures
