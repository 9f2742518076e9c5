use Rattle.std.proofs.Common.{◌∙◌, rules}
use Rattle.storage_cases.proofs.Opened.{open_below}
use Rattle.storage_cases.proofs.levels.+tell_levels.Goals as goal

pub tell_levels-requires : goal.tell_levels-requires
tell_levels-requires t c = (
  search rules,
  (
    c.requires.0,
    open_below c.args.levels.now c.in-Some.level.now c.in-Some.below.now c.requires.0 c.args.span c.as_slice-entry-items.result.now
        c.loop-entry.entry-index _ c.in-Some.ensures.cases.0 c.requires.1 (c.as_slice-entry-items.ensures ∙ c.in_ok-entries.ensures)
        c.loop-entry-test.true,
  ),
)
