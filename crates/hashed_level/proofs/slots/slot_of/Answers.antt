use Rattle.std.specs.Prelude.{slice_index}
use Rattle.std.proofs.Common.{sym}
use Rattle.hashed_level.proofs.SlotLaws.{is_empty_yes, is_empty_no}
use Rattle.hashed_level.proofs.SearchLaws.{nowhere, not_there, found_filled}
use Rattle.hashed_level.proofs.slots.slot_of.Goals as goal

pub returns-in-None : goal.returns-in-None
returns-in-None c = λ n b. sym (nowhere (slice_index c.args.slots.now) c.args.width c.args.base c.args.x c.in-None.ensures)

pub returns-then-is_empty : goal.returns-then-is_empty
returns-then-is_empty c =
    λ n b. sym (not_there (slice_index c.args.slots.now) n c.args.width c.args.base c.args.x c.in-Some.slot b c.in-Some.ensures
    (is_empty_yes (slice_index c.args.slots.now c.in-Some.slot) (sym c.if-is_empty.ensures)))

pub returns-else-is_empty : goal.returns-else-is_empty
returns-else-is_empty c =
    λ n b. sym (found_filled (slice_index c.args.slots.now) n c.args.width c.args.base c.args.x c.in-Some.slot b c.in-Some.ensures
    (is_empty_no (slice_index c.args.slots.now c.in-Some.slot) (sym c.if-is_empty.ensures)))
