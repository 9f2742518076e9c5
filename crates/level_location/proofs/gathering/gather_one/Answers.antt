use Rattle.std.specs.Prelude.{◌≡◌, ℕ, ◌+◌, ◌≤◌, [], ◌∷◌, length, refl}
use Rattle.std.proofs.Common.{◌∙◌, sym, ap, subst, arith}
use Rattle.level_core.specs.Fragments.{AreArguments}
use Rattle.tensor_storage.specs.Levels.{meaning}
use Rattle.gathered_lists.specs.Gathered.{Gathers}
use Rattle.level_location.specs.Listed.{GathersSeeks}
use Rattle.level_location.specs.Made.{place_of}
use Rattle.level_location.specs.SeekCursors.{ends_at}
use Rattle.level_location.specs.Walked.{letter_of}
use Rattle.kernel_code.specs.declared.syntax.KExpr.{Var}
use Rattle.level_location.proofs.GatherSteps.{none_gathered, one_gathered, place_low, place_same}
use Rattle.level_location.proofs.gathering.gather_one.Goals as goal

pub returns-then-not-is_listed : goal.returns-then-not-is_listed
returns-then-not-is_listed c =
    subst (λ code. GathersSeeks c.args.statement.now c.args.formats.now c.args.places.now c.args.gathered.now (c.args.seek.now ∷ [])
    c.args.list c.args.free (record { code = code; lists = c.args.list })) (sym c.new.ensures)
    (none_gathered c.args.statement.now c.args.formats.now c.args.places.now c.args.gathered.now c.args.seek.now c.args.list c.args.free
    (sym c.is_listed.ensures ∙ c.if-not-is_listed.true))

pub overflow_add-parent : goal.overflow_add-parent
overflow_add-parent c =
    let access = c.requires.level.access in
    let long = c.requires.accesses in
    let room = c.requires.room in
    let low = place_low c.args.places.now c.as_slice.result.now c.args.seek.now.access c.args.free c.as_slice.ensures
    (omega (arith, access, long)) c.requires.below in
    omega (arith, low, room)

pub overflow_add-parent-2 : goal.overflow_add-parent-2
overflow_add-parent-2 c =
    let access = c.requires.level.access in
    let long = c.requires.accesses in
    let room = c.requires.room in
    let low = place_low c.args.places.now c.as_slice.result.now c.args.seek.now.access c.args.free c.as_slice.ensures
    (omega (arith, access, long)) c.requires.below in
    omega (arith, low, room)

pub overflow_add-parent-3 : goal.overflow_add-parent-3
overflow_add-parent-3 c =
    let access = c.requires.level.access in
    let long = c.requires.accesses in
    let room = c.requires.room in
    let low = place_low c.args.places.now c.as_slice.result.now c.args.seek.now.access c.args.free c.as_slice.ensures
    (omega (arith, access, long)) c.requires.below in
    omega (arith, low, room)

pub gather_entries-requires-clause-parent : goal.gather_entries-requires-clause-parent
gather_entries-requires-clause-parent c =
    let access = c.requires.level.access in
    let long = c.requires.accesses in
    let room = c.requires.room in
    let low = place_low c.args.places.now c.as_slice.result.now c.args.seek.now.access c.args.free c.as_slice.ensures
    (omega (arith, access, long)) c.requires.below in
    record { many = refl; below = (omega (arith, low), (omega (arith, low), tt)); room = omega (arith, room) }

pub returns : goal.returns
returns c =
    let s = c.args.statement.now in
    let formats = c.args.formats.now in
    let k = c.args.seek.now.access in
    let same = place_same c.args.places.now.accesses c.as_slice.result.now k c.as_slice.ensures in
    let letter = c.in_ok-kind.ensures ∙ c.letter_of.ensures in
    one_gathered s formats c.args.places.now c.args.gathered.now c.args.seek.now c.args.list c.args.free c.in_ok-code.code
    (sym c.is_listed.ensures ∙ c.if-not-is_listed.false) c.requires.level c.requires.accesses
    (subst (λ p. Gathers meaning (letter_of s formats c.args.seek.now) p.tensor c.args.seek.now.level c.args.list c.args.free
    (Var p.cursor) (ends_at p.cursor) c.in_ok-code.code) same
    (subst (λ l. Gathers meaning l (place_of c.as_slice.result.now k).tensor c.args.seek.now.level c.args.list c.args.free
    (Var (place_of c.as_slice.result.now k).cursor) (ends_at (place_of c.as_slice.result.now k).cursor) c.in_ok-code.code) letter
    c.in_ok-code.ensures))
