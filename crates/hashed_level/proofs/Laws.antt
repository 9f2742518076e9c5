-- Lemmas about what specs/Laws.antt defines.
use Rattle.std.specs.Prelude.{◌≡◌, ℕ, ◌+◌, ◌*◌, ◌^◌, ◌≤◌, ◌<◌, List, length, slice_index, slice_set, refl}
use Rattle.std.proofs.Common.{sym, subst, arith}
use Rattle.limits.specs.Limits.{greatest_position_count}
use Rattle.limits.proofs.Limits.{positions_are_small}
use Rattle.level_core.specs.declared.span.Span.{Span}
use Rattle.level_core.specs.declared.span.Entry.{Entry}
use Rattle.level_core.specs.declared.letter.Letter.TheVariants.{Hashed as HashedLetter}
use Rattle.level_core.specs.Entries.{IsIn, StandsAt, coord_at, one}
use Rattle.level_core.specs.Kinds.{positions_for, MayInsert}
use Rattle.hashed_level.specs.Slots.{coord_of, FirstEmpty, Stops, Passes}
use Rattle.hashed_level.specs.SlotLaws.{Free, filled_coord}
use Rattle.hashed_level.proofs.SlotLaws.{filled_child, filled_longer, filled_free}
use Rattle.hashed_level.proofs.SearchLaws.{free_stops, absent_first}
use Rattle.kernel_code.specs.Widths.{slot_width}
use Rattle.hashed_level.specs.Hashed.{Hashed, block_width, base_of, KeepsRules, IsAllowed, segment_of, entries_of, Inserted}
use Rattle.hashed_level.specs.Laws.{block_within, block_small, coordinate_filled, insert_absent, set_puts, first_inside}

-- a block where a coordinate may be inserted has an empty slot
pub insert_free : (l : Hashed) (p x : ℕ) → MayInsert HashedLetter l.size (segment_of l (one p)) (entries_of l (one p)) x
    → Free (slice_index l.slots) (base_of l p) (base_of l p + block_width l)
insert_free l p x may = let few = (may.free refl).1 in filled_free (slice_index l.slots) (block_width l) (base_of l p) (omega (arith, few))

-- positions are words
pub block_word : (l : Hashed) (p : ℕ) → KeepsRules l → p < l.parents → base_of l p + block_width l < 2 ^ 64
block_word l p rules h = let inside = block_small l p rules h in let small = positions_are_small in omega (arith, inside, small)

pub slots_word : (l : Hashed) (parents most : ℕ) → positions_for HashedLetter l.size parents most ≤ greatest_position_count
    → parents * slot_width most < 2 ^ 64
slots_word l parents most within = let small = positions_are_small in omega (arith, within, small)

-- a search for a coordinate that may be inserted doesn't pass all slots
pub never_passes : (l : Hashed) (p x : ℕ) (slots : List ℕ) (w base : ℕ) → slots ≡ l.slots → w ≡ block_width l → base ≡ base_of l p
    → MayInsert HashedLetter l.size (segment_of l (one p)) (entries_of l (one p)) x → Passes (slice_index slots) w base x w → ⊥
never_passes l p x slots w base same width begin may pass =
    let first = subst (λ xs. Passes (slice_index xs) w base x w) same pass in
    let second = subst (λ v. Passes (slice_index l.slots) v base x v) width first in
    let third = subst (λ b. Passes (slice_index l.slots) (block_width l) b x (block_width l)) begin second in
    free_stops (slice_index l.slots) (block_width l) (base_of l p) x (insert_free l p x may) third.filled

-- it stops at the first empty slot
pub stops_first : (l : Hashed) (p x slot : ℕ) (slots : List ℕ) (w base : ℕ) → slots ≡ l.slots → w ≡ block_width l → base ≡ base_of l p
    → IsAllowed l (one p) → MayInsert HashedLetter l.size (segment_of l (one p)) (entries_of l (one p)) x
    → Stops (slice_index slots) w base x slot → FirstEmpty (slice_index l.slots) (block_width l) (base_of l p) x slot
stops_first l p x slot slots w base same width begin ok may stop =
    let first = subst (λ xs. Stops (slice_index xs) w base x slot) same stop in
    let second = subst (λ v. Stops (slice_index l.slots) v base x slot) width first in
    let third = subst (λ b. Stops (slice_index l.slots) (block_width l) b x slot) begin second in
    absent_first (slice_index l.slots) (block_width l) (base_of l p) x slot third (coordinate_filled l x ok.rules may.below)
    (insert_absent l p x may)

-- the child of an entry, which is within the segment
pub child_is : (l : Hashed) (pos : ℕ) (parent : Span) (e : Entry) → IsAllowed l parent → StandsAt pos e (entries_of l parent)
    → (e.child ≡ one pos) × (pos < greatest_position_count)
child_is l pos parent e ok h =
    let k = filled_child (slice_index l.slots) (block_width l) (base_of l parent.lo) pos e h in
    let inside = block_small l parent.lo ok.rules ok.prepared in
    (k.0, omega (arith, k.2, inside))

-- the coordinate of a slot
pub coord_is : (l : Hashed) (pos : ℕ) (parent : Span) → IsIn pos (segment_of l parent)
    → coord_at (entries_of l parent) pos ≡ coord_of (slice_index l.slots pos)
coord_is l pos parent h = filled_coord (slice_index l.slots) (block_width l) (base_of l parent.lo) pos h.0 h.1

-- an insertion makes at most one entry more
pub inserted_longer : (l m : Hashed) (p x slot : ℕ) → IsAllowed l (one p)
    → MayInsert HashedLetter l.size (segment_of l (one p)) (entries_of l (one p)) x → Inserted l p x slot m
    → length (entries_of m (one p)) ≤ length (entries_of l (one p)) + 1
inserted_longer l m p x slot ok may is =
    let inside = block_within l p ok.rules ok.prepared in
    let there = first_inside (slice_index l.slots) (block_width l) (base_of l p) x slot is.first in
    subst (λ k. length (entries_of k (one p)) ≤ length (entries_of l (one p)) + 1) (sym is.level)
    (filled_longer (slice_index l.slots) (slice_index (slice_set l.slots slot x)) slot x (block_width l) (base_of l p)
    (set_puts l.slots slot x (omega (arith, inside, there.1))))
