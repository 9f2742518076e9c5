-- Lemmas about what specs/Laws.antt defines.
use Rattle.std.specs.Prelude.{◌≡◌, ◌≢◌, ℕ, zero, suc, ◌+◌, ◌-◌, ◌*◌, ◌%◌, ◌^◌, ◌≤◌, ◌<◌, ◌==◌, Bool, true, false, if◌then◌else◌, Some}
use Rattle.std.specs.Prelude.{None, refl}
use Rattle.std.proofs.Common.{◌∙◌, sym, ap, arith, inl, inr}
use Rattle.std.proofs.Math.Nat.{mul-le-mul_right, mod-eq_of_lt, add-mul-mod_self_right}
use Rattle.std.proofs.lemmas.Bool.Decides.{nat_tests}
use Rattle.limits.specs.Limits.{greatest_position_count}
use Rattle.limits.proofs.Limits.{positions_are_small}
use Rattle.level_core.specs.declared.span.Span.{Span}
use Rattle.level_core.specs.declared.span.Entry.{Entry}
use Rattle.level_core.specs.Entries.{one, IsIn, StandsAt, coord_at, position_of}
use Rattle.level_core.proofs.EntryLaws.{coord_here, coord_past}
use Rattle.dense_level.specs.Dense.{IsAllowed, segment_of, entries_from, entries_of}
use Rattle.dense_level.specs.Laws.{segment_end}

from_none : (count x pos y : ℕ) → x + count ≤ y → position_of (entries_from count x pos) y ≡ None
from_none zero x pos y h = refl
from_none (suc count) x pos y h = by_test (from_none count (x + 1) (pos + 1) y (omega (arith, h))) (x == y) refl
  where
    by_test : position_of (entries_from count (x + 1) (pos + 1)) y ≡ None → (b : Bool) → (x == y) ≡ b
        → (if b then Some pos else position_of (entries_from count (x + 1) (pos + 1)) y) ≡ None
    by_test again true is = let same : x ≡ y = grind (arith, nat_tests, is) in absurd (omega (arith, same, h))
    by_test again false is = again

from_coord : (count x pos q : ℕ) → pos ≤ q → q < pos + count → coord_at (entries_from count x pos) q ≡ Some (x + (q - pos))
from_coord zero x pos q h g = absurd (omega (arith, h, g))
from_coord (suc count) x pos q h g = by_test (from_coord count (x + 1) (pos + 1) q) (pos == q) refl
  where
    entry : Entry
    entry = record { coord = x; child = one pos }

    by_test : (pos + 1 ≤ q → q < pos + 1 + count → coord_at (entries_from count (x + 1) (pos + 1)) q ≡ Some (x + 1 + (q - (pos + 1))))
        → (b : Bool) → (pos == q) ≡ b → coord_at (entries_from (suc count) x pos) q ≡ Some (x + (q - pos))
    by_test again true is = let same : pos ≡ q =
        grind (arith, nat_tests, is) in coord_here entry (entries_from count (x + 1) (pos + 1)) q h (omega (arith, same))
        ∙ ap Some (omega (arith, same))
    by_test again false is =
        let apart : pos ≢ q = grind (arith, nat_tests, is) in
        coord_past entry (entries_from count (x + 1) (pos + 1)) q (omega (arith, h, apart))
        ∙ again (omega (arith, h, apart)) (omega (arith, g))
        ∙ ap Some (omega (arith, h, apart))

from_child : (count x pos q : ℕ) (e : Entry) → StandsAt q e (entries_from count x pos) → (e.child ≡ one q) × (q < pos + count)
from_child zero x pos q e h = absurd h
from_child (suc count) x pos q e (inl h) = (sym (ap (λ f. f.child) h.1) ∙ ap one h.0, omega (arith, h.0))
from_child (suc count) x pos q e (inr h) = let k = from_child count (x + 1) (pos + 1) q e h in (k.0, omega (arith, k.1))

-- positions of an allowed parent are words
pub small_end : (n : ℕ) (parent : Span) → IsAllowed n parent → parent.hi * n < 2 ^ 64
small_end n parent ok = let within = ok.positions in let small = positions_are_small in omega (arith, within, small)

pub small_start : (n : ℕ) (parent : Span) → IsAllowed n parent → parent.lo * n < 2 ^ 64
small_start n parent ok =
    let first = ok.one_parent in
    let end = small_end n parent ok in
    let less : parent.lo * n ≤ parent.hi * n = mul-le-mul_right n (omega (arith, first)) in
    omega (arith, end, less)

pub small_place : (n p x : ℕ) → IsAllowed n (one p) → x < n → p * n + x < 2 ^ 64
small_place n p x ok less = let end = segment_end n p (p + 1) refl in let small = small_end n (one p) ok in omega (arith, end, small, less)

-- where a position is in a segment, the size isn't 0, and the coordinate is what the size leaves of the position
pub size_positive : (n pos : ℕ) (parent : Span) → IsAllowed n parent → IsIn pos (segment_of n parent) → 0 < n
size_positive n pos parent ok h = let end = segment_end n parent.lo parent.hi ok.one_parent in omega (arith, h.0, h.1, end)

pub remainder_is : (n pos : ℕ) (parent : Span) → IsAllowed n parent → IsIn pos (segment_of n parent) → pos % n ≡ pos - parent.lo * n
remainder_is n pos parent ok h =
    let end = segment_end n parent.lo parent.hi ok.one_parent in
    let parts : pos ≡ (pos - parent.lo * n) + parent.lo * n = omega (arith, h.0) in
    ap (λ k. k % n) parts ∙ add-mul-mod_self_right (pos - parent.lo * n) parent.lo n ∙ mod-eq_of_lt (omega (arith, h.0, h.1, end))

-- a coordinate that isn't below the size isn't there
pub position_none : (n x : ℕ) (parent : Span) → n ≤ x → position_of (entries_of n parent) x ≡ None
position_none n x parent h = from_none n 0 (parent.lo * n) x (omega (arith, h))

-- the child of an entry, which is within the segment
pub child_is : (n pos : ℕ) (parent : Span) (e : Entry) → IsAllowed n parent → StandsAt pos e (entries_of n parent)
    → (e.child ≡ one pos) × (pos < greatest_position_count)
child_is n pos parent e ok h =
    let k = from_child n 0 (parent.lo * n) pos e h in
    let end = segment_end n parent.lo parent.hi ok.one_parent in
    let within = ok.positions in
    (k.0, omega (arith, k.1, end, within))

-- the coordinate of a position
pub coord_is : (n pos : ℕ) (parent : Span) → IsAllowed n parent → IsIn pos (segment_of n parent)
    → coord_at (entries_of n parent) pos ≡ Some (pos - parent.lo * n)
coord_is n pos parent ok h = let end =
    segment_end n parent.lo parent.hi ok.one_parent in from_coord n 0 (parent.lo * n) pos h.0 (omega (arith, h.1, end))
    ∙ ap Some (omega arith)
