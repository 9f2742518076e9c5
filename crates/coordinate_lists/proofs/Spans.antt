-- Lemmas about what specs/Spans.antt defines.
use Rattle.std.specs.Prelude.{◌≡◌, ◌≢◌, ℕ, zero, suc, ◌+◌, ◌-◌, ◌≤◌, ◌<◌, Bool, true, false, List, [], ◌∷◌, length, take, drop, Some}
use Rattle.std.specs.Prelude.{slice_get, refl}
use Rattle.std.proofs.Common.{◌∙◌, sym, ap, subst, arith, inl, inr}
use Rattle.std.proofs.lemmas.List.{length-take, length-take-le, length-drop}
use Rattle.std.proofs.lemmas.Bool.{cases_order}
use Rattle.limits.specs.Limits.{greatest_position_count}
use Rattle.level_core.specs.declared.span.Span.{Span}
use Rattle.level_core.specs.declared.span.Entry.{Entry}
use Rattle.level_core.specs.declared.letter.Properties.{Properties}
use Rattle.level_core.specs.Entries.{IsIn, Placed, Tiles, Rising, AllBelow, Distinct, Single, StandsAt, coord_at}
use Rattle.level_core.specs.Kinds.{AreEntries}
use Rattle.level_core.specs.Logs.{Rises, slice, groups, entries_between}
use Rattle.level_core.proofs.EntryLaws.{tiles_placed, rising_distinct}
use Rattle.level_core.specs.GroupLaws.{CoordsBelow, IsGroup}
use Rattle.level_core.proofs.GroupLaws.{groups_tile, groups_rising, groups_single, groups_below, groups_coord, group_is, single_at}
use Rattle.level_core.proofs.GroupLaws.{stands_where}
use Rattle.coordinate_lists.specs.Spans.{Within, IsGroupIn}
use Rattle.std.proofs.lemmas.Option.{same_Some}

pub slice_length : (coords : List ℕ) (s : Span) → Within coords s → s.lo + length (slice coords s) ≡ s.hi
slice_length coords s w =
    let rest = length-drop s.lo coords in
    let long : s.hi - s.lo ≤ length (drop s.lo coords) = omega (arith, w.order, w.inside, rest) in
    let is = length-take-le (s.hi - s.lo) (drop s.lo coords) long in
    omega (arith, is, w.order)

take_get : (n : ℕ) (xs : List ℕ) (i : ℕ) → i < n → slice_get (take n xs) i ≡ slice_get xs i
take_get zero xs i h = absurd (omega (arith, h))
take_get (suc n) [] i h = refl
take_get (suc n) (x ∷ xs) zero h = refl
take_get (suc n) (x ∷ xs) (suc i) h = take_get n xs i (omega (arith, h))

drop_get : (n : ℕ) (xs : List ℕ) (i : ℕ) → slice_get (drop n xs) i ≡ slice_get xs (n + i)
drop_get zero xs i = let same : i ≡ 0 + i = omega arith in ap (slice_get xs) same
drop_get (suc n) [] i = refl
drop_get (suc n) (x ∷ xs) i = let same : suc (n + i) ≡ suc n + i = omega arith in drop_get n xs i ∙ ap (slice_get (x ∷ xs)) same

-- a coordinate of the positions is the one that stands at its position
pub slice_coord : (coords : List ℕ) (s : Span) (q : ℕ) → IsIn q s → slice_get (slice coords s) (q - s.lo) ≡ slice_get coords q
slice_coord coords s q i =
    let same : s.lo + (q - s.lo) ≡ q = omega (arith, i.0) in
    take_get (s.hi - s.lo) (drop s.lo coords) (q - s.lo) (omega (arith, i.0, i.1)) ∙ drop_get s.lo coords (q - s.lo)
    ∙ ap (slice_get coords) same

below_take : (n m : ℕ) (xs : List ℕ) → CoordsBelow n xs → CoordsBelow n (take m xs)
below_take n zero xs b = tt
below_take n (suc m) [] b = tt
below_take n (suc m) (x ∷ xs) b = (b.0, below_take n m xs b.1)

below_drop : (n m : ℕ) (xs : List ℕ) → CoordsBelow n xs → CoordsBelow n (drop m xs)
below_drop n zero xs b = b
below_drop n (suc m) [] b = tt
below_drop n (suc m) (x ∷ xs) b = below_drop n m xs b.1

pub slice_below : (n : ℕ) (coords : List ℕ) (s : Span) → CoordsBelow n coords → CoordsBelow n (slice coords s)
slice_below n coords s b = below_take n (s.hi - s.lo) (drop s.lo coords) (below_drop n s.lo coords b)

-- the coordinate of one position keeps any order
pub one_rises : (unique : Bool) (coords : List ℕ) (s : Span) → s.hi ≡ s.lo + 1 → Rises unique 0 (slice coords s)
one_rises unique coords s h = let same : 1 ≡ s.hi - s.lo =
    omega (arith, h) in subst (λ n. Rises unique 0 (take n (drop s.lo coords))) same (first (drop s.lo coords))
  where
    first : (xs : List ℕ) → Rises unique 0 (take 1 xs)
    first [] = tt
    first (x ∷ xs) = (omega arith, tt)

pub entries_tile : (coords : List ℕ) (s : Span) → Within coords s → Tiles s.lo s.hi (entries_between coords s)
entries_tile coords s w =
    subst (λ hi. Tiles s.lo hi (entries_between coords s)) (slice_length coords s w) (groups_tile s.lo (slice coords s))

pub entries_placed : (coords : List ℕ) (s : Span) → Within coords s → Placed s.lo s.hi (entries_between coords s)
entries_placed coords s w = tiles_placed s.lo s.hi (entries_between coords s) (entries_tile coords s w)

pub entries_below : (n : ℕ) (coords : List ℕ) (s : Span) → CoordsBelow n coords → AllBelow n (entries_between coords s)
entries_below n coords s b = groups_below n s.lo (slice coords s) (slice_below n coords s b)

pub entries_rise : (unique : Bool) (coords : List ℕ) (s : Span) → Rises unique 0 (slice coords s) → Rising 0 (entries_between coords s)
entries_rise unique coords s r = groups_rising unique 0 s.lo (slice coords s) r

pub entries_distinct : (unique : Bool) (coords : List ℕ) (s : Span) → Rises unique 0 (slice coords s) → Distinct (entries_between coords s)
entries_distinct unique coords s r = rising_distinct 0 (entries_between coords s) (entries_rise unique coords s r)

pub entries_single : (unique : Bool) (coords : List ℕ) (s : Span) → unique ≡ true → Rises unique 0 (slice coords s)
    → Single (entries_between coords s)
entries_single unique coords s u r = groups_single 0 s.lo (slice coords s) (subst (λ b. Rises b 0 (slice coords s)) u r)

one_group : (p : ℕ) (xs : List ℕ) → length xs ≡ 1 → length (groups p xs) ≡ 1
one_group p [] h = h
one_group p (x ∷ []) h = refl
one_group p (x ∷ y ∷ xs) h = absurd (omega (arith, h))

-- one position is one entry
pub entries_of_one : (coords : List ℕ) (s : Span) → s.hi ≡ s.lo + 1 → s.hi ≤ length coords → length (entries_between coords s) ≡ 1
entries_of_one coords s h l =
    let is = slice_length coords s (record { order = omega (arith, h); inside = l }) in
    one_group s.lo (slice coords s) (omega (arith, is, h))

-- the coordinate of a position is the one that stands there
pub entries_coord : (coords : List ℕ) (s : Span) (pos : ℕ) → s.hi ≤ length coords → IsIn pos s
    → coord_at (entries_between coords s) pos ≡ slice_get coords pos
entries_coord coords s pos l i =
    let long = slice_length coords s (record { order = omega (arith, i.0, i.1); inside = l }) in
    groups_coord s.lo (slice coords s) pos i.0 (omega (arith, long, i.1)) ∙ slice_coord coords s pos i

-- all that kinds without holes promise, of a list whose coordinates are below the range and keep the order between these positions
pub entries_are : (p : Properties) (n : ℕ) (coords : List ℕ) (parent s : Span) → p.full ≡ false → (p.branchless ≡ true → parent ≡ s)
    → n ≤ greatest_position_count → length coords ≤ greatest_position_count
    → Within coords s → CoordsBelow n coords → Rises p.unique 0 (slice coords s) → AreEntries p n parent s (entries_between coords s)
entries_are p n coords parent s full branchless range limit w b r = record {
  within = range;
  positions = omega (arith, limit, w.inside);
  below = entries_below n coords s b;
  distinct = entries_distinct p.unique coords s r;
  placed = entries_placed coords s w;
  properties = record {
    full = λ yes. absurd (not_both p.full yes full);
    ordered = λ _. entries_rise p.unique coords s r;
    unique = λ u. entries_single p.unique coords s u r;
    branchless = λ yes h. entries_of_one coords s (subst (λ q. q.hi ≡ q.lo + 1) (branchless yes) h) w.inside;
    compact = λ _. entries_tile coords s w;
  };
}
  where
    not_both : (b : Bool) → b ≡ true → b ≡ false → ⊥
    not_both b h g = cc

group_length : (coords : List ℕ) (s : Span) (e : Entry) → s.hi ≤ length coords → IsGroup s.lo (slice coords s) e
    → s.lo + length (slice coords s) ≡ s.hi
group_length coords s e l g =
    let some = length-take (s.hi - s.lo) (drop s.lo coords) in
    let rest = length-drop s.lo coords in
    omega (arith, some, rest, l, g.from, g.some, g.inside)

-- an entry that stands there is such a group
pub entry_is_group : (coords : List ℕ) (s : Span) (e : Entry) (pos : ℕ) → s.hi ≤ length coords → StandsAt pos e (entries_between coords s)
    → IsGroupIn coords s e
entry_is_group coords s e pos l h =
    let g = group_is s.lo (slice coords s) e pos h in
    let long = group_length coords s e l g in
    record {
      from = g.from;
      some = g.some;
      inside = omega (arith, g.inside, long);
      equal = λ q a b. sym (slice_coord coords s q (omega (arith, g.from, a), omega (arith, b, g.inside, long))) ∙ g.equal q a b;
      whole = λ a same. g.whole (omega (arith, a, long)) (slice_coord coords s e.child.hi (omega (arith, g.from, g.some), a) ∙ same);
    }

-- its end, found as the first position past its own with another coordinate, or else as the end of these positions
pub group_ends : (coords : List ℕ) (s : Span) (e : Entry) (pos next x : ℕ) → s.hi ≤ length coords
    → StandsAt pos e (entries_between coords s) → pos < next → next ≤ s.hi
    → ((q : ℕ) → pos ≤ q → q < next → slice_get coords q ≡ Some x) → (next < s.hi → slice_get coords next ≢ Some x) → next ≡ e.child.hi
group_ends coords s e pos next x l h some inside equal whole =
    let g = entry_is_group coords s e pos l h in
    let at = stands_where (entries_between coords s) e pos h in
    let same : x ≡ e.coord = same_Some x e.coord (sym (equal pos (omega arith) some)
    ∙ g.equal pos (omega (arith, at)) (omega (arith, at, g.some))) in
    elim (cases_order next e.child.hi) [
      | inl is ↦ is
      | inr (inl early) ↦ absurd (whole (omega (arith, early, g.inside)) (g.equal next (omega (arith, at, some)) early
          ∙ ap Some (sym same)))
      | inr (inr late) ↦ absurd (g.whole (omega (arith, late, inside)) (equal e.child.hi (omega (arith, at, g.some)) late ∙ ap Some same))
    ]

-- where each coordinate stands once, an entry is one position
pub entry_is_one : (coords : List ℕ) (s : Span) (e : Entry) (pos : ℕ) → Rises true 0 (slice coords s)
    → StandsAt pos e (entries_between coords s) → e.child.hi ≡ pos + 1
entry_is_one coords s e pos r h =
    let at = stands_where (entries_between coords s) e pos h in
    let single = single_at (entries_between coords s) e pos (entries_single true coords s refl r) h in
    omega (arith, at, single)
