-- The children of coordinates, and where entries stand.
use Rattle.std.specs.Prelude.{◌≡◌, ℕ, ◌≤◌, ◌<◌, ◌==◌, Bool, true, false, if◌then◌else◌, List, [], ◌∷◌, Some, None, refl}
use Rattle.std.proofs.Common.{◌∙◌, ap, arith, inl, inr}
use Rattle.level_core.specs.declared.span.Span.{Span}
use Rattle.level_core.specs.declared.span.Entry.{Entry}
use Rattle.level_core.specs.Entries.{IsIn, Placed, Single, StandsAt, coord_at, position_of}
use Rattle.level_core.proofs.EntryLaws.{coord_here, coord_past, placed_within}
use Rattle.tensor_storage.specs.Children.{child_of}
use Rattle.level_cursors.specs.Children.{one_of}

-- where each coordinate has one child position, that position tells the child
pub child_is_one : (es : List Entry) (x : ℕ) → Single es → child_of es x ≡ one_of (position_of es x)
child_is_one [] x s = refl
child_is_one (e ∷ es) x s = elim (e.coord == x) as (λ b. (if b then Some e.child else child_of es x) ≡ one_of
    (if b then Some e.child.lo else position_of es x)) [
      | true ↦ ap (λ hi. Some (record { lo = e.child.lo; hi = hi })) s.0
      | false ↦ child_is_one es x s.1
    ]

stands_from : (pos hi : ℕ) (es : List Entry) (e : Entry) → Placed pos hi es → StandsAt e.child.lo e es → pos ≤ e.child.lo
stands_from pos hi [] e p h = absurd h
stands_from pos hi (f ∷ es) e p (inl h) = omega (arith, h.0, p.0)
stands_from pos hi (f ∷ es) e p (inr h) = let k = stands_from f.child.hi hi es e p.2 h in omega (arith, k, p.0, p.1)

stands_below : (pos hi : ℕ) (es : List Entry) (e : Entry) → Placed pos hi es → StandsAt e.child.lo e es → e.child.lo < hi
stands_below pos hi [] e p h = absurd h
stands_below pos hi (f ∷ es) e p (inl h) = let k = placed_within f.child.hi hi es p.2 in omega (arith, h.0, p.1, k)
stands_below pos hi (f ∷ es) e p (inr h) = stands_below f.child.hi hi es e p.2 h

-- the first position of an entry is in the segment
pub stands_in : (segment : Span) (es : List Entry) (e : Entry) → Placed segment.lo segment.hi es → StandsAt e.child.lo e es
    → IsIn e.child.lo segment
stands_in segment es e p h = (stands_from segment.lo segment.hi es e p h, stands_below segment.lo segment.hi es e p h)

-- and its coordinate is the entry's
pub coord_of_entry : (pos hi : ℕ) (es : List Entry) (e : Entry) → Placed pos hi es → StandsAt e.child.lo e es
    → coord_at es e.child.lo ≡ Some e.coord
coord_of_entry pos hi [] e p h = absurd h
coord_of_entry pos hi (f ∷ es) e p (inl h) = coord_here f es e.child.lo (omega (arith, h.0)) (omega (arith, h.0, p.1))
    ∙ ap (λ g. Some g.coord) h.1
coord_of_entry pos hi (f ∷ es) e p (inr h) = coord_past f es e.child.lo (stands_from f.child.hi hi es e p.2 h)
    ∙ coord_of_entry f.child.hi hi es e p.2 h

-- a position that a coordinate has is in the segment
pub position_below : (lo hi : ℕ) (es : List Entry) (x p : ℕ) → Placed lo hi es → position_of es x ≡ Some p → p < hi
position_below lo hi [] x p h g = absurd (none_is p g)
  where
    none_is : (p : ℕ) → None ≡ Some p → ⊥
    none_is p h = cc
position_below lo hi (e ∷ es) x p h g = by_test (position_below e.child.hi hi es x p h.2) (e.coord == x) g
  where
    some_is : (x y : ℕ) → Some x ≡ Some y → x ≡ y
    some_is x y h = cc

    by_test : (position_of es x ≡ Some p → p < hi) → (b : Bool) → (if b then Some e.child.lo else position_of es x) ≡ Some p → p < hi
    by_test later true g = let same = some_is e.child.lo p g in let inside = placed_within e.child.hi hi es h.2 in
        omega (arith, same, h.1, inside)
    by_test later false g = later g
