-- Entries by their coordinates and positions.
use Rattle.std.specs.Prelude.{◌≡◌, ℕ, ◌≤◌, ◌<◌, nat_le, nat_lt, ◌==◌, ◌&&◌, Bool, true, false, if◌then◌else◌, List, [], ◌∷◌, Some, None}
use Rattle.std.specs.Prelude.{refl}
use Rattle.std.proofs.Common.{◌∙◌, sym, ap, subst, arith, inl, inr}
use Rattle.std.proofs.lemmas.Bool.Decides.{nat_tests}
use Rattle.std.proofs.lemmas.Option.{same_Some}
use Rattle.level_core.specs.declared.span.Entry.{Entry}
use Rattle.level_core.specs.Entries.{IsIn, Placed, Lacks, Distinct, AllBelow, StandsAt, coord_at, position_of}
use Rattle.level_core.proofs.EntryLaws.{placed_within, coord_here, coord_past}

pub stands_within : (lo hi p : ℕ) (e : Entry) (es : List Entry) → Placed lo hi es → StandsAt p e es
    → (lo ≤ e.child.lo) × (e.child.lo < e.child.hi) × (e.child.hi ≤ hi)
stands_within lo hi p e [] pl s = absurd s
stands_within lo hi p e (f ∷ es) pl (inl s) =
    let k = placed_within f.child.hi hi es pl.2 in
    subst (λ x. (lo ≤ x.child.lo) × (x.child.lo < x.child.hi) × (x.child.hi ≤ hi)) s.1 (pl.0, pl.1, k)
stands_within lo hi p e (f ∷ es) pl (inr s) = let k = stands_within f.child.hi hi p e es pl.2 s in let a = k.0 in let p0 = pl.0 in
    let p1 = pl.1 in (omega (arith, a, p0, p1), k.1, k.2)

-- a position of a child has the coordinate
pub coord_in : (lo hi p pos : ℕ) (e : Entry) (es : List Entry) → Placed lo hi es → StandsAt p e es → IsIn pos e.child
    → coord_at es pos ≡ Some e.coord
coord_in lo hi p pos e [] pl s is = absurd s
coord_in lo hi p pos e (f ∷ es) pl (inl s) is = subst (λ x. IsIn pos x.child → coord_at (f ∷ es) pos ≡ Some x.coord) s.1
    (λ j. coord_here f es pos j.0 j.1) is
coord_in lo hi p pos e (f ∷ es) pl (inr s) is =
    let k = stands_within f.child.hi hi p e es pl.2 s in
    let a = k.0 in let b = is.0 in
    coord_past f es pos (omega (arith, a, b)) ∙ coord_in f.child.hi hi p pos e es pl.2 s is

pub record EntryOf (pos x : ℕ) (es : List Entry) : Type 0 where
  pub entry : Entry
  pub stands : StandsAt entry.child.lo entry es
  pub coord : entry.coord ≡ x
  pub at : IsIn pos entry.child

-- a position with a coordinate is a child of an entry
pub coord_from : (pos x : ℕ) (es : List Entry) → coord_at es pos ≡ Some x → EntryOf pos x es
coord_from pos x [] h = absurd (none_is x h)
  where
    none_is : (x : ℕ) → None ≡ Some x → ⊥
    none_is x h = cc
coord_from pos x (e ∷ es) h = by_lo (coord_from pos x es) (nat_le e.child.lo pos) (nat_lt pos e.child.hi) refl refl h
  where
    later : EntryOf pos x es → EntryOf pos x (e ∷ es)
    later k = record { entry = k.entry; stands = inr k.stands; coord = k.coord; at = k.at }

    by_lo : (coord_at es pos ≡ Some x → EntryOf pos x es) → (a b : Bool) → nat_le e.child.lo pos ≡ a → nat_lt pos e.child.hi ≡ b
        → (if a && b then Some e.coord else coord_at es pos) ≡ Some x → EntryOf pos x (e ∷ es)
    by_lo again true true from before h =
        record {
          entry = e;
          stands = inl (refl, refl);
          coord = same_Some e.coord x h;
          at = (grind (arith, nat_tests, from), grind (arith, nat_tests, before));
        }
    by_lo again true false from before h = later (again h)
    by_lo again false b from before h = later (again h)

pub lacks_at : (x p : ℕ) (e : Entry) (es : List Entry) → Lacks x es → StandsAt p e es → e.coord ≡ x → ⊥
lacks_at x p e [] l s h = s
lacks_at x p e (f ∷ es) l (inl s) h = l.0 (ap (λ y. y.coord) s.1 ∙ h)
lacks_at x p e (f ∷ es) l (inr s) h = lacks_at x p e es l.1 s h

-- a coordinate has one entry
pub one_entry : (p q : ℕ) (e f : Entry) (es : List Entry) → Distinct es → StandsAt p e es → StandsAt q f es → e.coord ≡ f.coord → e ≡ f
one_entry p q e f [] d s t h = absurd s
one_entry p q e f (y ∷ es) d (inl s) (inl t) h = sym s.1 ∙ t.1
one_entry p q e f (y ∷ es) d (inl s) (inr t) h = absurd (lacks_at y.coord q f es d.0 t (sym h ∙ ap (λ z. z.coord) (sym s.1)))
one_entry p q e f (y ∷ es) d (inr s) (inl t) h = absurd (lacks_at y.coord p e es d.0 s (h ∙ ap (λ z. z.coord) (sym t.1)))
one_entry p q e f (y ∷ es) d (inr s) (inr t) h = one_entry p q e f es d.1 s t h

pub record Found (x : ℕ) (es : List Entry) : Type 0 where
  pub entry : Entry
  pub stands : StandsAt entry.child.lo entry es
  pub coord : entry.coord ≡ x

pub found : (x pos : ℕ) (es : List Entry) → position_of es x ≡ Some pos → Found x es
found x pos [] h = absurd (none_is pos h)
  where
    none_is : (x : ℕ) → None ≡ Some x → ⊥
    none_is x h = cc
found x pos (e ∷ es) h = by_test (found x pos es) (e.coord == x) refl h
  where
    by_test : (position_of es x ≡ Some pos → Found x es) → (b : Bool) → (e.coord == x) ≡ b
        → (if b then Some e.child.lo else position_of es x) ≡ Some pos → Found x (e ∷ es)
    by_test again true is h = record { entry = e; stands = inl (refl, refl); coord = grind (arith, nat_tests, is) }
    by_test again false is h = let k = again h in record { entry = k.entry; stands = inr k.stands; coord = k.coord }

pub below_at : (n p : ℕ) (e : Entry) (es : List Entry) → AllBelow n es → StandsAt p e es → e.coord < n
below_at n p e [] a s = absurd s
below_at n p e (f ∷ es) a (inl s) = subst (λ y. y.coord < n) s.1 a.0
below_at n p e (f ∷ es) a (inr s) = below_at n p e es a.1 s
