-- A walk over the positions of a segment.
use Rattle.std.specs.Prelude.{◌≡◌, ℕ, ◌+◌, ◌≤◌, ◌<◌, List, [], ◌∷◌, ◌++◌, Some, None, refl}
use Rattle.std.proofs.Common.{◌∙◌, sym, ap, subst, arith}
use Rattle.std.proofs.lemmas.List.{append-nil, append_assoc}
use Rattle.level_core.specs.declared.span.Span.{Span}
use Rattle.level_core.specs.declared.span.Entry.{Entry}
use Rattle.level_core.specs.Entries.{Placed, StandsAt, coord_at}
use Rattle.level_core.proofs.EntryLaws.{placed_within, placed_wider, placed_then, coord_after, begins, none_here, stands_after}
use Rattle.tensor_storage.specs.Walks.{Walking, IsNext}

pub walk_begins : (segment : Span) (all : List Entry) → Placed segment.lo segment.hi all → Walking segment segment.lo [] all
walk_begins segment all p = record { rest = all; parts = refl; behind = omega arith; ahead = p }

pub walk_from : (segment : Span) (pos : ℕ) (done all : List Entry) → Walking segment pos done all → segment.lo ≤ pos
walk_from segment pos done all w = placed_within segment.lo pos done w.behind

coord_ahead : (segment : Span) (pos : ℕ) (done all : List Entry) (w : Walking segment pos done all) → coord_at all pos ≡ coord_at w.rest pos
coord_ahead segment pos done all w = ap (λ es. coord_at es pos) w.parts ∙ coord_after segment.lo pos pos done w.rest w.behind (omega arith)

-- past a position without a coordinate
pub walk_past : (segment : Span) (pos : ℕ) (done all : List Entry) → pos < segment.hi → Walking segment pos done all
    → coord_at all pos ≡ None → Walking segment (pos + 1) done all
walk_past segment pos done all l w h = record {
  rest = w.rest;
  parts = w.parts;
  behind = placed_wider segment.lo pos (pos + 1) done (omega arith) w.behind;
  ahead = none_here pos segment.hi w.rest l w.ahead (sym (coord_ahead segment pos done all w) ∙ h);
}

-- the entry of a position with a coordinate
pub record Meets (segment : Span) (pos x : ℕ) (done all : List Entry) : Type 0 where
  pub entry : Entry
  pub stands : StandsAt pos entry all
  pub at : entry.child.lo ≡ pos
  pub coord : entry.coord ≡ x
  pub next : IsNext segment pos done all entry

pub walk_meets : (segment : Span) (pos x : ℕ) (done all : List Entry) → Walking segment pos done all → coord_at all pos ≡ Some x
    → Meets segment pos x done all
walk_meets segment pos x done all w h =
    let b = begins pos segment.hi x w.rest w.ahead (sym (coord_ahead segment pos done all w) ∙ h) in
    let ahead : Placed pos segment.hi (b.entry ∷ b.others) = subst (Placed pos segment.hi) b.is w.ahead in
    let all_is : all ≡ done ++ b.entry ∷ b.others = w.parts ∙ ap (λ es. done ++ es) b.is in
    let stands : StandsAt b.entry.child.lo b.entry all =
    subst (λ es. StandsAt b.entry.child.lo b.entry es) (sym all_is) (stands_after done b.entry b.others) in
    record {
      entry = b.entry;
      stands = subst (λ n. StandsAt n b.entry all) b.at stands;
      at = b.at;
      coord = b.coord;
      next = record {
        stands = stands;
        further = omega (arith, b.at, ahead.1);
        within = placed_within b.entry.child.hi segment.hi b.others ahead.2;
        walks = record {
          rest = b.others;
          parts = all_is ∙ sym (append_assoc done (b.entry ∷ []) b.others);
          behind = placed_then segment.lo pos done b.entry w.behind ahead.0 ahead.1;
          ahead = ahead.2;
        };
      };
    }

-- what the level tells of the entry is the entry
pub walk_tells : (segment : Span) (pos x : ℕ) (done all : List Entry) (child : Span) → Walking segment pos done all
    → coord_at all pos ≡ Some x → ((e : Entry) → StandsAt pos e all → child ≡ e.child)
    → IsNext segment pos done all (record { coord = x; child = child })
walk_tells segment pos x done all child w h tells =
    let m = walk_meets segment pos x done all w h in
    let P : ℕ → Type 0 = λ y. IsNext segment pos done all (record { coord = y; child = child }) in
    let Q : Span → Type 0 = λ s. IsNext segment pos done all (record { coord = m.entry.coord; child = s }) in
    subst P m.coord (subst Q (sym (tells m.entry m.stands)) m.next)

nothing_left : (pos hi : ℕ) (es : List Entry) → hi ≤ pos → Placed pos hi es → es ≡ []
nothing_left pos hi [] l p = refl
nothing_left pos hi (e ∷ es) l p = let k = placed_within e.child.hi hi es p.2 in absurd (omega (arith, l, p.0, p.1, k))

pub walk_ends : (segment : Span) (pos : ℕ) (done all : List Entry) → segment.hi ≤ pos → Walking segment pos done all → done ≡ all
walk_ends segment pos done all l w = sym (w.parts ∙ ap (λ es. done ++ es) (nothing_left pos segment.hi w.rest l w.ahead) ∙ append-nil done)
