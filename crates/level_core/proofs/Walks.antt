-- A walk over the positions of a segment: the entries so far, and those that are left.
use Rattle.std.specs.Prelude.{◌≡◌, ℕ, ◌+◌, ◌≤◌, ◌<◌, List, [], ◌∷◌, ◌++◌, Some, None, refl}
use Rattle.std.proofs.Common.{◌∙◌, sym, ap, subst, arith}
use Rattle.std.proofs.lemmas.List.{append-nil, append_assoc}
use Rattle.level_core.specs.Entries.{Span, Entry, Placed, StandsAt, coord_at}
use Rattle.level_core.proofs.EntryLaws.{placed_within, placed_wider, placed_then, coord_after, begins, none_here, stands_after}

-- up to a position the entries are done, and the others stand from there to the end
pub record Walking (lo pos hi : ℕ) (done all : List Entry) : Type 0 where
  pub rest : List Entry
  pub parts : all ≡ done ++ rest
  pub behind : Placed lo pos done
  pub ahead : Placed pos hi rest

pub walk_begins : (lo hi : ℕ) (all : List Entry) → Placed lo hi all → Walking lo lo hi [] all
walk_begins lo hi all p = record { rest = all; parts = refl; behind = omega arith; ahead = p }

coord_ahead : (lo pos hi : ℕ) (done all : List Entry) (w : Walking lo pos hi done all) → coord_at all pos ≡ coord_at w.rest pos
coord_ahead lo pos hi done all w = ap (λ es. coord_at es pos) w.parts ∙ coord_after lo pos pos done w.rest w.behind (omega arith)

-- past a position without a coordinate
pub walk_past : (lo pos hi : ℕ) (done all : List Entry) → pos < hi → Walking lo pos hi done all → coord_at all pos ≡ None
    → Walking lo (pos + 1) hi done all
walk_past lo pos hi done all l w h = record {
  rest = w.rest;
  parts = w.parts;
  behind = placed_wider lo pos (pos + 1) done (omega arith) w.behind;
  ahead = none_here pos hi w.rest l w.ahead (sym (coord_ahead lo pos hi done all w) ∙ h);
}

-- the entry of a position with a coordinate, and the walk past it
pub record Steps (lo pos hi x : ℕ) (done all : List Entry) : Type 0 where
  pub entry : Entry
  pub stands : StandsAt pos entry all
  pub coord : entry.coord ≡ x
  pub more : pos < entry.child.hi
  pub within : entry.child.hi ≤ hi
  pub past : Walking lo entry.child.hi hi (done ++ entry ∷ []) all

pub walk_steps : (lo pos hi x : ℕ) (done all : List Entry) → Walking lo pos hi done all → coord_at all pos ≡ Some x
    → Steps lo pos hi x done all
walk_steps lo pos hi x done all w h =
    let b = begins pos hi x w.rest w.ahead (sym (coord_ahead lo pos hi done all w) ∙ h) in
    let ahead : Placed pos hi (b.entry ∷ b.others) = subst (Placed pos hi) b.is w.ahead in
    let all_is : all ≡ done ++ b.entry ∷ b.others = w.parts ∙ ap (λ es. done ++ es) b.is in
    record {
      entry = b.entry;
      stands = subst (λ es. StandsAt pos b.entry es) (sym all_is)
          (subst (λ n. StandsAt n b.entry (done ++ b.entry ∷ b.others)) b.at (stands_after done b.entry b.others));
      coord = b.coord;
      more = omega (arith, b.at, ahead.1);
      within = placed_within b.entry.child.hi hi b.others ahead.2;
      past = record {
        rest = b.others;
        parts = all_is ∙ sym (append_assoc done (b.entry ∷ []) b.others);
        behind = placed_then lo pos done b.entry w.behind ahead.0 ahead.1;
        ahead = ahead.2;
      };
    }

-- the walk past an entry that was found by its coordinate and its children
pub record Stepped (lo pos hi : ℕ) (child : Span) (pushed all : List Entry) : Type 0 where
  pub walks : Walking lo child.hi hi pushed all
  pub more : pos < child.hi
  pub within : child.hi ≤ hi

pub walk_stepped : (lo pos hi x : ℕ) (done all pushed : List Entry) (child : Span) → Walking lo pos hi done all
    → coord_at all pos ≡ Some x → ((e : Entry) → StandsAt pos e all → child ≡ e.child)
    → pushed ≡ done ++ record { coord = x; child = child } ∷ [] → Stepped lo pos hi child pushed all
walk_stepped lo pos hi x done all pushed child w h found is =
    let s = walk_steps lo pos hi x done all w h in
    let same : child ≡ s.entry.child = found s.entry s.stands in
    let entry : record { coord = x; child = child } ≡ s.entry = ap (λ n. record { coord = n; child = child }) (sym s.coord)
    ∙ ap (λ c. record { coord = s.entry.coord; child = c }) same in
    let all_done : pushed ≡ done ++ s.entry ∷ [] = is ∙ ap (λ e. done ++ e ∷ []) entry in
    record {
      walks = subst (λ es. Walking lo child.hi hi es all) (sym all_done)
          (subst (λ c. Walking lo c.hi hi (done ++ s.entry ∷ []) all) (sym same) s.past);
      more = subst (λ c. pos < c.hi) (sym same) s.more;
      within = subst (λ c. c.hi ≤ hi) (sym same) s.within;
    }

nothing_left : (pos hi : ℕ) (es : List Entry) → hi ≤ pos → Placed pos hi es → es ≡ []
nothing_left pos hi [] l p = refl
nothing_left pos hi (e ∷ es) l p = let k = placed_within e.child.hi hi es p.2 in absurd (omega (arith, l, p.0, p.1, k))

-- at the end of the segment all entries are done
pub walk_ends : (lo pos hi : ℕ) (done all : List Entry) → hi ≤ pos → Walking lo pos hi done all → done ≡ all
walk_ends lo pos hi done all l w = sym (append-nil done) ∙ ap (λ es. done ++ es) (sym (nothing_left pos hi w.rest l w.ahead)) ∙ sym w.parts
