-- Going over the positions of a segment of a level whose coordinates have one position each: the entries so far, and those that are left.
use Rattle.std.specs.Prelude.{◌≡◌, ℕ, ◌+◌, ◌≤◌, ◌<◌, List, [], ◌∷◌, ◌++◌, Some, None, refl}
use Rattle.std.proofs.Common.{◌∙◌, sym, ap, subst, arith}
use Rattle.std.proofs.lemmas.List.{append-nil, append_assoc}
use Rattle.level_core.specs.declared.span.Entry.{Entry}
use Rattle.level_core.specs.Entries.{Placed, Single, coord_at}
use Rattle.level_core.proofs.EntryLaws.{placed_within, placed_wider, placed_then, coord_after, begins, none_here}

-- up to a position the entries are done, and the others stand from there to the end
pub record Passing (lo pos hi : ℕ) (done all : List Entry) : Type 0 where
  pub rest : List Entry
  pub parts : all ≡ done ++ rest
  pub behind : Placed lo pos done
  pub ahead : Placed pos hi rest

pub passing_begins : (lo hi : ℕ) (all : List Entry) → Placed lo hi all → Passing lo lo hi [] all
passing_begins lo hi all p = record { rest = all; parts = refl; behind = omega arith; ahead = p }

coord_ahead : (lo pos hi : ℕ) (done all : List Entry) (p : Passing lo pos hi done all) → coord_at all pos ≡ coord_at p.rest pos
coord_ahead lo pos hi done all p = ap (λ es. coord_at es pos) p.parts ∙ coord_after lo pos pos done p.rest p.behind (omega arith)

-- past a position without a coordinate
pub passing_none : (lo pos hi : ℕ) (done all : List Entry) → pos < hi → Passing lo pos hi done all → coord_at all pos ≡ None
    → Passing lo (pos + 1) hi done all
passing_none lo pos hi done all l p h = record {
  rest = p.rest;
  parts = p.parts;
  behind = placed_wider lo pos (pos + 1) done (omega arith) p.behind;
  ahead = none_here pos hi p.rest l p.ahead (sym (coord_ahead lo pos hi done all p) ∙ h);
}

-- past one with a coordinate
pub record Passes (lo pos hi x : ℕ) (done all : List Entry) : Type 0 where
  pub entry : Entry
  pub at : entry.child.lo ≡ pos
  pub coord : entry.coord ≡ x
  pub past : Passing lo (pos + 1) hi (done ++ entry ∷ []) all

single_behind : (done rest : List Entry) → Single (done ++ rest) → Single rest
single_behind [] rest s = s
single_behind (e ∷ done) rest s = single_behind done rest s.1

pub passing_some : (lo pos hi x : ℕ) (done all : List Entry) → Single all → Passing lo pos hi done all → coord_at all pos ≡ Some x
    → Passes lo pos hi x done all
passing_some lo pos hi x done all single p h =
    let b = begins pos hi x p.rest p.ahead (sym (coord_ahead lo pos hi done all p) ∙ h) in
    let ahead : Placed pos hi (b.entry ∷ b.others) = subst (Placed pos hi) b.is p.ahead in
    let ones : Single (b.entry ∷ b.others) = subst Single b.is (single_behind done p.rest (subst Single p.parts single)) in
    let next : b.entry.child.hi ≡ pos + 1 = omega (arith, ones.0, b.at) in
    record {
      entry = b.entry;
      at = b.at;
      coord = b.coord;
      past = record {
        rest = b.others;
        parts = p.parts ∙ ap (λ es. done ++ es) b.is ∙ sym (append_assoc done (b.entry ∷ []) b.others);
        behind = subst (λ n. Placed lo n (done ++ b.entry ∷ [])) next (placed_then lo pos done b.entry p.behind ahead.0 ahead.1);
        ahead = subst (λ n. Placed n hi b.others) next ahead.2;
      };
    }

nothing_left : (pos hi : ℕ) (es : List Entry) → hi ≤ pos → Placed pos hi es → es ≡ []
nothing_left pos hi [] l p = refl
nothing_left pos hi (e ∷ es) l p = let k = placed_within e.child.hi hi es p.2 in absurd (omega (arith, l, p.0, p.1, k))

-- at the end of the segment all entries are done
pub passing_ends : (lo pos hi : ℕ) (done all : List Entry) → hi ≤ pos → Passing lo pos hi done all → done ≡ all
passing_ends lo pos hi done all l p =
    sym (append-nil done) ∙ ap (λ es. done ++ es) (sym (nothing_left pos hi p.rest l p.ahead)) ∙ sym p.parts
