-- What a cursor over a scratch list stands on stays while the list and its own variables do.
use Rattle.std.specs.Prelude.{◌≡◌, ℕ, ◌+◌, ◌≤◌, ◌<◌, List, [], ◌∷◌, Option, Some, None, refl}
use Rattle.std.proofs.Common.{◌∙◌, arith}
use Rattle.kernel_code.specs.declared.syntax.Arr.{Arr}
use Rattle.kernel_code.specs.declared.syntax.Arr.TheVariants.{ListCoordinates, ListPositions}
use Rattle.kernel_code.specs.Meaning.{State}
use Rattle.level_core.specs.declared.span.Span.{Span}
use Rattle.level_core.specs.declared.span.Entry.{Entry}
use Rattle.level_cursors.specs.Children.{ChildLeft}
use Rattle.level_cursors.specs.Cursors.{no_coordinate, front}
use Rattle.gathered_lists.specs.ListCursors.{IsAt, IsBefore, Stands}
use Rattle.gathered_lists.specs.Rows.{IsOfList, HasRows}

pub rows_kept : (list : ℕ) (all : List Entry) (s t : State) → HasRows list all s
    → ((a : Arr) → IsOfList list a → t.arrays a ≡ s.arrays a) → HasRows list all t
rows_kept list all s t r h = record {
  coordinates = h (ListCoordinates list) refl ∙ r.coordinates;
  positions = h (ListPositions list) refl ∙ r.positions;
}

module _ (list base : ℕ) where
  pub at_kept : (es : List Entry) (s t : State) → IsAt list base es s → t.vars (base + 1) ≡ s.vars (base + 1)
      → ((a : Arr) → IsOfList list a → t.arrays a ≡ s.arrays a) → IsAt list base es t
  at_kept es s t r v h = record {
    done = r.done;
    all = r.all;
    parts = r.parts;
    rows = rows_kept list r.all s t r.rows h;
    at = v ∙ r.at;
    few = r.few;
    each = r.each;
    least = r.least;
    rising = r.rising;
  }

  before_kept : (es : List Entry) (s t : State) → IsBefore list base es s → t.vars (base + 1) ≡ s.vars (base + 1)
      → ((a : Arr) → IsOfList list a → t.arrays a ≡ s.arrays a) → IsBefore list base es t
  before_kept [] s t r v h = tt
  before_kept (e ∷ es) s t r v h = at_kept (e ∷ es) s t r v h

  -- a cursor stands where it stood while its front, its place and its list stay
  pub stands_kept : (es : List Entry) (s t : State) → Stands list base es s → t.vars base ≡ s.vars base
      → t.vars (base + 1) ≡ s.vars (base + 1) → ((a : Arr) → IsOfList list a → t.arrays a ≡ s.arrays a) → Stands list base es t
  stands_kept es s t st f v h = record { front_is = f ∙ st.front_is; before = before_kept es s t st.before v h }

  -- its front is at most the number above all coordinates
  pub front_within : (es : List Entry) (s : State) → Stands list base es s → front es ≤ no_coordinate
  front_within [] s st = omega arith
  front_within (e ∷ es) s st = let below = st.before.each.0.below in omega (arith, below)

pub child_kept : (base : ℕ) (o : Option Span) (s t : State) → ChildLeft base o s
    → ((y : ℕ) → base ≤ y → y < base + 3 → t.vars y ≡ s.vars y) → ChildLeft base o t
child_kept base None s t h f = f base (omega arith) (omega arith) ∙ h
child_kept base (Some p) s t h f = (
  f base (omega arith) (omega arith) ∙ h.0,
  record { lo = f (base + 1) (omega arith) (omega arith) ∙ h.1.lo; hi = f (base + 1 + 1) (omega arith) (omega arith) ∙ h.1.hi },
)
