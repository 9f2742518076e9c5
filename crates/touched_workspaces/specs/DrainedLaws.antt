-- What is true of a workspace of one key that is drained: all that it holds is in its arrays.
use Rattle.std.specs.Prelude.{◌≡◌, ℕ, true, false, List, refl}
use Rattle.std.proofs.Common.{◌∙◌, sym, inl, inr}
use Rattle.numbers.specs.Arithmetic.{Arithmetic}
use Rattle.kernel_code.specs.declared.syntax.Arr.{Arr}
use Rattle.kernel_code.specs.declared.syntax.Arr.TheVariants.{Range, Values, Dimension, Ends, Coordinates, Width, Key, Sums}
use Rattle.kernel_code.specs.declared.syntax.Arr.TheVariants.{ListCoordinates, ListPositions}
use Rattle.kernel_code.specs.Meaning.{State}
use Rattle.tensor_map.specs.Entries.{Entry}
use Rattle.term_code.specs.WorkspaceSinks.{HoldsRows, IsOfWorkspace}
use Rattle.result_targets.specs.Scratch.{is_of_some_list}
use Rattle.drained_workspaces.specs.Draining.{DrainingLaws}
use Rattle.touched_workspaces.specs.Drained.{touched_draining}
use Rattle.touched_workspaces.specs.Drains.{AreWaiting, IsDraining}
use Rattle.touched_workspaces.specs.Sinks.{TouchedSink, HasRange, IsOfTouched, HoldsTouched, touched_sink}
use Rattle.touched_workspaces.specs.Touched.{HoldsMarked}

-- no array of a workspace is a scratch list's
not_list : (w : ℕ) (b : Arr) → IsOfWorkspace w b → is_of_some_list b ≡ false
not_list w Range of = refl
not_list w (Values n) of = refl
not_list w (Dimension n k) of = refl
not_list w (Ends n k) of = refl
not_list w (Coordinates n k) of = refl
not_list w (Width n k) of = refl
not_list w (Key n k) of = refl
not_list w (Sums n) of = refl
not_list w (ListCoordinates n) of = absurd of
not_list w (ListPositions n) of = absurd of

pub not_scratch : (k : TouchedSink) (b : Arr) → IsOfTouched k b → is_of_some_list b ≡ false
not_scratch k b (inl of) = not_list k.dense b of
not_scratch k b (inr of) = not_list k.list b of

range_stays : (variable size : ℕ) (s t : State) → t.arrays Range ≡ s.arrays Range → HasRange variable size s → HasRange variable size t
range_stays variable size s t stay h = record { words = h.words; words_are = stay ∙ h.words_are; told = h.told }

rows_stay : (w : ℕ) (rows : List Entry) (s t : State) → ((j : ℕ) → t.arrays (Key w j) ≡ s.arrays (Key w j))
    → t.arrays (Sums w) ≡ s.arrays (Sums w) → HoldsRows w 1 rows s.arrays → HoldsRows w 1 rows t.arrays
rows_stay w rows s t keys sums h = record {
  key = λ j l. keys j ∙ h.key j l;
  sums = sums ∙ h.sums;
  few = h.few;
}

module _ (k : TouchedSink) (a : Arithmetic) (s t : State) (stay : (b : Arr) → IsOfTouched k b → t.arrays b ≡ s.arrays b) where
  listed_stay : (rows : List Entry) → HoldsRows k.list 1 rows s.arrays → HoldsRows k.list 1 rows t.arrays
  listed_stay rows h = rows_stay k.list rows s t (λ j. stay (Key k.list j) (inr refl)) (stay (Sums k.list) (inr refl)) h

  marks_stay : (size : ℕ) (rows : List Entry) → HoldsMarked k.dense k.list size a rows s.arrays
      → HoldsMarked k.dense k.list size a rows t.arrays
  marks_stay size rows h = record {
    touched = h.touched;
    marked = record {
      marks = h.marked.marks;
      held = stay (Key k.dense 0) (inl refl) ∙ h.marked.held;
      many = h.marked.many;
      each = h.marked.each;
      once = h.marked.once;
      below = h.marked.below;
      listed = listed_stay _ h.marked.listed;
    };
    summed = record {
      sums = h.summed.sums;
      held = stay (Sums k.dense) (inl refl) ∙ h.summed.held;
      many = h.summed.many;
      each = h.summed.each;
    };
    same = h.same;
  }

  waiting_stay : (size : ℕ) (taken waiting : List Entry) → AreWaiting k a size taken waiting s.arrays
      → AreWaiting k a size taken waiting t.arrays
  waiting_stay size taken waiting w = record {
    values_are = stay (Sums k.list) (inr refl) ∙ w.values_are;
    marked = record {
      marks = w.marked.marks;
      held = stay (Key k.dense 0) (inl refl) ∙ w.marked.held;
      many = w.marked.many;
      each = w.marked.each;
    };
    summed = record {
      sums = w.summed.sums;
      held = stay (Sums k.dense) (inl refl) ∙ w.summed.held;
      many = w.summed.many;
      each = w.summed.each;
    };
  }

  module _ (range : t.arrays Range ≡ s.arrays Range) where
    -- what is held stays while the arrays of the two workspaces and the ranges do
    pub rows_held : (ranges : List ℕ) (rows : List Entry) → HoldsTouched k a ranges rows s → HoldsTouched k a ranges rows t
    rows_held ranges rows h = record {
      size = h.size;
      ranges_are = h.ranges_are;
      range = range_stays k.variable h.size s t range h.range;
      zero_is = h.zero_is;
      apart = h.apart;
      each = h.each;
      marked = λ small. marks_stay h.size rows (h.marked small);
      pushed = λ large. listed_stay rows (h.pushed large);
    }

    -- draining goes on while they do, whatever else is done
    pub draining_stays : (size : ℕ) (taken waiting : List Entry) → IsDraining k a size taken waiting s
        → IsDraining k a size taken waiting t
    draining_stays size taken waiting h = record {
      range = range_stays k.variable size s t range h.range;
      zero_is = h.zero_is;
      apart = h.apart;
      increasing = h.increasing;
      each = h.each;
      few = h.few;
      keys_are = stay (Key k.list 0) (inr refl) ∙ h.keys_are;
      marked = λ small. waiting_stay size taken waiting (h.marked small);
      pushed = λ large. stay (Sums k.list) (inr refl) ∙ h.pushed large;
    }

pub touched_draining_laws : DrainingLaws touched_sink touched_draining
touched_draining_laws = record {
  stays = λ k a ranges taken waiting s t stay range h. record {
    size = h.size;
    ranges_are = h.ranges_are;
    draining = draining_stays k a s t (λ b of. stay b (λ other. other of)) range h.size taken waiting h.draining;
  };
  holds_on = λ k a ranges rows s t stay range h. rows_held k a s t (λ b of. stay b (λ other. other of)) range ranges rows h;
  plain = λ k y none. none;
  lists = λ k b is of. absurd (let both : true ≡ false = sym is ∙ not_scratch k b of in cc both);
  few = λ k a ranges taken waiting s h. h.draining.few;
}
