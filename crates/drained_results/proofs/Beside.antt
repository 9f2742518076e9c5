-- A result that rows are appended to and a workspace have no array in common.
use Rattle.std.specs.Prelude.{◌≡◌, ℕ, suc, false, List, length, refl}
use Rattle.std.proofs.Common.{◌∙◌, arith, inl, inr}
use Rattle.numbers.specs.Arithmetic.{Arithmetic}
use Rattle.kernel_code.specs.declared.syntax.Arr.{Arr}
use Rattle.kernel_code.specs.declared.syntax.Arr.TheVariants.{Range, Values, Dimension, Ends, Coordinates, Width, Key, Sums}
use Rattle.kernel_code.specs.declared.syntax.Arr.TheVariants.{ListCoordinates, ListPositions}
use Rattle.kernel_code.specs.Meaning.{State}
use Rattle.level_core.specs.Fragments.{IsOf}
use Rattle.tensor_map.specs.Entries.{Entry}
use Rattle.tensor_storage.specs.Storages.{in_level_order}
use Rattle.result_targets.specs.Scratch.{is_of_some_list}
use Rattle.result_targets.specs.Sinks.{Sink}
use Rattle.term_code.specs.WorkspaceSinks.{IsOfWorkspace}
use Rattle.appended_results.specs.Levels.{IsMine, IsKept, key_at}
use Rattle.appended_results.specs.Sink.{letters_in, appended_sink}
use Rattle.appended_results.specs.SinkLaws.{holds_there, many_letters}
use Rattle.appended_results.specs.declared.sink.AppendedSink.{AppendedSink}
use Rattle.drained_workspaces.specs.Drained.{AreBeside}
use Rattle.pair_workspaces.specs.Sinks.{pair_sink}
use Rattle.touched_workspaces.specs.Sinks.{IsOfTouched, touched_sink}
use Rattle.drained_results.specs.Beside.{AppendedBesideTouched, AppendedBesidePairs}

-- an array of a level is no workspace's, and no scratch list's
not_workspace : (level w : ℕ) (b : Arr) → IsOf 0 level b → IsOfWorkspace w b → ⊥
not_workspace level w Range is of = is
not_workspace level w (Values n) is of = is
not_workspace level w (Dimension n j) is of = of
not_workspace level w (Ends n j) is of = of
not_workspace level w (Coordinates n j) is of = of
not_workspace level w (Width n j) is of = of
not_workspace level w (Key n j) is of = is
not_workspace level w (Sums n) is of = is
not_workspace level w (ListCoordinates n) is of = is
not_workspace level w (ListPositions n) is of = is

not_scratch : (level : ℕ) (b : Arr) → IsOf 0 level b → is_of_some_list b ≡ false
not_scratch level Range is = absurd is
not_scratch level (Values n) is = absurd is
not_scratch level (Dimension n j) is = refl
not_scratch level (Ends n j) is = refl
not_scratch level (Coordinates n j) is = refl
not_scratch level (Width n j) is = refl
not_scratch level (Key n j) is = absurd is
not_scratch level (Sums n) is = absurd is
not_scratch level (ListCoordinates n) is = absurd is
not_scratch level (ListPositions n) is = absurd is

-- what a result holds stays while its variables, its levels and its values do
pub appended_stays : (k : AppendedSink) (a : Arithmetic) (ranges : List ℕ) (rows : List Entry) (s t : State)
    → ((y : ℕ) → IsMine k.base (length k.levels) y → t.vars y ≡ s.vars y)
    → ((level : ℕ) (b : Arr) → IsOf 0 level b → t.arrays b ≡ s.arrays b) → t.arrays (Values 0) ≡ s.arrays (Values 0)
    → appended_sink.holds k a ranges rows s → appended_sink.holds k a ranges rows t
appended_stays k a ranges rows s t f arrays values h =
    let many = many_letters k.levels in
    record {
      heads = h.heads;
      are = h.are;
      may = h.may;
      holds = record {
        levels = λ e l.
            holds_there (letters_in k) (in_level_order k.levels ranges) h.heads k.base e s t
            (λ y cursor. f y (record {
              from = (let p = cursor.from in omega (arith, p));
              before = (let p = cursor.before in omega (arith, p, l, many));
            }))
            (λ b of. arrays (suc e) b of) (h.holds.levels e l);
        few = h.holds.few;
        last = λ e j l is.
            let w = h.may.is_head.within in
            f (key_at k.base e) (record { from = omega arith; before = omega (arith, l, w, many) }) ∙ h.holds.last e j l is;
      };
      words = h.words;
      held = values ∙ h.held;
      sums = h.sums;
      zeros = h.zeros;
    }

-- a workspace by its arrays
module _ {W : Type 0} (inner : Sink W) (w : W) (Of : Arr → Type 0) (only : (b : Arr) → Of b → (n : ℕ) × IsOfWorkspace n b)
    (leaves : (b : Arr) → (Of b → ⊥) → inner.kept w b) where
  -- a result leaves the arrays of a workspace
  is_kept : (b : Arr) → ((Of b → ⊥) → ⊥) → IsKept b
  is_kept Range h = record { outside = λ level is. is; no_values = refl }
  is_kept (Values n) h = absurd (h (λ of. (only (Values n) of).1))
  is_kept (Dimension n j) h = absurd (h (λ of. (only (Dimension n j) of).1))
  is_kept (Ends n j) h = absurd (h (λ of. (only (Ends n j) of).1))
  is_kept (Coordinates n j) h = absurd (h (λ of. (only (Coordinates n j) of).1))
  is_kept (Width n j) h = absurd (h (λ of. (only (Width n j) of).1))
  is_kept (Key n j) h = record { outside = λ level is. is; no_values = refl }
  is_kept (Sums n) h = record { outside = λ level is. is; no_values = refl }
  is_kept (ListCoordinates n) h = record { outside = λ level is. is; no_values = refl }
  is_kept (ListPositions n) h = record { outside = λ level is. is; no_values = refl }

  beside_workspace : (k : AppendedSink) → AreBeside appended_sink k inner w
  beside_workspace k = record {
    stays = λ a ranges rows s t vars same h.
        appended_stays k a ranges rows s t vars
        (λ level b is.
        same.same b (not_scratch level b is) (leaves b (λ of. not_workspace level (only b of).0 b is (only b of).1)))
        (same.same (Values 0) refl (leaves (Values 0) (λ of. (only (Values 0) of).1))) h;
    leaves = λ b h. is_kept b (λ out. h (leaves b out));
    ranges = record { outside = λ level is. is; no_values = refl };
  }

pub appended_beside_touched : AppendedBesideTouched
appended_beside_touched k w =
    beside_workspace touched_sink w (IsOfTouched w) (λ b of. elim of [ inl it ↦ (w.dense, it) | inr it ↦ (w.list, it) ]) (λ b out. out) k

pub appended_beside_pairs : AppendedBesidePairs
appended_beside_pairs k w = beside_workspace pair_sink w (IsOfWorkspace w.number) (λ b of. (w.number, of)) (λ b out. out) k
