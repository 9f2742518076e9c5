-- The cursors of all levels are set, and then no head is appended.
use Rattle.std.specs.Prelude.{◌≡◌, ◌⊎◌, ℕ, suc, ◌+◌, ◌*◌, ◌≤◌, ◌<◌, Bool, true, false, List, [], ◌++◌, length, slice_index, All}
use Rattle.std.specs.Prelude.{refl}
use Rattle.std.proofs.Common.{◌∙◌, sym, ap, subst, arith, inl, inr}
use Rattle.std.proofs.lemmas.Bool.{cases_lt}
use Rattle.limits.specs.Limits.{greatest_position_count}
use Rattle.kernel_code.specs.Does.{Does, Never}
use Rattle.kernel_code.proofs.Does.{does_weaker, does_nothing, does_append}
use Rattle.kernel_code.specs.Keeps.{Leaves, EveryArray, no_turns}
use Rattle.kernel_code.proofs.Keeps.{leaves_none}
use Rattle.kernel_code.specs.Meaning.{State}
use Rattle.kernel_code.specs.declared.syntax.KStmt.{KStmt}
use Rattle.level_core.specs.declared.letter.Letter.{Letter}
use Rattle.level_core.specs.Kinds.{properties, capabilities}
use Rattle.level_core.specs.Laws.{AreAtStart, HoldsStart}
use Rattle.level_core.specs.Logs.{with_parents, nothing_reserved}
use Rattle.level_core.specs.Meaning.{Arrays}
use Rattle.level_rows.proofs.EmitLaws.{HasLog}
use Rattle.tensor_storage.specs.Laws.{laws}
use Rattle.tensor_storage.specs.Levels.{meaning}
use Rattle.tensor_storage.proofs.Steps.{new_level, new_is}
use Rattle.level_appends.specs.Appended.{IsOfCursor}
use Rattle.level_appends.specs.Codes.{IsAtStart}
use Rattle.level_appends.proofs.RowSteps.{level_begun}
use Rattle.appended_results.specs.Heads.{letter_at, AreAppended, key_in}
use Rattle.appended_results.specs.Places.{positions_above, rows_above}
use Rattle.appended_results.specs.Levels.{cursor_at, IsMine}
use Rattle.appended_results.specs.Rows.{HoldsHeads}
use Rattle.appended_results.specs.Begins.{Beginning, BeginsOne, BeginsFirst}

pub none_begun : (letters : List Letter) (levels base : ℕ) → BeginsFirst letters levels base 0 []
none_begun letters levels base c top above s =
    does_nothing c s _ _
    (record { started = λ e h. absurd (omega (arith, h)); leaves = leaves_none (IsMine base levels) EveryArray top no_turns s })

module _ (letters : List Letter) (levels base top d : ℕ) (inside : d < levels) (above : base + 4 * levels ≤ top) (s0 s : State)
    (b : Beginning letters levels base top d s0 s) where
  -- one cursor more
  one_begun : (t : State) → Leaves (IsOfCursor (cursor_at base d)) EveryArray top no_turns s t
      → ((properties (letter_at letters d)).full ≡ false → IsAtStart (cursor_at base d) t) → Beginning letters levels base top (suc d) s0 t
  one_begun t l now = record {
    started = λ e h sparse. by_order e h sparse (cases_lt e d);
    leaves = record {
      below = λ y h mine. l.below y h (λ cursor. mine (record {
        from = (let f = cursor.from in omega (arith, f));
        before = (let f = cursor.before in omega (arith, f, inside));
      })) ∙ b.leaves.below y h mine;
      arrays = λ a h. l.arrays a h ∙ b.leaves.arrays a h;
      turns = λ k. let x = l.turns k in let y = b.leaves.turns k in omega (arith, x, y);
    };
  }
    where
      earlier : (e y : ℕ) → e < d → y < cursor_at base e + 3 → t.vars y ≡ s.vars y
      earlier e y less before =
          l.below y (omega (arith, before, less, inside, above))
          (λ cursor. let f = cursor.from in omega (arith, f, before, less))

      by_order : (e : ℕ) → e < suc d → (properties (letter_at letters e)).full ≡ false → (e < d) ⊎ (d ≤ e) → IsAtStart (cursor_at base e) t
      by_order e h sparse (inl less) =
          let at = b.started e less sparse in
          record {
            parent = earlier e (cursor_at base e) less (omega arith) ∙ at.parent;
            begin = earlier e (cursor_at base e + 1) less (omega arith) ∙ at.begin;
            count = earlier e (cursor_at base e + 2) less (omega arith) ∙ at.count;
          }
      by_order e h sparse (inr from) =
          let same : e ≡ d = omega (arith, h, from) in
          subst (λ k. IsAtStart (cursor_at base k) t) (sym same)
          (now (ap (λ k. (properties (letter_at letters k)).full) (sym same) ∙ sparse))

pub next_begun : (letters : List Letter) (levels base d : ℕ) → d < levels → (code more all : List KStmt)
    → BeginsFirst letters levels base d code → BeginsOne (letter_at letters d) (cursor_at base d) more → all ≡ code ++ more
    → BeginsFirst letters levels base (suc d) all
next_begun letters levels base d inside code more all first one is c top above s =
    subst (λ k. Does c k s (Beginning letters levels base top (suc d) s) Never) (sym is)
    (does_append c code more s _ _ _ (first c top above s) (λ t b. by_full t b (properties (letter_at letters d)).full refl))
  where
    apart : true ≡ false → ⊥
    apart e = cc

    by_full : (t : State) → Beginning letters levels base top d s t → (f : Bool) → (properties (letter_at letters d)).full ≡ f
        → Does c more t (Beginning letters levels base top (suc d) s) Never
    by_full t b true full =
        subst (λ k. Does c k t (Beginning letters levels base top (suc d) s) Never) (sym (one.full full))
        (does_nothing c t _ _
        (one_begun letters levels base top d inside above s t b t
        (leaves_none (IsOfCursor (cursor_at base d)) EveryArray top no_turns t) (λ sparse. absurd (apart (sym full ∙ sparse)))))
    by_full t b false sparse =
        does_weaker c more t _ _ _ _ (one.sparse sparse c top t)
        (λ u k. one_begun letters levels base top d inside above s t b u k.0 (λ _. k.1))
        (λ turns a count never. never)

-- a level as a kernel begins it
begun_log : (letter : Letter) (size parents level : ℕ) (arrays : Arrays) → (capabilities letter).append ≡ true
    → size ≤ greatest_position_count → parents ≤ greatest_position_count → AreAtStart letter size parents 0 level arrays
    → HasLog meaning letter size level (with_parents letter parents nothing_reserved) arrays
begun_log letter size parents level arrays able small few at =
    let is = (new_is letter 0).kind in
    let start = subst (λ kind. HoldsStart meaning kind size parents 0 level arrays) is
    (laws.starts (new_level letter 0) size parents 0 level arrays small few
    (subst (λ kind. AreAtStart kind size parents 0 level arrays) (sym is) at)) in
    record {
      left = start.start;
      keeps = start.keeps;
      kind = start.kind;
      size_is = start.size;
      log_is = start.log able;
      held = start.held;
    }

-- no head is appended once the cursors are set, where the arrays are those with which a kernel begins
pub nothing_appended : (letters : List Letter) (sizes : List ℕ) (head base top : ℕ) (s0 s : State) → AreAppended letters
    → length sizes ≡ length letters → All (λ size. size ≤ greatest_position_count) sizes
    → ((e : ℕ) → e ≤ length letters → positions_above letters sizes (key_in []) 0 e ≤ greatest_position_count)
    → ((e : ℕ) → e < length letters
    → AreAtStart (letter_at letters e) (slice_index sizes e) (positions_above letters sizes (key_in []) 0 e) 0 (suc e) s0.arrays)
    → Beginning letters (length letters) base top (length letters) s0 s → HoldsHeads letters sizes head base [] s
nothing_appended letters sizes head base top s0 s able each small few starts b = record {
  levels = λ e h.
      let at = at_start e h in
      record {
        size = at.size;
        appended = λ sparse.
            level_begun meaning laws (letter_at letters e) (slice_index sizes e) (suc e) (cursor_at base e)
            (positions_above letters sizes (key_in []) 0 e) (rows_above letters sizes (key_in []) 0 e) s
            (begun_log (letter_at letters e) (slice_index sizes e) (positions_above letters sizes (key_in []) 0 e) (suc e) s.arrays
            (able e h sparse) (small e 0 (omega (arith, each, h))) (few e (omega (arith, h))) at)
            (b.started e h sparse);
      };
  few = few;
  last = λ e j h is. absurd (omega (arith, is));
}
  where
    at_start : (e : ℕ) → e < length letters
        → AreAtStart (letter_at letters e) (slice_index sizes e) (positions_above letters sizes (key_in []) 0 e) 0 (suc e) s.arrays
    at_start e h =
        let at = starts e h in
        record {
          size = λ full. b.leaves.arrays _ tt ∙ at.size full;
          zeros = λ array count is. b.leaves.arrays _ tt ∙ at.zeros array count is;
        }
