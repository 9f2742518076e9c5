-- The levels are ended one below another.
use Rattle.std.specs.Prelude.{◌≡◌, ◌⊎◌, ℕ, suc, ◌+◌, ◌*◌, ◌≤◌, ◌<◌, Bool, true, false, List, [], ◌++◌, length, slice_index, refl}
use Rattle.std.proofs.Common.{◌∙◌, sym, subst, arith, inl, inr}
use Rattle.std.proofs.lemmas.Bool.{cases_lt}
use Rattle.kernel_code.specs.Does.{Does, Never}
use Rattle.kernel_code.proofs.Does.{does_weaker, does_nothing, does_append}
use Rattle.kernel_code.specs.Keeps.{Leaves, NoVariable, no_turns}
use Rattle.kernel_code.proofs.Keeps.{leaves_none}
use Rattle.kernel_code.specs.Meaning.{Setting, State}
use Rattle.kernel_code.specs.declared.syntax.Arr.{Arr}
use Rattle.kernel_code.specs.declared.syntax.Arr.TheVariants.{Values, Dimension}
use Rattle.kernel_code.specs.declared.syntax.KStmt.{KStmt}
use Rattle.level_core.specs.declared.letter.Letter.{Letter}
use Rattle.level_core.specs.Fragments.{IsOf, IsOutside}
use Rattle.level_core.specs.Kinds.{properties}
use Rattle.tensor_storage.specs.Laws.{laws}
use Rattle.tensor_storage.specs.Levels.{meaning}
use Rattle.level_appends.proofs.Fragments.{log_there}
use Rattle.appended_results.specs.Heads.{letter_at, key_in}
use Rattle.appended_results.specs.Places.{positions_above, rows_above}
use Rattle.appended_results.specs.Levels.{cursor_at, IsKept, MayHold}
use Rattle.appended_results.specs.Ends.{LevelEnds, Ending, EndsOne, EndsFirst}
use Rattle.appended_results.proofs.PlaceLaws.{may_append_at}
use Rattle.appended_results.proofs.LevelSteps.{of_one, holds_there}

ends_there : (letters : List Letter) (sizes : List ℕ) (heads : List (List ℕ)) (e : ℕ) (s t : State)
    → ((a : Arr) → IsOf 0 (suc e) a → t.arrays a ≡ s.arrays a) → LevelEnds letters sizes heads e s → LevelEnds letters sizes heads e t
ends_there letters sizes heads e s t arrays h = record {
  size = λ full. arrays (Dimension 0 (suc e)) (refl, refl) ∙ h.size full;
  filled = λ sparse.
      let f = h.filled sparse in
      record {
        log = f.log;
        held = log_there meaning laws (letter_at letters e) (slice_index sizes e) (suc e) f.log s.arrays t.arrays arrays f.held;
        filled = f.filled;
      };
}

pub none_ended : (letters : List Letter) (base free : ℕ) → EndsFirst letters base free 0 []
none_ended letters base free c sizes head heads may s holds =
    does_nothing c s _ _ (record {
      above = λ e h. absurd (omega (arith, h));
      below = λ e from h. holds.levels e h;
      leaves = leaves_none NoVariable IsKept free no_turns s;
      values = refl;
    })

module _ (letters : List Letter) (base free d : ℕ) (inside : d < length letters) (above : base + 4 * length letters ≤ free)
    (sizes : List ℕ) (head : ℕ) (heads : List (List ℕ)) (may : MayHold letters sizes head heads) (s0 s : State)
    (b : Ending letters sizes heads base free d s0 s) where
  one_ended : (t : State) → Leaves NoVariable (IsOutside 0 (suc d)) free no_turns s t → LevelEnds letters sizes heads d t
      → Ending letters sizes heads base free (suc d) s0 t
  one_ended t l now = record {
    above = λ e h. by_order e h (cases_lt e d);
    below = λ e from h.
        holds_there letters sizes heads base e s t
        (λ y cursor. l.below y (let f = cursor.before in omega (arith, f, h, above)) (λ never. never))
        (λ a of. l.arrays a (λ also. let k = of_one a (suc e) (suc d) of also in omega (arith, k, from)))
        (b.below e (omega (arith, from)) h);
    leaves = record {
      below = λ y h m. l.below y h m ∙ b.leaves.below y h m;
      arrays = λ a kept. l.arrays a (kept.outside (suc d)) ∙ b.leaves.arrays a kept;
      turns = λ k. let x = l.turns k in let y = b.leaves.turns k in omega (arith, x, y);
    };
    values = l.arrays (Values 0) (λ of. of) ∙ b.values;
  }
    where
      by_order : (e : ℕ) → e < suc d → (e < d) ⊎ (d ≤ e) → LevelEnds letters sizes heads e t
      by_order e h (inl less) =
          ends_there letters sizes heads e s t
          (λ a of. l.arrays a (λ also. let k = of_one a (suc e) (suc d) of also in omega (arith, k, less))) (b.above e less)
      by_order e h (inr from) =
          let same : e ≡ d = omega (arith, h, from) in subst (λ k. LevelEnds letters sizes heads k t) (sym same) now

  -- the level's own code
  ends_it : (c : Setting) (more : List KStmt) → EndsOne (letter_at letters d) (suc d) (cursor_at base d) free more
      → Does c more s (Ending letters sizes heads base free (suc d) s0) Never
  ends_it c more one = by_full (properties (letter_at letters d)).full refl
    where
      apart : true ≡ false → ⊥
      apart e = cc

      by_full : (f : Bool) → (properties (letter_at letters d)).full ≡ f
          → Does c more s (Ending letters sizes heads base free (suc d) s0) Never
      by_full true is =
          subst (λ k. Does c k s (Ending letters sizes heads base free (suc d) s0) Never) (sym (one.full is))
          (does_nothing c s _ _
          (one_ended s (leaves_none NoVariable (IsOutside 0 (suc d)) free no_turns s)
          (record { size = (b.below d (omega arith) inside).size; filled = λ sparse. absurd (apart (sym is ∙ sparse)) })))
      by_full false is =
          does_weaker c more s _ _ _ _
          (one.sparse is (may.appended d inside is) c (slice_index sizes d) (positions_above letters sizes (key_in heads) (length heads) d)
          (rows_above letters sizes (key_in heads) (length heads) d)
          (may_append_at letters sizes (key_in heads) (length heads) head may.chained may.is_head.within may.rise may.below d headed)
          s ((b.below d (omega arith) inside).appended is))
          (λ t k. one_ended t k.0 (record { size = λ full. absurd (apart (sym full ∙ is)); filled = λ _. k.1 }))
          (λ turns a count never. never)
        where
          by_head : (d < head) ⊎ (head ≤ d) → d < head
          by_head (inl less) = less
          by_head (inr from) = absurd (apart (sym (may.is_head.tail d from inside) ∙ is))

          headed : d < head
          headed = by_head (cases_lt d head)

pub next_ended : (letters : List Letter) (base free d : ℕ) → d < length letters → base + 4 * length letters ≤ free
    → (code more all : List KStmt) → EndsFirst letters base free d code
    → EndsOne (letter_at letters d) (suc d) (cursor_at base d) free more → all ≡ code ++ more → EndsFirst letters base free (suc d) all
next_ended letters base free d inside above code more all first one is c sizes head heads may s holds =
    subst (λ k. Does c k s (Ending letters sizes heads base free (suc d) s) Never) (sym is)
    (does_append c code more s _ _ _ (first c sizes head heads may s holds)
    (λ t b. ends_it letters base free d inside above sizes head heads may s t b c more one))
