-- Behind the last row: each level's last parent is given its positions.
use Rattle.std.specs.Prelude.{◌≡◌, ℕ, suc, ◌≤◌, ◌<◌, true, false, List, [], ◌∷◌, length, slice_index, Some}
use Rattle.kernel_code.specs.Does.{Does, Never}
use Rattle.kernel_code.specs.Keeps.{Leaves, NoVariable, no_turns}
use Rattle.kernel_code.specs.Meaning.{Setting, State}
use Rattle.kernel_code.specs.declared.syntax.Arr.TheVariants.{Values, Dimension}
use Rattle.kernel_code.specs.declared.syntax.KStmt.{KStmt}
use Rattle.level_core.specs.declared.letter.Letter.{Letter}
use Rattle.level_core.specs.Kinds.{properties}
use Rattle.tensor_storage.specs.Levels.{meaning}
use Rattle.level_appends.specs.Appended.{LevelFilled}
use Rattle.level_appends.specs.Codes.{EndsLevel}
use Rattle.appended_results.specs.Heads.{letter_at, key_in}
use Rattle.appended_results.specs.Places.{positions_above, rows_above}
use Rattle.appended_results.specs.Levels.{IsKept, LevelHolds, MayHold}
use Rattle.appended_results.specs.Rows.{HoldsHeads}

-- all heads are appended to the level that stands below d others, and each of its parents has its positions; a full one has its size
pub record LevelEnds (letters : List Letter) (sizes : List ℕ) (heads : List (List ℕ)) (d : ℕ) (s : State) : Type 0 where
  pub size : (properties (letter_at letters d)).full ≡ true → s.arrays (Dimension 0 (suc d)) ≡ Some (slice_index sizes d ∷ [])
  pub filled : (properties (letter_at letters d)).full ≡ false
      → LevelFilled meaning (letter_at letters d) (slice_index sizes d) (suc d)
      (positions_above letters sizes (key_in heads) (length heads) d) (rows_above letters sizes (key_in heads) (length heads) d) s

-- while levels are ended: the first d of them are
pub record Ending (letters : List Letter) (sizes : List ℕ) (heads : List (List ℕ)) (base free d : ℕ) (s0 s : State) : Type 0 where
  pub above : (e : ℕ) → e < d → LevelEnds letters sizes heads e s
  pub below : (e : ℕ) → d ≤ e → e < length letters → LevelHolds letters sizes heads base e s
  pub leaves : Leaves NoVariable IsKept free no_turns s0 s
  pub values : s.arrays (Values 0) ≡ s0.arrays (Values 0)

-- the code of one level: none where it is full
pub record EndsOne (letter : Letter) (level base free : ℕ) (code : List KStmt) : Type 0 where
  pub full : (properties letter).full ≡ true → code ≡ []
  pub sparse : (properties letter).full ≡ false → EndsLevel meaning letter level base free code

-- the code ends the first d levels
abbrev pub EndsFirst : List Letter → ℕ → ℕ → ℕ → List KStmt → Type 0
EndsFirst letters base free d code =
    (c : Setting) (sizes : List ℕ) (head : ℕ) (heads : List (List ℕ)) → MayHold letters sizes head heads
    → (s : State) → HoldsHeads letters sizes head base heads s
    → Does c code s (Ending letters sizes heads base free d s) Never
