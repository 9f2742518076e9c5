-- The levels of a kernel's result to which heads of rows are appended: what arrays and variables have, and what changes as one head more is
-- appended, level by level.
use Rattle.std.specs.Prelude.{◌≡◌, ◌⊎◌, ℕ, suc, ◌+◌, ◌*◌, ◌≤◌, ◌<◌, true, false, List, [], ◌∷◌, ◌++◌}
use Rattle.std.specs.Prelude.{length, Some, slice_index, All}
use Rattle.limits.specs.Limits.{greatest_position_count}
use Rattle.kernel_code.specs.Arrays.{same_arr}
use Rattle.kernel_code.specs.Keeps.{Leaves, no_turns}
use Rattle.kernel_code.specs.Meaning.{State}
use Rattle.kernel_code.specs.declared.syntax.Arr.{Arr}
use Rattle.kernel_code.specs.declared.syntax.Arr.TheVariants.{Values, Dimension}
use Rattle.level_core.specs.declared.letter.Letter.{Letter}
use Rattle.level_core.specs.Fragments.{IsOf, IsOutside}
use Rattle.level_core.specs.Kinds.{properties}
use Rattle.level_rows.specs.Tables.{Increase}
use Rattle.format_spec.specs.Formats.{Chained}
use Rattle.tensor_storage.specs.Levels.{meaning}
use Rattle.level_appends.specs.Appended.{LevelAt}
use Rattle.appended_results.specs.Heads.{letter_at, IsHead, AreAppended, key_in}
use Rattle.appended_results.specs.Places.{place_above, positions_above, rows_above, is_fixed}

-- four variables for each level, from base on: the three of its cursor, and the last head's coordinate there
abbrev pub cursor_at : ℕ → ℕ → ℕ
cursor_at base d = base + 4 * d

abbrev pub key_at : ℕ → ℕ → ℕ
key_at base d = base + 4 * d + 3

-- the variables of so many levels
pub record IsMine (base levels y : ℕ) : Type 0 where
  pub from : base ≤ y
  pub before : y < base + 4 * levels

-- an array of no level of the result, and not its values
pub record IsKept (a : Arr) : Type 0 where
  pub outside : (k : ℕ) → IsOutside 0 k a
  pub no_values : same_arr (Values 0) a ≡ false

-- the first heads are appended to the level that stands below d others, if it isn't full; a full one has its size
pub record LevelHolds (letters : List Letter) (sizes : List ℕ) (heads : List (List ℕ)) (base d : ℕ) (s : State) : Type 0 where
  pub size : (properties (letter_at letters d)).full ≡ true → s.arrays (Dimension 0 (suc d)) ≡ Some (slice_index sizes d ∷ [])
  pub appended : (properties (letter_at letters d)).full ≡ false
      → LevelAt meaning (letter_at letters d) (slice_index sizes d) (suc d) (cursor_at base d)
      (positions_above letters sizes (key_in heads) (length heads) d) (length heads)
      (rows_above letters sizes (key_in heads) (length heads) d) s

-- levels of these kinds and ranges, of which the first `head` may be appended to by heads that increase and are below the ranges
pub record MayHold (letters : List Letter) (sizes : List ℕ) (head : ℕ) (heads : List (List ℕ)) : Type 0 where
  pub is_head : IsHead letters head
  pub appended : AreAppended letters
  pub chained : Chained false letters
  pub each : length sizes ≡ length letters
  pub small : All (λ size. size ≤ greatest_position_count) sizes
  pub rise : Increase (key_in heads) head (length heads)
  pub below : (d j : ℕ) → d < head → j < length heads → key_in heads d j < slice_index sizes d

-- a growth of one of the levels, or of the values in place of a full one, to a count that passes the limit and is at most the number of
-- positions that the heads tell there
pub record PassesPlace (letters : List Letter) (sizes : List ℕ) (heads : List (List ℕ)) (d : ℕ) (a : Arr) (count : ℕ) : Type 0 where
  pub array : IsOf 0 (suc d) a ⊎ (a ≡ Values 0)
  pub above : greatest_position_count < count
  pub within : count ≤ positions_above letters sizes (key_in heads) (length heads) (suc d)

-- while one head more is appended: the first d levels have it, the others don't yet. Two variables tell its position at the last of the
-- first d levels and, where their number changes, how many positions there are
pub record Between (letters : List Letter) (sizes : List ℕ) (head base free : ℕ) (heads : List (List ℕ)) (key : List ℕ) (d : ℕ)
    (s0 s : State) : Type 0 where
  pub above : (e : ℕ) → e < d → LevelHolds letters sizes (heads ++ key ∷ []) base e s
  pub below : (e : ℕ) → d ≤ e → e < length letters → LevelHolds letters sizes heads base e s
  pub place : d ≤ head → s.vars (free + 2 * d) ≡ Some (place_above letters sizes (key_in (heads ++ key ∷ [])) d (length heads))
  pub count : is_fixed letters d ≡ false
      → s.vars (free + 2 * d + 1) ≡ Some (positions_above letters sizes (key_in (heads ++ key ∷ [])) (suc (length heads)) d)
  pub few : (e : ℕ) → e ≤ d → positions_above letters sizes (key_in (heads ++ key ∷ [])) (suc (length heads)) e ≤ greatest_position_count
  pub leaves : Leaves (IsMine base (length letters)) IsKept free no_turns s0 s
  pub keys : (e : ℕ) → e < length letters → s.vars (key_at base e) ≡ s0.vars (key_at base e)
  pub values : s.arrays (Values 0) ≡ s0.arrays (Values 0)
