-- A result that heads of rows are appended to as a whole: its levels, the last head, and a value for each position.
use Rattle.std.specs.Prelude.{◌≡◌, ℕ, zero, suc, ◌-◌, ◌≤◌, ◌<◌, List, [], ◌∷◌, ◌++◌, length, replicate, slice_index, Some}
use Rattle.limits.specs.Limits.{greatest_position_count}
use Rattle.kernel_code.specs.Does.{Does}
use Rattle.kernel_code.specs.Keeps.{Leaves, no_turns}
use Rattle.kernel_code.specs.Meaning.{Setting, State}
use Rattle.kernel_code.specs.declared.syntax.Arr.TheVariants.{Values}
use Rattle.kernel_code.specs.declared.syntax.Op.TheVariants.{Sub}
use Rattle.kernel_code.specs.declared.syntax.KExpr.{Num, Var, Len, Bin}
use Rattle.kernel_code.specs.declared.syntax.KStmt.{KStmt, Set, Extend}
use Rattle.level_core.specs.declared.letter.Letter.{Letter}
use Rattle.level_core.specs.Fragments.{RefusedWithin}
use Rattle.appended_results.specs.Heads.{key_in}
use Rattle.appended_results.specs.Places.{positions_above}
use Rattle.appended_results.specs.Levels.{key_at, IsMine, IsKept, LevelHolds, MayHold, PassesPlace}

-- heads are appended to all levels, whose positions are within the limit, and variables have the last head's coordinates
pub record HoldsHeads (letters : List Letter) (sizes : List ℕ) (head base : ℕ) (heads : List (List ℕ)) (s : State) : Type 0 where
  pub levels : (e : ℕ) → e < length letters → LevelHolds letters sizes heads base e s
  pub few : (e : ℕ) → e ≤ length letters → positions_above letters sizes (key_in heads) (length heads) e ≤ greatest_position_count
  pub last : (e j : ℕ) → e < head → length heads ≡ suc j → s.vars (key_at base e) ≡ Some (key_in heads e j)

-- how many positions the last level has
abbrev pub all_positions : List Letter → List ℕ → List (List ℕ) → ℕ
all_positions letters sizes heads = positions_above letters sizes (key_in heads) (length heads) (length letters)

-- as many values more as there are positions more
abbrev pub zeros_code : ℕ → ℕ → List KStmt
zeros_code total nothing = Extend (Values 0) (Bin Sub (Var total) (Len (Values 0))) (Num nothing) ∷ []

-- the head's first n coordinates are kept
abbrev pub keep_code : ℕ → List ℕ → ℕ → List KStmt
keep_code base keys zero = []
keep_code base keys (suc n) = keep_code base keys n ++ Set (key_at base n) (Var (slice_index keys n)) ∷ []

-- one head more, and values for its positions; nothing else below `free` has changed
pub record HasHead (letters : List Letter) (sizes : List ℕ) (head base free nothing : ℕ) (heads : List (List ℕ)) (key values : List ℕ)
    (s t : State) : Type 0 where
  pub holds : HoldsHeads letters sizes head base (heads ++ key ∷ []) t
  pub upto : length values ≤ all_positions letters sizes (heads ++ key ∷ [])
  pub values_are : t.arrays (Values 0)
      ≡ Some (values ++ replicate (all_positions letters sizes (heads ++ key ∷ []) - length values) nothing)
  pub leaves : Leaves (IsMine base (length letters)) IsKept free no_turns s t

-- the code appends a head, whose coordinates stand in variables, and behind the values one for each of its positions
abbrev pub AppendsHead : List Letter → ℕ → ℕ → ℕ → ℕ → List ℕ → List KStmt → Type 0
AppendsHead letters head base free nothing keys code =
    (c : Setting) (sizes : List ℕ) (heads : List (List ℕ)) (key : List ℕ) → MayHold letters sizes head (heads ++ key ∷ [])
    → (s : State) → HoldsHeads letters sizes head base heads s → (values : List ℕ) → s.arrays (Values 0) ≡ Some values
    → length values ≡ all_positions letters sizes heads
    → ((e : ℕ) → e < head → s.vars (slice_index keys e) ≡ Some (slice_index key e))
    → Does c code s (HasHead letters sizes head base free nothing heads key values s)
    (RefusedWithin no_turns s (λ a count. (e : ℕ) × (e < length letters) × PassesPlace letters sizes (heads ++ key ∷ []) e a count))
