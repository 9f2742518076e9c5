-- The code of one head more, level by level.
use Rattle.std.specs.Prelude.{◌≡◌, ℕ, zero, suc, ◌+◌, ◌-◌, ◌*◌, ◌≤◌, ◌<◌, ◌^◌, if◌then◌else◌}
use Rattle.std.specs.Prelude.{List, [], ◌∷◌, ◌++◌, length, Some, nat_le, slice_index}
use Rattle.limits.specs.Limits.{greatest_position_count}
use Rattle.kernel_code.specs.Does.{Does}
use Rattle.kernel_code.specs.Keeps.{no_turns}
use Rattle.kernel_code.specs.Meaning.{Setting, State, value, word_of}
use Rattle.kernel_code.specs.declared.syntax.Arr.TheVariants.{Values, Dimension}
use Rattle.kernel_code.specs.declared.syntax.Op.TheVariants.{Add, Sub, Mul, Or, Equal, NotEqual}
use Rattle.kernel_code.specs.declared.syntax.KExpr.{KExpr, Num, Var, At, Bin}
use Rattle.kernel_code.specs.declared.syntax.KStmt.{KStmt, Set}
use Rattle.level_core.specs.declared.letter.Letter.{Letter}
use Rattle.level_core.specs.Fragments.{RefusedWithin}
use Rattle.appended_results.specs.Heads.{key_in}
use Rattle.appended_results.specs.Places.{first_at, positions_above}
use Rattle.appended_results.specs.Levels.{cursor_at, key_at, IsMine, MayHold, PassesPlace, Between}

-- the row in these variables differs from the last one in one of the first n coordinates
abbrev pub differs : ℕ → List ℕ → ℕ → KExpr
differs base keys zero = Num 0
differs base keys (suc n) = Bin Or (differs base keys n) (Bin NotEqual (Var (key_at base n)) (Var (slice_index keys n)))

-- there is no row yet, or it differs: `head` levels have a row as soon as the last of them has
abbrev pub differs_or_first : ℕ → ℕ → List ℕ → ℕ → KExpr
differs_or_first base head keys n = Bin Or (Bin Equal (Var (cursor_at base (head - 1) + 2)) (Num 0)) (differs base keys n)

-- a head that isn't the last one begins a position at its last levels, and at others where it differs through the level's chain
abbrev pub begins_code : ℕ → ℕ → List ℕ → ℕ → KExpr
begins_code base head keys n = if nat_le head n then Num 1 else differs_or_first base head keys n

-- the position of the head at a level that is appended to is the last one, and there are as many as are counted
abbrev pub place_appended : ℕ → ℕ → ℕ → List KStmt
place_appended base free d =
    Set (free + 2 * suc d) (Bin Sub (Var (cursor_at base d + 2)) (Num 1)) ∷ Set (free + 2 * suc d + 1) (Var (cursor_at base d + 2)) ∷ []

-- at a full level it stands as far behind its parent's first as the coordinate says
abbrev pub place_full : ℕ → ℕ → ℕ → List KStmt
place_full free d coord =
    Set (free + 2 * suc d) (Bin Add (Bin Mul (Var (free + 2 * d)) (At (Dimension 0 (suc d)) (Num 0))) (Var coord)) ∷ []

-- the code appends the head to the level that stands below d others, if it begins a position there; there are no more positions than may
-- be before
abbrev pub AppendsLevel : List Letter → ℕ → ℕ → ℕ → ℕ → KExpr → ℕ → List KStmt → Type 0
AppendsLevel letters head base free d test coord code =
    (c : Setting) (sizes : List ℕ) (heads : List (List ℕ)) (key : List ℕ) → MayHold letters sizes head (heads ++ key ∷ [])
    → ((e : ℕ) → e ≤ length letters → positions_above letters sizes (key_in heads) (length heads) e ≤ greatest_position_count)
    → (values : List ℕ) → length values ≤ greatest_position_count
    → (s0 s : State) → s0.arrays (Values 0) ≡ Some values → Between letters sizes head base free heads key d s0 s
    → value test s ≡ Some (word_of (first_at letters (key_in (heads ++ key ∷ [])) d (length heads)))
    → (d < head → s.vars coord ≡ Some (key_in (heads ++ key ∷ []) d (length heads)))
    → Does c code s (Between letters sizes head base free heads key (suc d) s0)
    (RefusedWithin no_turns s0 (PassesPlace letters sizes (heads ++ key ∷ []) d))

-- so many levels, the first variable of the result and the first of the code, above the result's and behind those that code takes for
-- positions
pub record HasRoom (levels base free : ℕ) : Type 0 where
  pub result : base + 4 * levels ≤ free
  pub code : free + 2 * levels ≤ 2 ^ 61

-- where the variables of fragments begin
abbrev pub inner_of : ℕ → ℕ → ℕ
inner_of levels free = free + 2 * levels + 2

-- a variable below those of the code, and none of the result's
pub record IsOutsideResult (levels base free y : ℕ) : Type 0 where
  pub below : y < free
  pub other : IsMine base levels y → ⊥

-- variables tell a head that comes, and the last one
pub record KeysTell (base head : ℕ) (heads : List (List ℕ)) (key keys : List ℕ) (s : State) : Type 0 where
  pub now : (e : ℕ) → e < head → s.vars (slice_index keys e) ≡ Some (slice_index key e)
  pub last : (e j : ℕ) → e < head → length heads ≡ suc j → s.vars (key_at base e) ≡ Some (key_in heads e j)

-- so many variables of coordinates, none of which is the result's or the code's own
pub record AreKeys (levels base free : ℕ) (keys : List ℕ) : Type 0 where
  pub many : length keys ≡ levels
  pub outside : (e : ℕ) → e < levels → IsOutsideResult levels base free (slice_index keys e)

-- the code appends a head to the first d levels
abbrev pub AppendsFirst : List Letter → ℕ → ℕ → ℕ → List ℕ → ℕ → List KStmt → Type 0
AppendsFirst letters head base free keys d code =
    (c : Setting) (sizes : List ℕ) (heads : List (List ℕ)) (key : List ℕ) → MayHold letters sizes head (heads ++ key ∷ [])
    → ((e : ℕ) → e ≤ length letters → positions_above letters sizes (key_in heads) (length heads) e ≤ greatest_position_count)
    → (values : List ℕ) → length values ≤ greatest_position_count
    → (s0 s : State) → s0.arrays (Values 0) ≡ Some values → KeysTell base head heads key keys s0
    → Between letters sizes head base free heads key 0 s0 s
    → Does c code s (Between letters sizes head base free heads key d s0)
    (RefusedWithin no_turns s0 (λ a count. (e : ℕ) × (e < d) × PassesPlace letters sizes (heads ++ key ∷ []) e a count))
