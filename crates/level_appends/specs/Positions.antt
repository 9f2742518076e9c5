-- The positions of a full level, which stores nothing: a growth of the values is refused in its place where they pass the limit.
use Rattle.std.specs.Prelude.{◌≡◌, ℕ, ◌*◌, ◌≤◌, ◌<◌, List, [], ◌∷◌, length, Some}
use Rattle.limits.specs.Limits.{greatest_position_count}
use Rattle.kernel_code.specs.Does.{Does}
use Rattle.kernel_code.specs.Keeps.{Leaves, EveryArray, no_turns}
use Rattle.kernel_code.specs.Meaning.{Setting, State, value}
use Rattle.kernel_code.specs.declared.syntax.Arr.{Arr}
use Rattle.kernel_code.specs.declared.syntax.Arr.TheVariants.{Values, Dimension}
use Rattle.kernel_code.specs.declared.syntax.Op.TheVariants.{Sub, Less}
use Rattle.kernel_code.specs.declared.syntax.KExpr.{KExpr, Num, Var, Len, At, Bin}
use Rattle.kernel_code.specs.declared.syntax.KStmt.{KStmt, Set, Extend, If}
use Rattle.level_core.specs.Fragments.{RefusedWithin}
use Rattle.level_core.specs.GuardedProducts.{guarded_product}

-- a number of positions in variable `total` that passes the limit is refused as a growth of the values to that number
abbrev pub refuse_code : ℕ → List KStmt
refuse_code total = If (Bin Less (Num greatest_position_count) (Var total))
    (Extend (Values 0) (Bin Sub (Var total) (Len (Values 0))) (Num 0) ∷ []) [] ∷ []

-- as many positions for each parent as the level's range
abbrev pub count_code : ℕ → ℕ → KExpr → List KStmt
count_code level total parents = Set total (guarded_product parents (At (Dimension 0 level) (Num 0))) ∷ refuse_code total

-- a growth of the values, to a count that passes the limit and is at most this
pub record PassesCount (most : ℕ) (a : Arr) (count : ℕ) : Type 0 where
  pub array : a ≡ Values 0
  pub above : greatest_position_count < count
  pub within : count ≤ most

-- the one variable
abbrev pub IsOne : ℕ → ℕ → Type 0
IsOne x y = y ≡ x

-- a variable has the number of positions of a full level below so many parents, and they are within the limit
abbrev pub CountsPositions : ℕ → ℕ → KExpr → List KStmt → Type 0
CountsPositions level total parents_is code =
    (c : Setting) (size parents top : ℕ) (values : List ℕ) → size ≤ greatest_position_count → length values ≤ greatest_position_count
    → (s : State) → s.arrays (Dimension 0 level) ≡ Some (size ∷ []) → s.arrays (Values 0) ≡ Some values
    → value parents_is s ≡ Some parents
    → Does c code s
    (λ t. Leaves (IsOne total) EveryArray top no_turns s t × (t.vars total ≡ Some (parents * size))
    × (parents * size ≤ greatest_position_count))
    (RefusedWithin no_turns s (PassesCount (parents * size)))
