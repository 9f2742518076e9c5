-- The code that adds a row's value at its position.
use Rattle.std.specs.Prelude.{◌≡◌, ℕ, suc, ◌+◌, ◌-◌, List, [], ◌∷◌, drop, Some}
use Rattle.kernel_code.specs.Meaning.{State}
use Rattle.kernel_code.specs.declared.syntax.Arr.TheVariants.{Values, Dimension}
use Rattle.kernel_code.specs.declared.syntax.Op.TheVariants.{Add, Sub, Mul}
use Rattle.kernel_code.specs.declared.syntax.KExpr.{KExpr, Num, Var, At, Bin}
use Rattle.kernel_code.specs.declared.syntax.KStmt.{KStmt, AddTo}
use Rattle.appended_results.specs.Levels.{cursor_at}

-- the position of the coordinates in these variables below a position of the level above, from the level on that stands below d others
abbrev pub place_from : ℕ → KExpr → List ℕ → KExpr
place_from d above [] = above
place_from d above (y ∷ ys) = place_from (suc d) (Bin Add (Bin Mul above (At (Dimension 0 (suc d)) (Num 0))) (Var y)) ys

-- the position of the last head, at the last level of the head
abbrev pub last_place : ℕ → ℕ → KExpr
last_place base head = Bin Sub (Var (cursor_at base (head - 1) + 2)) (Num 1)

abbrev pub add_code : ℕ → ℕ → List ℕ → ℕ → List KStmt
add_code base head keys value = AddTo (Values 0) (place_from head (last_place base head) (drop head keys)) (Var value) ∷ []

-- levels from one on have these sizes, and variables these coordinates
abbrev pub HaveTail : ℕ → List ℕ → List ℕ → List ℕ → State → Type 0
HaveTail d [] [] [] s = Unit {0}
HaveTail d (n ∷ ns) (x ∷ xs) (y ∷ ys) s =
    (s.arrays (Dimension 0 (suc d)) ≡ Some (n ∷ [])) × (s.vars y ≡ Some x) × HaveTail (suc d) ns xs ys s
HaveTail d _ _ _ s = ⊥
