-- The words and the code that fragments of hashed levels are made of. A search keeps the block's first position in the variable
-- free, how far into the block it is in the next, and the number of its steps in the one after that.
use Rattle.std.specs.Prelude.{ℕ, ◌+◌, List, [], ◌∷◌, ◌++◌}
use Rattle.kernel_code.specs.declared.syntax.Arr.TheVariants.{Coordinates, Width as WidthArray}
use Rattle.kernel_code.specs.declared.syntax.LoopKind.TheVariants.{Probe}
use Rattle.kernel_code.specs.declared.syntax.Op.TheVariants.{Add, Sub, Mul, BitAnd, Less, NotEqual, And}
use Rattle.kernel_code.specs.declared.syntax.KExpr.{KExpr, Num, Var, At, Bin, Width}
use Rattle.kernel_code.specs.declared.syntax.KStmt.{KStmt, Set, Put, Extend, If, While}
use Rattle.level_core.specs.FragmentLaws.{one_code, two_code}
use Rattle.level_core.specs.GuardedProducts.{guarded_product}
use Rattle.hashed_level.specs.Slots.{empty_slot}

-- the width of a block
abbrev pub width_word : ℕ → ℕ → KExpr
width_word tensor level = At (WidthArray tensor level) (Num 0)

-- where a parent's block begins
abbrev pub base_word : ℕ → ℕ → KExpr → KExpr
base_word tensor level parent = Bin Mul parent (width_word tensor level)

-- what a number leaves where it is divided by the width, a power of two
abbrev pub wrapped_word : ℕ → ℕ → KExpr → KExpr
wrapped_word tensor level e = Bin BitAnd e (Bin Sub (width_word tensor level) (Num 1))

-- the slot that a search is at
abbrev pub slot_word : ℕ → KExpr
slot_word free = Bin Add (Var free) (Var (free + 1))

-- whether a slot is filled
abbrev pub filled_test : ℕ → ℕ → KExpr → KExpr
filled_test tensor level slot = Bin NotEqual (At (Coordinates tensor level) slot) (Num empty_slot)

-- whether a slot doesn't hold a coordinate
abbrev pub other_test : ℕ → ℕ → KExpr → KExpr → KExpr
other_test tensor level slot x = Bin NotEqual (At (Coordinates tensor level) slot) x

-- whether not all slots of the block were met
abbrev pub more_test : ℕ → ℕ → ℕ → KExpr
more_test tensor level free = Bin Less (Var (free + 2)) (width_word tensor level)

abbrev pub search_test : ℕ → ℕ → KExpr → ℕ → KExpr
search_test tensor level x free = Bin And (more_test tensor level free)
    (Bin And (filled_test tensor level (slot_word free)) (other_test tensor level (slot_word free) x))

abbrev pub search_step : ℕ → ℕ → ℕ → List KStmt
search_step tensor level free = Set (free + 1) (wrapped_word tensor level (Bin Add (Var (free + 1)) (Num 1))) ∷ Set (free + 2)
    (Bin Add (Var (free + 2)) (Num 1)) ∷ []

abbrev pub search_code : ℕ → ℕ → KExpr → KExpr → ℕ → List KStmt
search_code tensor level parent x free = Set free (base_word tensor level parent) ∷ Set (free + 1) (wrapped_word tensor level x) ∷ Set
    (free + 2) (Num 0) ∷ While Probe (search_test tensor level x free) (search_step tensor level free) ∷ []

-- whether the search has found a slot that is filled
abbrev pub found_test : ℕ → ℕ → ℕ → KExpr
found_test tensor level free = Bin And (more_test tensor level free) (filled_test tensor level (slot_word free))

abbrev pub found_code : ℕ → List KStmt
found_code free = Set (free + 1) (slot_word free) ∷ Set free (Num 1) ∷ []

abbrev pub locate_code : ℕ → ℕ → KExpr → KExpr → ℕ → List KStmt
locate_code tensor level parent x free = search_code tensor level parent x free ++ If (found_test tensor level free) (found_code free)
    (one_code free (Num 0)) ∷ []

abbrev pub insert_code : ℕ → ℕ → KExpr → KExpr → ℕ → List KStmt
insert_code tensor level parent x free = search_code tensor level parent x free ++ Put (Coordinates tensor level)
    (slot_word free) x ∷ Set free (slot_word free) ∷ []

abbrev pub coord_code : ℕ → ℕ → KExpr → ℕ → List KStmt
coord_code tensor level pos free = If (filled_test tensor level pos) (two_code free (Num 1) (At (Coordinates tensor level) pos))
    (one_code free (Num 0)) ∷ []

-- the width and the number of slots are kept in variables, since arguments may read the arrays that grow
abbrev pub prepare_code : ℕ → ℕ → KExpr → KExpr → ℕ → List KStmt
prepare_code tensor level parents most free = Set free (Width most) ∷ Set (free + 1) (guarded_product parents (Var free)) ∷ Extend
    (Coordinates tensor level) (Var (free + 1)) (Num empty_slot) ∷ Extend (WidthArray tensor level) (Num 1) (Var free) ∷ []
