-- Loads, and loops that go by them.
use Rattle.std.specs.Prelude.{◌≡◌, ℕ, List, [], ◌∷◌, ◌++◌}
use Rattle.kernel_code.specs.declared.syntax.Arr.TheVariants.{Range}
use Rattle.kernel_code.specs.declared.syntax.LoopKind.{LoopKind}
use Rattle.kernel_code.specs.declared.syntax.Op.TheVariants.{Less}
use Rattle.kernel_code.specs.declared.syntax.KExpr.{KExpr, Num, Var, At, Bin}
use Rattle.kernel_code.specs.declared.syntax.KStmt.{KStmt, Set, If, While}
use Rattle.store_facts.specs.declared.facts.StoreFact.{StoreFact}
use Rattle.store_facts.specs.declared.loads.Load.{Load}
use Rattle.store_facts.specs.Facts.{IsBelow}

-- the last word, which is below no range
abbrev pub last_word : KExpr
last_word = Num 18446744073709551615

-- a load as a statement
abbrev pub load_code : Load → KStmt
load_code load = If load.test (Set load.variable load.coordinate ∷ []) (Set load.variable last_word ∷ [])

-- a test that a variable is below the range of another
abbrev pub below_range : ℕ → ℕ → KExpr
below_range x variable = Bin Less (Var x) (At Range (Num variable))

-- A loop with this test and this body, behind this code, goes by a load: the load ends both the code and the body, and the test asks the
-- load's variable to be below a range that its coordinates are known to be below.
pub record GoesBy (facts : List StoreFact) (before : List KStmt) (test : KExpr) (body : List KStmt) (load : Load) : Type 0 where
  pub variable : ℕ
  pub tests : test ≡ below_range load.variable variable
  pub below : IsBelow facts load.coordinate variable
  pub ahead : (front : List KStmt) × (before ≡ front ++ load_code load ∷ [])
  pub behind : (inner : List KStmt) × (body ≡ inner ++ load_code load ∷ [])

-- what such a loop is written as, without the load ahead: it goes by the load's test, reads the coordinate at the head of each turn, and
-- leaves the last word in the variable
abbrev pub loop_code : LoopKind → Load → List KStmt → List KStmt
loop_code kind load inner = While kind load.test (Set load.variable load.coordinate ∷ inner) ∷ Set load.variable last_word ∷ []
