-- Loads that read the same where two variables have one value.
use Rattle.std.specs.Prelude.{◌≡◌, ℕ, List, [], ◌∷◌, ◌++◌}
use Rattle.kernel_code.specs.declared.syntax.KExpr.{KExpr, Var}
use Rattle.kernel_code.specs.declared.syntax.KStmt.{KStmt, If, Set}
use Rattle.kernel_code.specs.Meaning.{State, value}
use Rattle.store_facts.specs.declared.loads.Load.{Load}
use Rattle.store_facts.specs.Loads.{last_word, load_code}

-- wherever the first of two variables is the second, these expressions have the same value, and are stuck in the same states
pub record AreOne (x y : ℕ) (e f : KExpr) : Type 0 where
  pub at : (s : State) → s.vars x ≡ s.vars y → value e s ≡ value f s

-- code gives a variable an expression's value that is this one's, and does nothing else
pub record SetsAlike (x y : ℕ) (code : List KStmt) (load : Load) : Type 0 where
  pub coordinate : KExpr
  pub code_is : code ≡ Set load.variable coordinate ∷ []
  pub reads : AreOne x y load.coordinate coordinate

-- a statement is a load into the same variable, with the same test and the same coordinate
pub record IsLoadedAlike (x y : ℕ) (s : KStmt) (load : Load) : Type 0 where
  pub test : KExpr
  pub first : List KStmt
  pub is : s ≡ If test first (Set load.variable last_word ∷ [])
  pub tests : AreOne x y load.test test
  pub sets : SetsAlike x y first load

-- code ends by a copy of a variable and by a load, for which this statement may stand: it is a load that reads the copy
pub record MayEnd (code : List KStmt) (named : KStmt) : Type 0 where
  pub x : ℕ
  pub y : ℕ
  pub front : List KStmt
  pub last : KStmt
  pub load : Load
  pub code_is : code ≡ front ++ Set x (Var y) ∷ last ∷ []
  pub alike : IsLoadedAlike x y last load
  pub named_is : named ≡ load_code load
