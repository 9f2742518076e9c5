-- A term in its loops, alone and put behind others.
use Rattle.std.specs.Prelude.{◌≡◌, ℕ, Bool, false, if◌then◌else◌, List, [], ◌∷◌, ◌++◌, map, Option, None, Some}
use Rattle.std.specs.List.Sorted.{IsPermutation}
use Rattle.index_notation.specs.declared.syntax.Statement.{Statement}
use Rattle.expr_terms.specs.Terms.{contains}
use Rattle.expr_terms.specs.declared.group.Group.{Group}
use Rattle.expr_terms.specs.declared.term.Term.{Term}
use Rattle.concrete_notation.specs.declared.concrete.Concrete.{Concrete}
use Rattle.concrete_notation.specs.Nests.{Nest, nests, workspaces, next_loops, SharesLoops, loops_of}

abbrev pub nest_in : List ℕ → Term → Nest
nest_in loops t = record { loops = loops; term = t }

-- the first of some loops, if there is one
abbrev pub next_of : List ℕ → List ℕ
next_of [] = []
next_of (v ∷ vs) = v ∷ []

-- whether the first of some loops is among those that stand there
abbrev pub shares : List ℕ → List ℕ → Bool
shares next [] = false
shares next (v ∷ vs) = contains next v

-- and then it isn't put behind them
abbrev pub with_next : List ℕ → List ℕ → List ℕ
with_next next loops = if shares next loops then next else (next ++ next_of loops)

-- the term in these loops alone
pub record IsNest (loops : List ℕ) (t : Term) (c : Concrete) : Type 0 where
  pub terms : nests c ≡ nest_in loops t ∷ []
  pub plain : workspaces c ≡ []
  pub next : next_loops c ≡ next_of loops
  pub shared : SharesLoops c

-- the term in these loops beside what stood there
pub record IsPut (loops : List ℕ) (t : Term) (before after : Concrete) : Type 0 where
  pub terms : IsPermutation (nest_in loops t ∷ nests before) (nests after)
  pub plain : workspaces after ≡ workspaces before
  pub next : next_loops after ≡ with_next (next_loops before) loops
  pub shared : SharesLoops before → SharesLoops after

-- the terms with their loops, the workspaces and the loops side by side of what is made so far, if anything is
abbrev pub nests_made : Option Concrete → List Nest
nests_made None = []
nests_made (Some c) = nests c

abbrev pub workspaces_made : Option Concrete → List (List ℕ)
workspaces_made None = []
workspaces_made (Some c) = workspaces c

abbrev pub SharesMade : Option Concrete → Type 0
SharesMade None = Unit {0}
SharesMade (Some c) = SharesLoops c

-- of these terms in their loops, and no others, something is made
pub record IsMade (done : List Nest) (made : Option Concrete) : Type 0 where
  pub terms : IsPermutation done (nests_made made)
  pub plain : workspaces_made made ≡ []
  pub shared : SharesMade made

-- the terms of a group in their loops
abbrev pub nests_of_group : Statement → List ℕ → Group → List Nest
nests_of_group s order g = map (nest_in (loops_of s order g.vars)) g.terms
