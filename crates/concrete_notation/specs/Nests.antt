-- Which loops stand around each term of a concrete statement, and which workspaces it has.
use Rattle.std.specs.Prelude.{◌≡◌, ℕ, ◌<◌, true, ◌||◌, List, [], ◌∷◌, ◌++◌, map, filter}
use Rattle.std.specs.List.Sorted.{IsPermutation}
use Rattle.index_notation.specs.Statement.{IsDistinct}
use Rattle.index_notation.specs.declared.syntax.Statement.{Statement}
use Rattle.expr_terms.specs.Terms.{terms, contains, own_variables}
use Rattle.expr_terms.specs.declared.term.Term.{Term}
use Rattle.concrete_notation.specs.declared.concrete.Concrete.{Concrete, Add, Forall', Both', Where', Row_of-Concrete}
use Rattle.concrete_notation.specs.declared.concrete.Concrete.{end_of-Concrete, more_of-Concrete}

-- a term, and the variables of the loops around it, the outer ones first
pub record Nest : Type 0 where
  pub loops : List ℕ
  pub term : Term

-- with one loop more outside
abbrev pub inside : ℕ → Nest → Nest
inside v nest = record { loops = v ∷ nest.loops; term = nest.term }

abbrev mutual
  -- the terms of a concrete statement, in order, with the loops around them
  pub nests : Concrete → List Nest
  nests (Add t) = record { loops = []; term = t } ∷ []
  nests (Forall' v p body) = map (inside v) (nests_in body)
  nests (Both' p first q second) = nests_in first ++ nests_in second
  nests (Where' keys p body) = nests_in body

  -- the same of the one concrete statement in a box
  pub nests_in : {m : _} → Row_of-Concrete m → List Nest
  nests_in end_of-Concrete = []
  nests_in (more_of-Concrete c rest) = nests c

-- the terms of a concrete statement, in order
abbrev pub terms_below : Concrete → List Term
terms_below c = map (λ (nest : Nest). nest.term) (nests c)

abbrev mutual
  -- the keys of each workspace, in order
  pub workspaces : Concrete → List (List ℕ)
  workspaces (Add t) = []
  workspaces (Forall' v p body) = workspaces_in body
  workspaces (Both' p first q second) = workspaces_in first ++ workspaces_in second
  workspaces (Where' keys p body) = keys ∷ workspaces_in body

  pub workspaces_in : {m : _} → Row_of-Concrete m → List (List ℕ)
  workspaces_in end_of-Concrete = []
  workspaces_in (more_of-Concrete c rest) = workspaces c

abbrev mutual
  -- the variables of the loops that stand in a concrete statement side by side
  pub next_loops : Concrete → List ℕ
  next_loops (Add t) = []
  next_loops (Forall' v p body) = v ∷ []
  next_loops (Both' p first q second) = next_loops_in first ++ next_loops_in second
  next_loops (Where' keys p body) = []

  pub next_loops_in : {m : _} → Row_of-Concrete m → List ℕ
  next_loops_in end_of-Concrete = []
  next_loops_in (more_of-Concrete c rest) = next_loops c

abbrev mutual
  -- terms with the same next variable share its loop: no two loops over one variable stand side by side
  pub SharesLoops : Concrete → Type 0
  SharesLoops (Add t) = Unit {0}
  SharesLoops (Forall' v p body) = SharesLoops_in body
  SharesLoops (Both' p first q second) =
      IsDistinct (next_loops_in first ++ next_loops_in second) × SharesLoops_in first × SharesLoops_in second
  SharesLoops (Where' keys p body) = SharesLoops_in body

  pub SharesLoops_in : {m : _} → Row_of-Concrete m → Type 0
  SharesLoops_in end_of-Concrete = Unit {0}
  SharesLoops_in (more_of-Concrete c rest) = SharesLoops c

-- the order has each of n variables, and none twice
pub record IsOrderOf (n : ℕ) (order : List ℕ) : Type 0 where
  pub once : IsDistinct order
  pub all : (v : ℕ) → v < n → contains order v ≡ true

-- the loops of a term whose own variables are these: the loop order, restricted to the left variables and those
abbrev pub loops_of : Statement → List ℕ → List ℕ → List ℕ
loops_of s order own = filter (λ v. contains s.left.vars v || contains own v) order

abbrev pub nest_of : Statement → List ℕ → Term → Nest
nest_of s order t = record { loops = loops_of s order (own_variables s t); term = t }

-- the left variables in loop order
abbrev pub left_in_order : Statement → List ℕ → List ℕ
left_in_order s order = loops_of s order []

-- the concrete statement has each term of the statement once, and no other, in its loops
abbrev pub HasTerms : Statement → List ℕ → Concrete → Type 0
HasTerms s order c = IsPermutation (map (nest_of s order) (terms s.expr)) (nests c)
