-- When a concrete statement is right for a statement.
use Rattle.std.specs.Prelude.{◌≡◌, ◌⊎◌, ◌↔◌, ℕ, ◌<◌, true, false, List, [], ◌∷◌, map}
use Rattle.numbers.specs.Arithmetic.{Arithmetic, Laws}
use Rattle.tensor_map.specs.Entries.{Entry, value_at, Listed}
use Rattle.index_notation.specs.declared.syntax.Statement.{Statement}
use Rattle.expr_terms.specs.Points.{point_of}
use Rattle.expr_terms.specs.Result.{AreBelow}
use Rattle.expr_terms.specs.Terms.{terms, contains, own_variables, statement_value}
use Rattle.expr_terms.specs.declared.term.Term.{Term}
use Rattle.workspaces.specs.Presence.{is_present}
use Rattle.workspaces.specs.PresenceLaws.{AreZeroElsewhere}
use Rattle.concrete_notation.specs.declared.concrete.Concrete.{Concrete}
use Rattle.concrete_notation.specs.Contributions.{Inputs, contributions}

-- some element of the list has it
abbrev pub IsSome : {A : Type 0} → (A → Type 0) → List A → Type 0
IsSome P [] = ⊥
IsSome P (x ∷ xs) = P x ⊎ IsSome P xs

-- a term is present at coordinates of the left variables for some choice of its own ones below their ranges
pub record IsPresentAt (s : Statement) (inputs : Inputs) (coords : List ℕ) (t : Term) : Type 0 where
  pub point : ℕ → ℕ
  pub chosen : (v : ℕ) → contains (own_variables s t) v ≡ true → point v < inputs.ranges v
  pub others : (v : ℕ) → contains (own_variables s t) v ≡ false → point v ≡ point_of s.left.vars coords v
  pub present : is_present inputs.paths s.accesses point t.expr ≡ true

-- the support of a statement: the coordinates below the left ranges at which some term is present
abbrev pub IsInSupport : Statement → Inputs → List ℕ → Type 0
IsInSupport s inputs coords = AreBelow coords (map inputs.ranges s.left.vars) × IsSome (IsPresentAt s inputs coords) (terms s.expr)

-- the whole contributions of a concrete statement to the result
abbrev pub whole_contributions : Arithmetic → Inputs → Statement → Concrete → List Entry
whole_contributions a inputs s c = contributions a inputs s.accesses s.left.vars c (λ v. 0)

-- whatever the operands, each zero where it has no path: at each point of the left side the contributions add up to the
-- statement's value, and the points that have any are exactly the support
pub record IsRight (s : Statement) (c : Concrete) : Type 0 where
  pub values : (a : Arithmetic) → Laws a → (inputs : Inputs) → AreZeroElsewhere a inputs.paths inputs.values
      → (coords : List ℕ) → AreBelow coords (map inputs.ranges s.left.vars)
      → value_at a (whole_contributions a inputs s c) coords ≡ statement_value a s inputs.values inputs.ranges coords
  pub support : (a : Arithmetic) (inputs : Inputs) (coords : List ℕ)
      → Listed (whole_contributions a inputs s c) coords ↔ IsInSupport s inputs coords
