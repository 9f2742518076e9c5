-- Which names of a statement are refused: of its accesses in text order, the left one first, the first that has a fault.
use Rattle.std.specs.Prelude.{◌≡◌, ℕ, ◌<◌, List, [], ◌∷◌, ◌++◌, length, Contains}
use Rattle.lists.specs.Each.{Each}
use Rattle.index_notation.specs.declared.syntax.Access.{Access}
use Rattle.index_notation.specs.declared.syntax.Statement.{Statement}
use Rattle.index_notation.specs.Statement.{HaveOneOrder, IsDistinct}
use Rattle.expr_terms.specs.declared.names.NameFault.{NameFault}
use Rattle.expr_terms.specs.declared.names.NameFault.TheVariants.{ResultRead, Arity, RepeatedVariable, BadSum}

-- the number is the first of a list that stands a second time
pub record RepeatsFirst (numbers : List ℕ) (number : ℕ) : Type 0 where
  pub front : List ℕ
  pub behind : List ℕ
  pub all : numbers ≡ front ++ (number ∷ behind)
  pub again : Contains front number
  pub once : IsDistinct front

-- an access of the right side, which stands behind the left one, is to the result
abbrev pub ReadsResult : Access → List Access → Access → Type 0
ReadsResult left earlier a = (0 < length earlier) × (a.tensor ≡ left.tensor)

-- each earlier access of its tensor has as many variables
abbrev pub KeepsOrder : List Access → Access → Type 0
KeepsOrder earlier a = Each (λ other. HaveOneOrder other a) earlier

-- an access behind earlier ones has no fault
pub record IsFaultless (left : Access) (earlier : List Access) (a : Access) : Type 0 where
  pub unread : ReadsResult left earlier a → ⊥
  pub order : KeepsOrder earlier a
  pub once : IsDistinct a.vars

-- the fault of an access behind earlier ones: the first of these that holds; a nested sum's is none of an access
abbrev pub HasFault : Access → List Access → Access → NameFault → Type 0
HasFault left earlier a (ResultRead tensor) = (tensor ≡ a.tensor) × ReadsResult left earlier a
HasFault left earlier a (Arity tensor) =
    (tensor ≡ a.tensor) × (ReadsResult left earlier a → ⊥) × (KeepsOrder earlier a → ⊥)
HasFault left earlier a (RepeatedVariable tensor var) =
    (tensor ≡ a.tensor) × (ReadsResult left earlier a → ⊥) × KeepsOrder earlier a × RepeatsFirst a.vars var
HasFault left earlier a (BadSum var) = ⊥

-- none of these accesses behind earlier ones has a fault
abbrev pub AreFaultless : Access → List Access → List Access → Type 0
AreFaultless left earlier [] = Unit {0}
AreFaultless left earlier (a ∷ later) = IsFaultless left earlier a × AreFaultless left (earlier ++ (a ∷ [])) later

abbrev pub HasNoNameFault : Statement → Type 0
HasNoNameFault s = AreFaultless s.left [] (s.left ∷ s.accesses)

-- the fault of the first access that has one
pub record IsFirstNameFault (s : Statement) (fault : NameFault) : Type 0 where
  pub earlier : List Access
  pub access : Access
  pub later : List Access
  pub all : s.left ∷ s.accesses ≡ earlier ++ (access ∷ later)
  pub none_before : AreFaultless s.left [] earlier
  pub is : HasFault s.left earlier access fault
