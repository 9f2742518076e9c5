-- What code keeps: expressions that mention nothing that has changed keep their values, and one record
-- says which variables and arrays a run leaves, and how many turns it makes at most.
use Rattle.std.specs.Prelude.{◌≡◌, ℕ, ◌+◌, ◌≤◌, ◌<◌, if◌then◌else◌}
use Rattle.kernel_code.specs.declared.syntax.Arr.{Arr}
use Rattle.kernel_code.specs.declared.syntax.LoopKind.{LoopKind}
use Rattle.kernel_code.specs.declared.syntax.KExpr.{KExpr, Num, Var, At', Len, Bin', Min', Width', Row_of-KExpr, end_of-KExpr}
use Rattle.kernel_code.specs.declared.syntax.KExpr.{more_of-KExpr}
use Rattle.kernel_code.specs.Meaning.{State, same_kind}

abbrev mutual
  -- each variable that an expression mentions is one of these, and each array one of those
  pub Mentions : (ℕ → Type 0) → (Arr → Type 0) → KExpr → Type 0
  Mentions V A (Num n) = Unit {0}
  Mentions V A (Var x) = V x
  Mentions V A (At' a p i) = A a × Mentions_in V A i
  Mentions V A (Len a) = A a
  Mentions V A (Bin' o p a q b) = Mentions_in V A a × Mentions_in V A b
  Mentions V A (Min' p a q b) = Mentions_in V A a × Mentions_in V A b
  Mentions V A (Width' p e) = Mentions_in V A e

  pub Mentions_in : {m : _} → (ℕ → Type 0) → (Arr → Type 0) → Row_of-KExpr m → Type 0
  Mentions_in V A end_of-KExpr = Unit {0}
  Mentions_in V A (more_of-KExpr e rest) = Mentions V A e

abbrev pub EveryArray : Arr → Type 0
EveryArray a = Unit {0}

abbrev pub NoVariable : ℕ → Type 0
NoVariable y = ⊥

-- the variables of an expression are below free
abbrev pub Below : ℕ → KExpr → Type 0
Below free e = Mentions (λ y. y < free) EveryArray e

-- a run that leaves every variable below top that is not mine, and the arrays that are kept, with so many turns of each kind at most
pub record Leaves (mine : ℕ → Type 0) (kept : Arr → Type 0) (top : ℕ) (most : LoopKind → ℕ) (s s' : State) : Type 0 where
  pub below : (y : ℕ) → y < top → (mine y → ⊥) → s'.vars y ≡ s.vars y
  pub arrays : (a : Arr) → kept a → s'.arrays a ≡ s.arrays a
  pub turns : (k : LoopKind) → s'.turns k ≤ s.turns k + most k

abbrev pub no_turns : LoopKind → ℕ
no_turns k = 0

-- one turn of a kind
abbrev pub turn_of : LoopKind → LoopKind → ℕ
turn_of k j = if same_kind k j then 1 else 0
