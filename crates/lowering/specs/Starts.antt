-- Where sums start in loops: each at the loop of the last of its variables, once for all terms below that read it, and those that start
-- at one loop in the order of their numbers.
use Rattle.std.specs.Prelude.{◌≡◌, ℕ, suc, ◌+◌, ◌≤◌, ◌<◌, true, false, List, ◌∷◌, length, Option, Some}
use Rattle.index_notation.specs.declared.syntax.Statement.{Statement}
use Rattle.expr_terms.specs.Terms.{contains}
use Rattle.concrete_notation.specs.declared.concrete.Concrete.{Concrete}
use Rattle.loop_code.specs.declared.loops.LoopCode.{LoopCode, Add, Both', Loop', Sum', Row_of-LoopCode, end_of-LoopCode, more_of-LoopCode}
use Rattle.loop_code.specs.Places.{EachAccess}
use Rattle.lowering.specs.Lowered.{concrete_in}
use Rattle.lowering.specs.Sums.{are_bound, first_sum, is_met, reads_any, sum_tree, vars_at}

module _ (s : Statement) where
  -- inside loops over bound variables, the innermost of which is told, a sum starts at its loop: all its variables are bound, and the
  -- innermost is one of them
  pub record MayStart (innermost : Option ℕ) (bound : List ℕ) (k : ℕ) : Type 0 where
    pub known : are_bound bound (vars_at s k) ≡ true
    pub met : is_met innermost (vars_at s k) ≡ true

  -- behind all sums that start there, of those that are read
  pub record IsBehind (innermost : Option ℕ) (bound : List ℕ) (from : ℕ) (c : Concrete) : Type 0 where
    pub none : (j : ℕ) → from ≤ j → first_sum s ≤ j → reads_any s c j ≡ true → MayStart innermost bound j → ⊥

  -- a sum starts that is read below, and those before it that start there are around it
  pub record IsNext (innermost : Option ℕ) (bound : List ℕ) (from k : ℕ) (inside body : Concrete) : Type 0 where
    pub number : ℕ
    pub below : number < length s.sums
    pub access : k ≡ first_sum s + number
    pub next : from ≤ k
    pub starts : MayStart innermost bound k
    pub used : reads_any s body k ≡ true
    pub tree : inside ≡ sum_tree s number
    pub behind : IsBehind innermost bound k inside
    pub skipped : (j : ℕ) → from ≤ j → j < k → first_sum s ≤ j → reads_any s body j ≡ true → MayStart innermost bound j → ⊥

  abbrev mutual
    -- inside the loops of bound variables, where the sums that start there have been gone through up to an access
    pub StartsInPlace : Option ℕ → List ℕ → ℕ → LoopCode → Type 0
    StartsInPlace innermost bound from (Loop' v seeks p body) =
        IsBehind innermost bound from (concrete_in body) × (contains bound v ≡ false) × StartsInPlace_in (Some v) (v ∷ bound) 0 body
    StartsInPlace innermost bound from (Both' p f q g) =
        IsBehind innermost bound from (concrete_in f) × IsBehind innermost bound from (concrete_in g)
        × StartsInPlace_in innermost bound from f × StartsInPlace_in innermost bound from g
    StartsInPlace innermost bound from (Add t) =
        EachAccess (λ k. first_sum s ≤ k → (k < first_sum s + length s.sums) × (are_bound bound (vars_at s k) ≡ true)
        × (MayStart innermost bound k → k < from)) t.expr
    StartsInPlace innermost bound from (Sum' k p inside q body) =
        IsNext innermost bound from k (concrete_in inside) (concrete_in body) × StartsInPlace_in innermost bound k inside
        × StartsInPlace_in innermost bound (suc k) body

    -- the same of the one loop code in a box
    pub StartsInPlace_in : {m : _} → Option ℕ → List ℕ → ℕ → Row_of-LoopCode m → Type 0
    StartsInPlace_in innermost bound from end_of-LoopCode = Unit {0}
    StartsInPlace_in innermost bound from (more_of-LoopCode c rest) = StartsInPlace innermost bound from c
