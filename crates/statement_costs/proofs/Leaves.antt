-- Which accesses stand in the terms of loops, where what is summed stands in the places of the sums that start in them.
use Rattle.std.specs.Prelude.{◌≡◌, ℕ, suc, ◌+◌, ◌≤◌, ◌<◌, nat_eq, Bool, true, false, ◌||◌, if◌then◌else◌, List, ◌∷◌, length}
use Rattle.std.specs.Prelude.{Option, Some, refl}
use Rattle.std.proofs.Common.{◌∙◌, ap, arith, inl, inr}
use Rattle.std.proofs.lemmas.Bool.Decides.{nat_tests}
use denote.Hole.Carrier.{hidden}
use Rattle.index_notation.specs.Statement.{AreSums}
use Rattle.index_notation.specs.declared.syntax.Expr.{Expr, Num, Access as AccessOf, Binary', Neg', Row_of-Expr, end_of-Expr, more_of-Expr}
use Rattle.index_notation.specs.declared.syntax.Expr.TheBlock.{hidden-the_row-Expr-0}
use Rattle.index_notation.specs.declared.syntax.Statement.{Statement}
use Rattle.concrete_notation.specs.declared.concrete.Concrete.{Concrete, Add as AddOf}
use Rattle.concrete_notation.specs.declared.concrete.Concrete.TheBlock.{hidden-the_row-Concrete-0}
use Rattle.loop_code.specs.declared.loops.LoopCode.TheBlock.{hidden-the_row-LoopCode-0}
use Rattle.loop_code.specs.declared.loops.LoopCode.{LoopCode, Add, Both', Loop', Sum', Row_of-LoopCode, end_of-LoopCode, more_of-LoopCode}
use Rattle.loop_code.specs.Opened.{opened_by, opened_in, put_at, put_in, put_inside, whole, whole_in}
use Rattle.lowering.specs.Lowered.{concrete_in, concrete_of}
use Rattle.lowering.specs.Seeking.{has_access, has_access_in, uses}
use Rattle.lowering.specs.Sums.{first_sum, reads_any}
use Rattle.lowering.proofs.Accesses.{of_access, or_left, or_right}
use Rattle.lowering.proofs.Through.{through_uses}
use Rattle.statement_costs.specs.Costs.{has_started}
use Rattle.lowering.specs.Starts.{MayStart, StartsInPlace, StartsInPlace_in}
use Rattle.statement_costs.proofs.Opened.{Started, before_it, but_it, inside_read, into, less_or_not, started_outside, started_so}

-- by either side
pub by_side : (X : Type 0) (b c : Bool) → (b || c) ≡ true → (b ≡ true → X) → (c ≡ true → X) → X
by_side X true c h f g = f refl
by_side X false c h f g = g h

same_by : (a b : ℕ) → nat_eq a b ≡ true → a ≡ b
same_by a b h = grind (arith, nat_tests, h)

mutual
  unfolding hidden-the_row-Expr-0 hidden

  -- an access of an expression with others in the places of its accesses stands in one of those
  put_has : (X : Type 0) (others : ℕ → Expr) (e : Expr) (k : ℕ) → has_access (put_in others e) k ≡ true
      → ((j : ℕ) → has_access e j ≡ true → has_access (others j) k ≡ true → X) → X
  put_has X others (Num n) k h f = absurd (cc h)
  put_has X others (AccessOf j) k h f = f j (let self : nat_eq j j ≡ true = grind (arith, nat_tests) in self) h
  put_has X others (Binary' o p e q g) k h f =
      by_side X (has_access (put_inside others e) k) (has_access (put_inside others g) k) h
      (λ one. put_has_in X others e k one (λ j is. f j (or_left (has_access_in e j) (has_access_in g j) is)))
      (λ two. put_has_in X others g k two (λ j is. f j (or_right (has_access_in e j) (has_access_in g j) is)))
  put_has X others (Neg' p e) k h f = put_has_in X others e k h f

  put_has_in : {m : _} (X : Type 0) (others : ℕ → Expr) (row : Row_of-Expr m) (k : ℕ) → has_access (put_inside others row) k ≡ true
      → ((j : ℕ) → has_access_in row j ≡ true → has_access (others j) k ≡ true → X) → X
  put_has_in X others end_of-Expr k h f = absurd (cc h)
  put_has_in X others (more_of-Expr e rest) k h f = put_has X others e k h f

mutual
  unfolding hidden-the_row-Expr-0 hidden

  -- and each that stands in one of those does
  has_put : (others : ℕ → Expr) (e : Expr) (j k : ℕ) → has_access e j ≡ true → has_access (others j) k ≡ true
      → has_access (put_in others e) k ≡ true
  has_put others (Num n) j k h g = absurd (cc h)
  has_put others (AccessOf i) j k h g = ap (λ m. has_access (others m) k) (same_by i j h) ∙ g
  has_put others (Binary' o p e q f) j k h g =
      by_side ((has_access (put_inside others e) k || has_access (put_inside others f) k) ≡ true) (has_access_in e j) (has_access_in f j) h
      (λ one. or_left (has_access (put_inside others e) k) (has_access (put_inside others f) k) (has_put_in others e j k one g))
      (λ two. or_right (has_access (put_inside others e) k) (has_access (put_inside others f) k) (has_put_in others f j k two g))
  has_put others (Neg' p e) j k h g = has_put_in others e j k h g

  has_put_in : {m : _} (others : ℕ → Expr) (row : Row_of-Expr m) (j k : ℕ) → has_access_in row j ≡ true
      → has_access (others j) k ≡ true → has_access (put_inside others row) k ≡ true
  has_put_in others end_of-Expr j k h g = absurd (cc h)
  has_put_in others (more_of-Expr e rest) j k h g = has_put others e j k h g

mutual
  unfolding hidden-the_row-LoopCode-0 hidden-the_row-Concrete-0 hidden-the_row-Expr-0 hidden

  -- what stands in opened loops stands in what they add together
  pub uses_whole : (others : ℕ → Expr) (c : LoopCode) (k : ℕ)
      → uses (concrete_of (opened_by others c)) k ≡ has_access (whole others c) k
  uses_whole others (Loop' v seeks p body) k = uses_whole_in others body k
  uses_whole others (Both' p f q g) k = λ i. uses_whole_in others f k i || uses_whole_in others g k i
  uses_whole others (Add t) k = refl
  uses_whole others (Sum' j p inside q body) k = uses_whole_in (put_at others j (whole_in others inside)) body k

  uses_whole_in : {m : _} (others : ℕ → Expr) (row : Row_of-LoopCode m) (k : ℕ)
      → uses (concrete_of (opened_in others row)) k ≡ has_access (whole_in others row) k
  uses_whole_in others end_of-LoopCode k = refl
  uses_whole_in others (more_of-LoopCode c rest) k = uses_whole others c k

-- where one access stands in the place of another wherever it does
module _ (j k : ℕ) where
  abbrev Follows : (ℕ → Expr) → (ℕ → Expr) → Type 0
  Follows first second = (i : ℕ) → has_access (first i) j ≡ true → has_access (second i) k ≡ true

  mutual
    unfolding hidden-the_row-LoopCode-0 hidden-the_row-Expr-0 hidden

    pub whole_follows : (first second : ℕ → Expr) → Follows first second → (c : LoopCode) → has_access (whole first c) j ≡ true
        → has_access (whole second c) k ≡ true
    whole_follows first second f (Loop' v seeks p body) h = whole_follows_in first second f body h
    whole_follows first second f (Both' p c q d) h =
        by_side ((has_access (whole_in second c) k || has_access (whole_in second d) k) ≡ true) (has_access (whole_in first c) j)
        (has_access (whole_in first d) j) h
        (λ one. or_left (has_access (whole_in second c) k) (has_access (whole_in second d) k) (whole_follows_in first second f c one))
        (λ two. or_right (has_access (whole_in second c) k) (has_access (whole_in second d) k) (whole_follows_in first second f d two))
    whole_follows first second f (Add t) h =
        put_has (has_access (put_in second t.expr) k ≡ true) first t.expr j h (λ i there is. has_put second t.expr i k there (f i is))
    whole_follows first second f (Sum' i p inside q body) h =
        whole_follows_in (put_at first i (whole_in first inside)) (put_at second i (whole_in second inside))
        (λ m. by m (nat_eq i m) (whole_follows_in first second f inside)) body h
      where
        by : (m : ℕ) (b : Bool) → (has_access (whole_in first inside) j ≡ true → has_access (whole_in second inside) k ≡ true)
            → has_access (if b then whole_in first inside else first m) j ≡ true
            → has_access (if b then whole_in second inside else second m) k ≡ true
        by m true more is = more is
        by m false more is = f m is

    whole_follows_in : {m : _} (first second : ℕ → Expr) → Follows first second → (row : Row_of-LoopCode m)
        → has_access (whole_in first row) j ≡ true → has_access (whole_in second row) k ≡ true
    whole_follows_in first second f end_of-LoopCode h = absurd (cc h)
    whole_follows_in first second f (more_of-LoopCode c rest) h = whole_follows first second f c h

-- an access that stands in opened loops is one that they read and that is no sum or has started
module _ (s : Statement) (vars : ℕ) (are : AreSums vars (first_sum s) s.sums) (k : ℕ) (X : Type 0) where
  abbrev Told : Option ℕ → List ℕ → ℕ → Concrete → (ℕ → Expr) → Type 0
  Told innermost bound from c others =
      (j : ℕ) → reads_any s c j ≡ true → (first_sum s ≤ j → Started s innermost bound from j) → has_access (others j) k ≡ true → X

  mutual
    unfolding hidden-the_row-LoopCode-0 hidden-the_row-Concrete-0 hidden-the_row-Expr-0 hidden

    pub leaf_told : (c : LoopCode) (innermost : Option ℕ) (bound : List ℕ) (from : ℕ) (others : ℕ → Expr)
        → StartsInPlace s innermost bound from c → Told innermost bound from (concrete_of c) others
        → has_access (whole others c) k ≡ true → X
    leaf_told (Loop' v seeks p body) innermost bound from others starts told h =
        leaf_told_in body (Some v) (v ∷ bound) 0 others starts.2
        (λ j read f. told j read (λ low. started_so s innermost bound from j (started_outside s bound v j (f low))
        (λ may. elim (less_or_not j from) [
          | inl less ↦ less
          | inr over ↦ absurd (starts.0.none j over low read may)
        ]))) h
    leaf_told (Both' p f q g) innermost bound from others starts told h =
        by_side X (has_access (whole_in others f) k) (has_access (whole_in others g) k) h
        (λ one. leaf_told_in f innermost bound from others starts.2
        (λ j read. told j (into s vars are (λ i. false) (concrete_in f) (concrete_of (Both' p f q g))
        (λ i is. or_left (uses (concrete_in f) i) (uses (concrete_in g) i) is) j read)) one)
        (λ two. leaf_told_in g innermost bound from others starts.3
        (λ j read. told j (into s vars are (λ i. false) (concrete_in g) (concrete_of (Both' p f q g))
        (λ i is. or_right (uses (concrete_in f) i) (uses (concrete_in g) i) is) j read)) two)
    leaf_told (Add t) innermost bound from others starts told h =
        put_has X others t.expr k h
        (λ j there is. told j (through_uses s (length s.sums) (uses (AddOf t)) j there)
        (λ low. let at = of_access (λ i. first_sum s ≤ i → (i < first_sum s + length s.sums) × (has_started s bound i ≡ true)
        × (MayStart s innermost bound i → i < from)) t.expr j starts there low in started_so s innermost bound from j at.1 at.2) is)
    leaf_told (Sum' i p inside q body) innermost bound from others starts told h =
        leaf_told_in body innermost bound (suc i) (put_at others i (whole_in others inside)) starts.2
        (λ j read f. by j read f (nat_eq i j) refl
        (leaf_told_in inside innermost bound i others starts.1
        (λ m within g. let here = inside_read s vars are (λ i. false) innermost bound from i (concrete_in inside) (concrete_in body)
        starts.0 m within in told m here
        (λ low. before_it s vars are (λ i. false) innermost bound from i (concrete_in inside) (concrete_in body) starts.0 m here low
        (g low))))) h
      where
        by : (j : ℕ) → reads_any s (concrete_in body) j ≡ true → (first_sum s ≤ j → Started s innermost bound (suc i) j)
            → (b : Bool) → nat_eq i j ≡ b → (has_access (whole_in others inside) k ≡ true → X)
            → has_access (if b then whole_in others inside else others j) k ≡ true → X
        by j read f true is inner there = inner there
        by j read f false is inner there =
            told j read
            (λ low. before_it s vars are (λ i. false) innermost bound from i (concrete_in inside) (concrete_in body) starts.0 j read low
            (but_it s vars are (λ i. false) innermost bound from i (concrete_in inside) (concrete_in body) starts.0 j is (f low))) there

    leaf_told_in : {m : _} (row : Row_of-LoopCode m) (innermost : Option ℕ) (bound : List ℕ) (from : ℕ) (others : ℕ → Expr)
        → StartsInPlace_in s innermost bound from row → Told innermost bound from (concrete_in row) others
        → has_access (whole_in others row) k ≡ true → X
    leaf_told_in end_of-LoopCode innermost bound from others starts told h = absurd (cc h)
    leaf_told_in (more_of-LoopCode c rest) innermost bound from others starts told h =
        leaf_told c innermost bound from others starts told h
