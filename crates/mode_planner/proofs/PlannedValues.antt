-- The value of a planned statement is that of the given one.
use Rattle.std.specs.Prelude.{◌≡◌, ℕ, zero, suc, ◌+◌, ◌<◌, nat_eq, ◌||◌, ◌&&◌, not, cond, Bool, true, false, List, [], ◌∷◌, ◌++◌}
use Rattle.std.specs.Prelude.{map, filter, length, None, Some, slice_get, refl}
use Rattle.std.proofs.Common.{◌∙◌, sym, ap, subst, arith}
use Rattle.std.proofs.lemmas.Bool.{eq-eqb}
use Rattle.lists.specs.Each.{Each}
use Rattle.numbers.specs.Arithmetic.{Arithmetic}
use Rattle.numbers.specs.Sums.{total_of}
use Rattle.format_spec.specs.declared.format.FormatLevel.{FormatLevel}
use Rattle.index_notation.specs.Statement.{IsAccess, IsNumberedWithSums, numbers_from}
use Rattle.index_notation.specs.declared.syntax.Access.{Access}
use Rattle.index_notation.specs.declared.syntax.Expr.{Expr, Num, Access as AccessOf, Binary', Neg', Row_of-Expr, end_of-Expr, more_of-Expr}
use Rattle.index_notation.specs.declared.syntax.NestedSum.{NestedSum}
use Rattle.index_notation.specs.declared.syntax.Statement.{Statement}
use Rattle.expr_terms.specs.Nested.{accesses_with, flat, flat_values, free_in, is_free, nested_value, sum_access, sum_value}
use Rattle.expr_terms.specs.Nested.{values_with, with_tensor}
use Rattle.expr_terms.specs.Points.{point_of, sum_over}
use Rattle.expr_terms.specs.declared.term.Term.{Term}
use Rattle.expr_terms.specs.Terms.{contains, is_at_access, is_own, own_in, stands_in, stands_inside, statement_value, term_sum}
use Rattle.expr_terms.specs.Terms.{term_value, terms}
use Rattle.expr_terms.specs.Value.{access_value_or_zero, applied, minus, value_of, value_of_in}
use Rattle.expr_terms.proofs.PointLaws.{unequal}
use Rattle.mode_planner.specs.Planned.{IsPlanned, StoreOrigins}
use Rattle.mode_planner.specs.declared.planned.Planned.{Planned}
use Rattle.mode_planner.proofs.PlannedLaws.{stands}

-- ---- accesses that stand for one another, place by place
module _ (a : Arithmetic) (values stored : ℕ → List ℕ → ℕ) (given planned : List Access)
    (reads : (point : ℕ → ℕ) (k : ℕ)
    → access_value_or_zero a stored point (slice_get planned k) ≡ access_value_or_zero a values point (slice_get given k))
    (stand : (v k : ℕ) → is_at_access v (slice_get planned k) ≡ is_at_access v (slice_get given k)) where
  mutual
    value_same : (point : ℕ → ℕ) (e : Expr) → value_of a stored planned point e ≡ value_of a values given point e
    value_same point (Num n) = refl
    value_same point (AccessOf k) = reads point k
    value_same point (Binary' o m e n f) =
        ap (λ x. applied a o x (value_of_in a stored planned point f)) (value_in_same point e)
        ∙ ap (applied a o (value_of_in a values given point e)) (value_in_same point f)
    value_same point (Neg' m e) = ap (minus a) (value_in_same point e)

    value_in_same : {m : _} (point : ℕ → ℕ) (e : Row_of-Expr m)
        → value_of_in a stored planned point e ≡ value_of_in a values given point e
    value_in_same point end_of-Expr = refl
    value_in_same point (more_of-Expr e rest) = value_same point e

  mutual
    stands_same : (v : ℕ) (e : Expr) → stands_in planned v e ≡ stands_in given v e
    stands_same v (Num n) = refl
    stands_same v (AccessOf k) = stand v k
    stands_same v (Binary' o m e n f) =
        ap (λ b. b || stands_inside planned v f) (stands_in_same v e)
        ∙ ap (λ b. stands_inside given v e || b) (stands_in_same v f)
    stands_same v (Neg' m e) = stands_in_same v e

    stands_in_same : {m : _} (v : ℕ) (e : Row_of-Expr m) → stands_inside planned v e ≡ stands_inside given v e
    stands_in_same v end_of-Expr = refl
    stands_in_same v (more_of-Expr e rest) = stands_same v e

  term_same : (t : Term) (point : ℕ → ℕ) → term_value a stored planned point t ≡ term_value a values given point t
  term_same t point = by t.negated
    where
      by : (b : Bool) → term_value a stored planned point (record { negated = b; expr = t.expr })
          ≡ term_value a values given point (record { negated = b; expr = t.expr })
      by true = ap (minus a) (value_same point t.expr)
      by false = value_same point t.expr

-- ---- statements whose accesses do, and that are else the same
module _ (a : Arithmetic) (s t : Statement) (values stored : ℕ → List ℕ → ℕ)
    (reads : (point : ℕ → ℕ) (k : ℕ)
    → access_value_or_zero a stored point (slice_get t.accesses k) ≡ access_value_or_zero a values point (slice_get s.accesses k))
    (stand : (v k : ℕ) → is_at_access v (slice_get t.accesses k) ≡ is_at_access v (slice_get s.accesses k))
    (left : t.left ≡ s.left) (vars : t.vars ≡ s.vars) (expr : t.expr ≡ s.expr) where
  own_same : (e : Expr) → own_in t e ≡ own_in s e
  own_same e =
      let test : (v : ℕ) → is_own t e v ≡ is_own s e v =
      λ v. ap (λ b. b && not (contains t.left.vars v)) (stands_same a values stored s.accesses t.accesses reads stand v e)
      ∙ ap (λ (l : Access). stands_in s.accesses v e && not (contains l.vars v)) left in
      let tests : is_own t e ≡ is_own s e = λ i v. test v i in
      ap (λ p. filter p (numbers_from 0 (length t.vars))) tests
      ∙ ap (λ names. filter (is_own s e) (numbers_from 0 (length names))) vars

  sum_same : (ranges point : ℕ → ℕ) (term : Term) → term_sum a t stored ranges point term ≡ term_sum a s values ranges point term
  sum_same ranges point term =
      let inside : (λ p. term_value a stored t.accesses p term) ≡ (λ p. term_value a values s.accesses p term) =
      λ i p. term_same a values stored s.accesses t.accesses reads stand term p i in
      ap (λ own. sum_over a ranges own (λ p. term_value a stored t.accesses p term) point) (own_same term.expr)
      ∙ ap (λ f. sum_over a ranges (own_in s term.expr) f point) inside

  statement_same : (ranges : ℕ → ℕ) (coords : List ℕ) → statement_value a t stored ranges coords ≡ statement_value a s values ranges coords
  statement_same ranges coords =
      let each : term_sum a t stored ranges (point_of t.left.vars coords) ≡ term_sum a s values ranges (point_of t.left.vars coords) =
      λ i term. sum_same ranges (point_of t.left.vars coords) term i in
      ap (λ f. total_of a (map f (terms t.expr))) each
      ∙ ap (λ (l : Access). total_of a (map (term_sum a s values ranges (point_of l.vars coords)) (terms t.expr))) left
      ∙ ap (λ e. total_of a (map (term_sum a s values ranges (point_of s.left.vars coords)) (terms e))) expr

-- ---- accesses by the same variables, of the same values, and behind them nested sums
module _ (a : Arithmetic) (ranges : ℕ → ℕ) (vars : ℕ) where
  abbrev IsAlike : (ℕ → List ℕ → ℕ) → (ℕ → List ℕ → ℕ) → Access → Access → Type 0
  IsAlike values stored x y =
      (y.vars ≡ x.vars) × ((point : ℕ → ℕ) → stored y.tensor (map point y.vars) ≡ values x.tensor (map point x.vars))

  abbrev AreAlike : (ℕ → List ℕ → ℕ) → (ℕ → List ℕ → ℕ) → List Access → List Access → Type 0
  AreAlike values stored [] [] = Unit {0}
  AreAlike values stored (x ∷ xs) (y ∷ ys) = IsAlike values stored x y × AreAlike values stored xs ys
  AreAlike values stored [] (y ∷ ys) = ⊥
  AreAlike values stored (x ∷ xs) [] = ⊥

  reads_at : (values stored : ℕ → List ℕ → ℕ) (xs ys : List Access) → AreAlike values stored xs ys → (point : ℕ → ℕ) (k : ℕ)
      → access_value_or_zero a stored point (slice_get ys k) ≡ access_value_or_zero a values point (slice_get xs k)
  reads_at values stored [] [] h point k = refl
  reads_at values stored (x ∷ xs) (y ∷ ys) h point zero = h.0.1 point
  reads_at values stored (x ∷ xs) (y ∷ ys) h point (suc k) = reads_at values stored xs ys h.1 point k
  reads_at values stored [] (y ∷ ys) h point k = absurd h
  reads_at values stored (x ∷ xs) [] h point k = absurd h

  stand_at : (values stored : ℕ → List ℕ → ℕ) (xs ys : List Access) → AreAlike values stored xs ys → (v k : ℕ)
      → is_at_access v (slice_get ys k) ≡ is_at_access v (slice_get xs k)
  stand_at values stored [] [] h v k = refl
  stand_at values stored (x ∷ xs) (y ∷ ys) h v zero = ap (λ vs. contains vs v) h.0.0
  stand_at values stored (x ∷ xs) (y ∷ ys) h v (suc k) = stand_at values stored xs ys h.1 v k
  stand_at values stored [] (y ∷ ys) h v k = absurd h
  stand_at values stored (x ∷ xs) [] h v k = absurd h

  -- one more tensor behind those that are read
  other_tensor : (values : ℕ → List ℕ → ℕ) (tensor : ℕ) (one : List ℕ → ℕ) (other : ℕ) (coords : List ℕ) → other < tensor
      → with_tensor values tensor one other coords ≡ values other coords
  other_tensor values tensor one other coords below =
      ap (λ b. cond b (one coords) (values other coords)) (unequal other tensor (λ same. absurd (omega (arith, below, same))))

  this_tensor : (values : ℕ → List ℕ → ℕ) (tensor : ℕ) (one : List ℕ → ℕ) (coords : List ℕ)
      → with_tensor values tensor one tensor coords ≡ one coords
  this_tensor values tensor one coords = ap (λ b. cond b (one coords) (values tensor coords)) (eq-eqb tensor tensor refl)

  still_alike : (values stored : ℕ → List ℕ → ℕ) (g p : ℕ) (one two : List ℕ → ℕ) (xs ys : List Access)
      → Each (λ (x : Access). x.tensor < g) xs → Each (λ (y : Access). y.tensor < p) ys → AreAlike values stored xs ys
      → AreAlike (with_tensor values g one) (with_tensor stored p two) xs ys
  still_alike values stored g p one two [] [] below under h = tt
  still_alike values stored g p one two (x ∷ xs) (y ∷ ys) below under h = (
    (
      h.0.0,
      (λ point. other_tensor stored p two y.tensor (map point y.vars) under.0 ∙ h.0.1 point
          ∙ sym (other_tensor values g one x.tensor (map point x.vars) below.0)),
    ),
    still_alike values stored g p one two xs ys below.1 under.1 h.1,
  )
  still_alike values stored g p one two [] (y ∷ ys) below under h = absurd h
  still_alike values stored g p one two (x ∷ xs) [] below under h = absurd h

  alike_end : (values stored : ℕ → List ℕ → ℕ) (x y : Access) → IsAlike values stored x y → (xs ys : List Access)
      → AreAlike values stored xs ys → AreAlike values stored (xs ++ (x ∷ [])) (ys ++ (y ∷ []))
  alike_end values stored x y last [] [] h = (last, tt)
  alike_end values stored x y last (z ∷ xs) (w ∷ ys) h = (h.0, alike_end values stored x y last xs ys h.1)
  alike_end values stored x y last [] (w ∷ ys) h = absurd h
  alike_end values stored x y last (z ∷ xs) [] h = absurd h

  more_below : (n : ℕ) (last : Access) → last.tensor ≡ n → (xs : List Access) → Each (λ (x : Access). x.tensor < n) xs
      → Each (λ (x : Access). x.tensor < n + 1) (xs ++ (last ∷ []))
  more_below n last is [] h = (omega (arith, is), tt)
  more_below n last is (x ∷ xs) h = ((let below = h.0 in omega (arith, below)), more_below n last is xs h.1)

  sums_alike : (sums : List NestedSum) (g p : ℕ) (values stored : ℕ → List ℕ → ℕ) (xs ys : List Access)
      → Each (λ (x : Access). x.tensor < g) xs → Each (λ (y : Access). y.tensor < p) ys → AreAlike values stored xs ys
      → AreAlike (values_with a ranges vars xs g sums values) (values_with a ranges vars ys p sums stored)
      (accesses_with vars xs g sums) (accesses_with vars ys p sums)
  sums_alike [] g p values stored xs ys below under h = h
  sums_alike (sum ∷ sums) g p values stored xs ys below under h =
      sums_alike sums (g + 1) (p + 1) (with_tensor values g one) (with_tensor stored p two) (xs ++ (x ∷ [])) (ys ++ (y ∷ []))
      (more_below g x refl xs below) (more_below p y refl ys under)
      (alike_end (with_tensor values g one) (with_tensor stored p two) x y (free_same, told) xs ys
      (still_alike values stored g p one two xs ys below under h))
    where
      one : List ℕ → ℕ
      one = sum_value a ranges vars xs values sum

      two : List ℕ → ℕ
      two = sum_value a ranges vars ys stored sum

      x : Access
      x = sum_access vars xs g sum

      y : Access
      y = sum_access vars ys p sum

      free_same : free_in vars ys sum ≡ free_in vars xs sum
      free_same =
          let tests : is_free ys sum ≡ is_free xs sum =
          λ i v. stands_same a values stored xs ys (reads_at values stored xs ys h)
          (stand_at values stored xs ys h) v sum.inside i && not (nat_eq v sum.var) in
          ap (λ is. filter is (numbers_from 0 vars)) tests

      inside_here : (ℕ → ℕ) → ℕ
      inside_here p = value_of a stored ys p sum.inside

      inside_there : (ℕ → ℕ) → ℕ
      inside_there p = value_of a values xs p sum.inside

      inside_same : inside_here ≡ inside_there
      inside_same = λ i p. value_same a values stored xs ys (reads_at values stored xs ys h) (stand_at values stored xs ys h) p sum.inside i

      told : (point : ℕ → ℕ)
          → with_tensor stored p two p (map point (free_in vars ys sum)) ≡ with_tensor values g one g (map point (free_in vars xs sum))
      told point =
          this_tensor stored p two (map point (free_in vars ys sum))
          ∙ ap (λ f. sum_over a ranges (sum.var ∷ []) f (point_of (free_in vars ys sum) (map point (free_in vars ys sum)))) inside_same
          ∙ ap (λ vs. sum_over a ranges (sum.var ∷ []) (λ q. value_of a values xs q sum.inside) (point_of vs (map point vs))) free_same
          ∙ sym (this_tensor values g one (map point (free_in vars xs sum)))

-- ---- a planned statement
apart : (access : Access) → Some access ≡ None → ⊥
apart access h = cc

tensors_below : (tensors vars : ℕ) (accesses : List Access) → Each (IsAccess tensors vars) accesses
    → Each (λ (x : Access). x.tensor < tensors) accesses
tensors_below tensors vars [] h = tt
tensors_below tensors vars (access ∷ accesses) h = (h.0.tensor, tensors_below tensors vars accesses h.1)

module _ (a : Arithmetic) (s : Statement) (formats : List (List FormatLevel)) (plan : Planned) (values stored : ℕ → List ℕ → ℕ)
    (ranges : ℕ → ℕ) (numbered : IsNumberedWithSums s) (p : IsPlanned s formats plan) (store : StoreOrigins plan values stored) where
  abbrev t : Statement
  t = plan.statement

  planned_at : (k : ℕ) (old access : Access) → slice_get s.accesses k ≡ Some old → slice_get t.accesses k ≡ Some access
      → IsAlike a ranges (length s.vars) values stored old access
  planned_at k old access is stands_there =
      let at = p.accesses k old access is stands_there in (
        at.vars,
        (λ point. store access.tensor (map point access.vars) at.stored.operand at.stored.within
            ∙ ap (λ tensor. values tensor (map point access.vars)) at.stored.origin_is
            ∙ ap (λ vars. values old.tensor (map point vars)) at.vars),
      )

  pairs_of : (xs ys : List Access) → length ys ≡ length xs
      → ((k : ℕ) (x y : Access) → slice_get xs k ≡ Some x → slice_get ys k ≡ Some y
      → IsAlike a ranges (length s.vars) values stored x y)
      → AreAlike a ranges (length s.vars) values stored xs ys
  pairs_of [] [] long each = tt
  pairs_of (x ∷ xs) (y ∷ ys) long each = (each 0 x y refl refl, pairs_of xs ys (omega (arith, long)) (λ k. each (suc k)))
  pairs_of [] (y ∷ ys) long each = absurd (omega (arith, long))
  pairs_of (x ∷ xs) [] long each = absurd (omega (arith, long))

  below_planned : (ys : List Access)
      → ((k : ℕ) (y : Access) → slice_get ys k ≡ Some y → y.tensor < length t.tensors)
      → Each (λ (y : Access). y.tensor < length t.tensors) ys
  below_planned [] each = tt
  below_planned (y ∷ ys) each = (each 0 y refl, below_planned ys (λ k. each (suc k)))

  within : (k : ℕ) (access : Access) → slice_get t.accesses k ≡ Some access → access.tensor < length t.tensors
  within k access is =
      let at = stands s formats plan p k access is in
      let inside = at.planned.stored.within in
      let many = p.tensors_many in
      omega (arith, inside, many)

  first : AreAlike a ranges (length s.vars) (flat_values a s values ranges)
      (values_with a ranges (length s.vars) t.accesses (length t.tensors) s.sums stored)
      (flat s).accesses (accesses_with (length s.vars) t.accesses (length t.tensors) s.sums)
  first =
      sums_alike a ranges (length s.vars) s.sums (length s.tensors) (length t.tensors) values stored s.accesses t.accesses
      (tensors_below (length s.tensors) (length s.vars) s.accesses numbered.right) (below_planned t.accesses within)
      (pairs_of s.accesses t.accesses p.many planned_at)

  all : AreAlike a ranges (length s.vars) (flat_values a s values ranges) (flat_values a t stored ranges) (flat s).accesses
      (flat t).accesses
  all =
      subst (λ names. AreAlike a ranges (length s.vars) (flat_values a s values ranges)
      (values_with a ranges (length names) t.accesses (length t.tensors) t.sums stored)
      (flat s).accesses (accesses_with (length names) t.accesses (length t.tensors) t.sums)) (sym p.vars)
      (subst (λ sums. AreAlike a ranges (length s.vars) (flat_values a s values ranges)
      (values_with a ranges (length s.vars) t.accesses (length t.tensors) sums stored)
      (flat s).accesses (accesses_with (length s.vars) t.accesses (length t.tensors) sums)) (sym p.sums) first)

pub values_kept : (a : Arithmetic) (s : Statement) (formats : List (List FormatLevel)) (plan : Planned)
    (values stored : ℕ → List ℕ → ℕ) (ranges : ℕ → ℕ) (coords : List ℕ) → IsNumberedWithSums s → IsPlanned s formats plan
    → StoreOrigins plan values stored
    → nested_value a plan.statement stored ranges coords ≡ nested_value a s values ranges coords
values_kept a s formats plan values stored ranges coords numbered p store =
    let t = plan.statement in
    let here = all a s formats plan values stored ranges numbered p store in
    statement_same a (flat s) (flat t) (flat_values a s values ranges) (flat_values a t stored ranges)
    (reads_at a ranges (length s.vars) (flat_values a s values ranges) (flat_values a t stored ranges) (flat s).accesses
    (flat t).accesses here)
    (stand_at a ranges (length s.vars) (flat_values a s values ranges) (flat_values a t stored ranges) (flat s).accesses
    (flat t).accesses here)
    p.left p.vars p.expr ranges coords

-- the same variables stand in what its accesses and sums read
pub planned_stands : (a : Arithmetic) (s : Statement) (formats : List (List FormatLevel)) (plan : Planned) → IsNumberedWithSums s
    → IsPlanned s formats plan → (v : ℕ) (e : Expr)
    → stands_in (flat plan.statement).accesses v e ≡ stands_in (flat s).accesses v e
planned_stands a s formats plan numbered p v e =
    let t = plan.statement in
    let none : ℕ → List ℕ → ℕ = λ tensor coords. 0 in
    let ranges : ℕ → ℕ = λ v. 0 in
    let here = all a s formats plan none none ranges numbered p (λ tensor coords some within. refl) in
    stands_same a (flat_values a s none ranges) (flat_values a t none ranges) (flat s).accesses (flat t).accesses
    (reads_at a ranges (length s.vars) (flat_values a s none ranges) (flat_values a t none ranges) (flat s).accesses (flat t).accesses here)
    (stand_at a ranges (length s.vars) (flat_values a s none ranges) (flat_values a t none ranges) (flat s).accesses (flat t).accesses here)
    v e
