-- The terms of an expanded statement: the old tensor, and then those that are written.
use Rattle.std.specs.Prelude.{◌≡◌, ℕ, zero, suc, ◌+◌, Bool, true, false, cond, not, ◌||◌, ◌&&◌, List, [], ◌∷◌, ◌++◌, map, filter, length}
use Rattle.std.specs.Prelude.{slice_get, refl}
use Rattle.std.proofs.Common.{◌∙◌, sym, ap, arith}
use Rattle.std.proofs.lemmas.List.{map-append}
use Rattle.numbers.specs.Arithmetic.{Arithmetic}
use Rattle.numbers.specs.Sums.{total_of}
use Rattle.index_notation.specs.declared.operator.Operator.{Operator}
use Rattle.index_notation.specs.declared.operator.Operator.TheVariants as op
use Rattle.index_notation.specs.declared.syntax.Access.{Access}
use Rattle.index_notation.specs.declared.syntax.Expr.{Expr, Num, Access as AccessOf, Binary', Neg', Row_of-Expr, end_of-Expr}
use Rattle.index_notation.specs.declared.syntax.Expr.{more_of-Expr}
use Rattle.index_notation.specs.declared.syntax.Statement.{Statement}
use Rattle.index_notation.specs.Statement.{numbers_from}
use Rattle.expr_terms.specs.Points.{point_of, coords_at, sum_over}
use Rattle.expr_terms.specs.Value.{applied, value_of, value_of_in, access_value_or_zero, minus}
use Rattle.expr_terms.specs.Terms.{Term, terms, terms_in, terms_of_sides, plain_term, negated_term, contains, is_at_access, stands_in}
use Rattle.expr_terms.specs.Terms.{stands_inside, is_own, own_in, own_variables, term_value, term_sum, statement_value}
use Rattle.expr_terms.specs.Expanded.{moved_access, moved, moved_in, moved_term, accesses_with_old, with_old}
use Rattle.expr_terms.proofs.Equations.{terms_binary}
use Rattle.expr_terms.proofs.PointLaws.{sum_over_same}

-- ---- terms
moved_negated : (ts : List Term) → map negated_term (map moved_term ts) ≡ map moved_term (map negated_term ts)
moved_negated [] = refl
moved_negated (t ∷ ts) = ap (λ us. moved_term (negated_term t) ∷ us) (moved_negated ts)

moved_sides : (o : Operator) (whole other : Expr) (ts us : List Term) → other ≡ moved whole
    → terms_of_sides o other (map moved_term ts) (map moved_term us) ≡ map moved_term (terms_of_sides o whole ts us)
moved_sides op.Add whole other ts us is = sym (map-append moved_term ts us)
moved_sides op.Sub whole other ts us is =
    ap (λ vs. map moved_term ts ++ vs) (moved_negated us) ∙ sym (map-append moved_term ts (map negated_term us))
moved_sides op.Mul whole other ts us is = ap (λ e. plain_term e ∷ []) is

mutual
  -- an expression behind one more access has the terms of the expression, behind it too
  pub moved_terms : (e : Expr) → terms (moved e) ≡ map moved_term (terms e)
  moved_terms (Num n) = refl
  moved_terms (AccessOf k) = refl
  moved_terms (Binary' o p e q f) =
      (λ i. terms_of_sides o (moved (Binary' o p e q f)) (moved_terms_in e i) (moved_terms_in f i))
      ∙ moved_sides o (Binary' o p e q f) (moved (Binary' o p e q f)) (terms_in e) (terms_in f) refl
  moved_terms (Neg' p e) = ap (map negated_term) (moved_terms_in e) ∙ moved_negated (terms_in e)

  moved_terms_in : {m : _} (e : Row_of-Expr m) → terms_in (moved_in e) ≡ map moved_term (terms_in e)
  moved_terms_in end_of-Expr = refl
  moved_terms_in (more_of-Expr e rest) = moved_terms e

-- the old tensor is the first term
pub with_old_terms : (s : Statement) → terms (with_old s).expr ≡ plain_term (AccessOf 0) ∷ map moved_term (terms s.expr)
with_old_terms s = terms_binary op.Add (AccessOf 0) (moved s.expr) ∙ ap (λ ts. plain_term (AccessOf 0) ∷ ts) (moved_terms s.expr)

-- ---- variables
moved_at : (v : ℕ) (accesses : List Access) (k : ℕ) → is_at_access v (slice_get (map moved_access accesses) k)
    ≡ is_at_access v (slice_get accesses k)
moved_at v [] k = refl
moved_at v (access ∷ accesses) zero = refl
moved_at v (access ∷ accesses) (suc k) = moved_at v accesses k

module _ (vars : List ℕ) (accesses : List Access) where
  mutual
    -- a variable stands in an expression behind one more access where it stands in the expression
    pub moved_stands : (v : ℕ) (e : Expr) → stands_in (accesses_with_old vars accesses) v (moved e) ≡ stands_in accesses v e
    moved_stands v (Num n) = refl
    moved_stands v (AccessOf k) =
        let next : k + 1 ≡ suc k = omega arith in
        ap (λ n. is_at_access v (slice_get (accesses_with_old vars accesses) n)) next ∙ moved_at v accesses k
    moved_stands v (Binary' o p e q f) = λ i. moved_stands_in v e i || moved_stands_in v f i
    moved_stands v (Neg' p e) = moved_stands_in v e

    moved_stands_in : {m : _} (v : ℕ) (e : Row_of-Expr m)
        → stands_inside (accesses_with_old vars accesses) v (moved_in e) ≡ stands_inside accesses v e
    moved_stands_in v end_of-Expr = refl
    moved_stands_in v (more_of-Expr e rest) = moved_stands v e

filter_same : (p q : ℕ → Bool) (ns : List ℕ) → ((n : ℕ) → p n ≡ q n) → filter p ns ≡ filter q ns
filter_same p q [] same = refl
filter_same p q (n ∷ ns) same = λ i. cond (same n i) (n ∷ filter_same p q ns same i) (filter_same p q ns same i)

filter_none : (p : ℕ → Bool) (ns : List ℕ) → ((n : ℕ) → p n ≡ false) → filter p ns ≡ []
filter_none p [] none = refl
filter_none p (n ∷ ns) none = ap (λ b. cond b (n ∷ filter p ns) (filter p ns)) (none n) ∙ filter_none p ns none

-- the old tensor has no variable of its own, and the written terms have theirs
old_own : (s : Statement) → own_in (with_old s) (AccessOf 0) ≡ []
old_own s = filter_none (is_own (with_old s) (AccessOf 0)) (numbers_from 0 (length s.vars)) (λ v. none (contains s.left.vars v))
  where
    none : (b : Bool) → (b && not b) ≡ false
    none true = refl
    none false = refl

moved_own : (s : Statement) (e : Expr) → own_in (with_old s) (moved e) ≡ own_in s e
moved_own s e = filter_same (is_own (with_old s) (moved e)) (is_own s e) (numbers_from 0 (length s.vars))
    (λ v. ap (λ b. b && not (contains s.left.vars v)) (moved_stands s.left.vars s.accesses v e))

-- ---- values
-- the tensors as the written statement numbers its operands
abbrev pub behind_old : (ℕ → List ℕ → ℕ) → ℕ → List ℕ → ℕ
behind_old values tensor = values (tensor + 1)

module _ (a : Arithmetic) (values : ℕ → List ℕ → ℕ) (vars : List ℕ) (accesses : List Access) (point : ℕ → ℕ) where
  moved_access_value : (xs : List Access) (k : ℕ) → access_value_or_zero a values point (slice_get (map moved_access xs) k)
      ≡ access_value_or_zero a (behind_old values) point (slice_get xs k)
  moved_access_value [] k = refl
  moved_access_value (access ∷ xs) zero = refl
  moved_access_value (access ∷ xs) (suc k) = moved_access_value xs k

  mutual
    moved_value : (e : Expr) → value_of a values (accesses_with_old vars accesses) point (moved e)
        ≡ value_of a (behind_old values) accesses point e
    moved_value (Num n) = refl
    moved_value (AccessOf k) =
        let next : k + 1 ≡ suc k = omega arith in
        ap (λ n. access_value_or_zero a values point (slice_get (accesses_with_old vars accesses) n)) next
        ∙ moved_access_value accesses k
    moved_value (Binary' o p e q f) = λ i. applied a o (moved_value_in e i) (moved_value_in f i)
    moved_value (Neg' p e) = ap (minus a) (moved_value_in e)

    moved_value_in : {m : _} (e : Row_of-Expr m) → value_of_in a values (accesses_with_old vars accesses) point (moved_in e)
        ≡ value_of_in a (behind_old values) accesses point e
    moved_value_in end_of-Expr = refl
    moved_value_in (more_of-Expr e rest) = moved_value e

module _ (a : Arithmetic) (s : Statement) (values : ℕ → List ℕ → ℕ) (ranges : ℕ → ℕ) (point : ℕ → ℕ) where
  moved_sum : (t : Term) → term_sum a (with_old s) values ranges point (moved_term t) ≡ term_sum a s (behind_old values) ranges point t
  moved_sum t =
      ap (λ own. sum_over a ranges own (λ p. term_value a values (with_old s).accesses p (moved_term t)) point) (moved_own s t.expr)
      ∙ sum_over_same a ranges (own_variables s t) (λ p. term_value a values (with_old s).accesses p (moved_term t))
      (λ p. term_value a (behind_old values) s.accesses p t)
      (λ p. ap (λ x. cond t.negated (minus a x) x) (moved_value a values s.left.vars s.accesses p t.expr)) point

  old_sum : term_sum a (with_old s) values ranges point (plain_term (AccessOf 0)) ≡ values 1 (coords_at point s.left.vars)
  old_sum = ap (λ own. sum_over a ranges own (λ p. term_value a values (with_old s).accesses p (plain_term (AccessOf 0))) point) (old_own s)

  moved_sums : (ts : List Term) → map (term_sum a (with_old s) values ranges point) (map moved_term ts)
      ≡ map (term_sum a s (behind_old values) ranges point) ts
  moved_sums [] = refl
  moved_sums (t ∷ ts) = λ i. moved_sum t i ∷ moved_sums ts i

-- a statement with the old tensor has its value, and that of the written statement added
pub with_old_value : (a : Arithmetic) (s : Statement) (values : ℕ → List ℕ → ℕ) (ranges : ℕ → ℕ) (coords : List ℕ)
    → statement_value a (with_old s) values ranges coords
    ≡ a.plus (values 1 (coords_at (point_of s.left.vars coords) s.left.vars)) (statement_value a s (behind_old values) ranges coords)
with_old_value a s values ranges coords =
    let point = point_of s.left.vars coords in
    ap (λ ts. total_of a (map (term_sum a (with_old s) values ranges point) ts)) (with_old_terms s)
    ∙ (λ i. a.plus (old_sum a s values ranges point i) (total_of a (moved_sums a s values ranges point (terms s.expr) i)))
