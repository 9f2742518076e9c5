-- A statement whose inner sums stay, whatever its other sums and its expression become: what reads inner sums alone means the same.
use Rattle.std.specs.Prelude.{◌≡◌, ◌⊎◌, ℕ, zero, suc, ◌+◌, ◌-◌, ◌<◌, ◌≤◌, Bool, true, nat_eq, not, ◌||◌, ◌&&◌, List, [], ◌∷◌, ◌++◌, length}
use Rattle.std.specs.Prelude.{Some, slice_get, refl}
use Rattle.std.proofs.Common.{◌∙◌, sym, ap, subst, arith, inl, inr}
use Rattle.numbers.proofs.Sums.{sum_same}
use Rattle.index_notation.specs.Statement.{AccessesUnder, AccessesUnder_in, IsNumberedWithSums, numbers_from}
use Rattle.index_notation.specs.declared.syntax.Access.{Access}
use Rattle.index_notation.specs.declared.syntax.Expr.{Expr, Num, Access as AccessOf, Binary', Neg', Row_of-Expr, end_of-Expr, more_of-Expr}
use Rattle.index_notation.specs.declared.syntax.NestedSum.{NestedSum}
use Rattle.index_notation.specs.declared.syntax.Statement.{Statement}
use Rattle.expr_terms.specs.Nested.{flat}
use Rattle.expr_terms.specs.Points.{with_coordinate}
use Rattle.expr_terms.specs.Terms.{contains, is_at_access, stands_in, stands_inside}
use Rattle.expr_terms.specs.Value.{applied, minus}
use Rattle.expr_terms.proofs.NestedLaws.{accesses_kept}
use Rattle.nested_sums.specs.Multiplied.{with_sums}
use Rattle.nested_sums.specs.Pieces.{AreInner, AreInner_in}
use Rattle.nested_sums.proofs.BoundVariables.{inside_under}
use Rattle.nested_sums.proofs.FreeVariables.{stands_in_sum}
use Rattle.nested_sums.proofs.Meaning.{Meaning, meaning, meaning_in}
use Rattle.nested_sums.proofs.Told.{get_first}
use Rattle.nested_sums.proofs.Tellings.{Telling, Tells, meaning_at}

pub get_some : {A : Type 0} (xs : List A) (n : ℕ) → n < length xs → (x : A) × (slice_get xs n ≡ Some x)
get_some [] n h = absurd (omega (arith, h))
get_some (x ∷ xs) zero h = (x, refl)
get_some (x ∷ xs) (suc n) h = get_some xs n (omega (arith, h))

pub before_or_behind : (k n : ℕ) → (k < n) ⊎ (k ≡ n + (k - n))
before_or_behind k n = grind arith

module _ (T : Telling) (tells : Tells T) (s : Statement) (sums : List NestedSum) (expr : Expr)
    (numbered : IsNumberedWithSums s) (other : IsNumberedWithSums (with_sums s sums expr)) (is_inner : ℕ → Bool)
    (kept : (n : ℕ) (sum : NestedSum) → slice_get s.sums n ≡ Some sum → is_inner n ≡ true → slice_get sums n ≡ Some sum)
    (insides : (n : ℕ) (sum : NestedSum) → slice_get s.sums n ≡ Some sum → is_inner n ≡ true
    → AreInner is_inner (length s.accesses) sum.inside) where
  abbrev m : Meaning
  m = meaning_at T s

  abbrev m' : Meaning
  m' = meaning_at T (with_sums s sums expr)

  -- an expression means the same, and the same variables stand in it
  pub record IsSame (e : Expr) : Type 0 where
    pub means : (p : ℕ → ℕ) → meaning m' p e ≡ meaning m p e
    pub stands : (v : ℕ) → stands_in m'.accesses v e ≡ stands_in m.accesses v e

  access_same : (k : ℕ) → k < length s.accesses → IsSame (AccessOf k)
  access_same k under = record {
    means = λ p. tells.accesses s numbered sums expr other k under p;
    stands = λ v. ap (is_at_access v) (at (with_sums s sums expr) refl ∙ sym (at s refl));
  }
    where
      at : (t : Statement) → t.accesses ≡ s.accesses → slice_get (flat t).accesses k ≡ slice_get s.accesses k
      at t same =
          let more = accesses_kept (length t.vars) t.accesses (length t.tensors) t.sums in
          ap (λ (l : List Access). slice_get l k) more.1
          ∙ ap (λ (l : List Access). slice_get (l ++ more.0) k) same ∙ get_first s.accesses more.0 k under

  module _ (bound : ℕ) (few : bound ≤ length s.sums) (below : (n : ℕ) (sum : NestedSum) → n < bound → slice_get s.sums n ≡ Some sum
      → is_inner n ≡ true → IsSame sum.inside) where
    sum_same_there : (n : ℕ) → n < bound → is_inner n ≡ true → IsSame (AccessOf (length s.accesses + n))
    sum_same_there n under inner =
        let found = get_some s.sums n (omega (arith, under, few)) in
        let sum : NestedSum = found.0 in
        let inside = below n sum under found.1 inner in
        record {
          means = λ p.
              (tells.sums (with_sums s sums expr) other n sum (kept n sum found.1 inner)).value p
              ∙ sum_same T.a (T.ranges sum.var) (λ x. meaning m' (with_coordinate p sum.var x) sum.inside)
              (λ x. meaning m (with_coordinate p sum.var x) sum.inside) (λ x h. inside.means (with_coordinate p sum.var x))
              ∙ sym ((tells.sums s numbered n sum found.1).value p);
          stands = λ v.
              stands_in_sum (with_sums s sums expr) other n sum (kept n sum found.1 inner) v
              ∙ ap (λ b. (b && not (nat_eq v sum.var)) && contains (numbers_from 0 (length s.vars)) v) (inside.stands v)
              ∙ sym (stands_in_sum s numbered n sum found.1 v);
        }

    leaf_same : (k : ℕ) → k < length s.accesses + bound → AreInner is_inner (length s.accesses) (AccessOf k) → IsSame (AccessOf k)
    leaf_same k under inner = elim (before_or_behind k (length s.accesses)) [
      | inl h ↦ access_same k h
      | inr h ↦ subst (λ j. IsSame (AccessOf j)) (sym h)
          (sum_same_there (k - length s.accesses) (omega (arith, under, h)) (inner (k - length s.accesses) h))
    ]

    abbrev IsSameRow : {r : _} → Row_of-Expr r → Type 0
    IsSameRow e =
        ((p : ℕ → ℕ) → meaning_in m' p e ≡ meaning_in m p e)
        × ((v : ℕ) → stands_inside m'.accesses v e ≡ stands_inside m.accesses v e)

    mutual
      expr_same : (e : Expr) → AccessesUnder (length s.accesses + bound) e → AreInner is_inner (length s.accesses) e → IsSame e
      expr_same (Num k) under inner = record { means = λ p. refl; stands = λ v. refl }
      expr_same (AccessOf k) under inner = leaf_same k under inner
      expr_same (Binary' o q e r f) under inner =
          let first = row_same e under.0 inner.0 in
          let second = row_same f under.1 inner.1 in
          record {
            means = λ p i. applied T.a o (first.0 p i) (second.0 p i);
            stands = λ v i. first.1 v i || second.1 v i;
          }
      expr_same (Neg' q e) under inner =
          let part = row_same e under inner in
          record { means = λ p. ap (minus T.a) (part.0 p); stands = part.1 }

      row_same : {r : _} (e : Row_of-Expr r) → AccessesUnder_in (length s.accesses + bound) e
          → AreInner_in is_inner (length s.accesses) e → IsSameRow e
      row_same end_of-Expr under inner = ((λ p. refl), (λ v. refl))
      row_same (more_of-Expr e rest) under inner =
          let whole = expr_same e under inner in (whole.means, whole.stands)

  insides_same : (bound : ℕ) → bound ≤ length s.sums → (n : ℕ) (sum : NestedSum) → n < bound → slice_get s.sums n ≡ Some sum
      → is_inner n ≡ true → IsSame sum.inside
  insides_same zero few n sum below at inner = absurd (omega (arith, below))
  insides_same (suc bound) few n sum below at inner =
      let fewer : bound ≤ length s.sums = omega (arith, few) in
      by (within n bound below) (λ l. insides_same bound fewer n sum l at inner)
      (λ e. expr_same bound fewer (insides_same bound fewer) sum.inside
      (subst (λ k. AccessesUnder (length s.accesses + k) sum.inside) e
      (inside_under (length s.vars) (length s.accesses) s.sums n sum numbered.sums at)) (insides n sum at inner))
    where
      within : (n bound : ℕ) → n < suc bound → (n < bound) ⊎ (n ≡ bound)
      within n bound h = grind (arith, h)

      by : (n < bound) ⊎ (n ≡ bound) → (n < bound → IsSame sum.inside) → (n ≡ bound → IsSame sum.inside) → IsSame sum.inside
      by (inl h) first second = first h
      by (inr h) first second = second h

  pub same_everywhere : (e : Expr) → AccessesUnder (length s.accesses + length s.sums) e → AreInner is_inner (length s.accesses) e
      → IsSame e
  same_everywhere e under inner =
      expr_same (length s.sums) (omega arith) (insides_same (length s.sums) (omega arith)) e under inner
