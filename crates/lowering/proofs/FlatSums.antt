-- The statement that reads each of a statement's nested sums as a tensor has its sums behind the accesses of tensors.
use Rattle.std.specs.Prelude.{◌≡◌, ◌⊎◌, ℕ, zero, suc, ◌+◌, ◌≤◌, ◌<◌, nat_eq, not, Bool, true, false, ◌||◌}
use Rattle.std.specs.Prelude.{List, [], ◌∷◌, ◌++◌, length, Some, slice_get, slice_index_or, refl}
use Rattle.std.proofs.Common.{◌∙◌, sym, ap, subst, arith, inl, inr, append_assoc, length-append}
use Rattle.std.proofs.lemmas.Bool.Decides.{nat_tests}
use Rattle.format_spec.specs.declared.format.FormatLevel.{FormatLevel}
use Rattle.index_notation.specs.Statement.{AccessesUnder, AccessesUnder_in, AreSums, IsNumberedWithSums, IsRead, numbers_from}
use Rattle.index_notation.specs.declared.syntax.Access.{Access}
use Rattle.index_notation.specs.declared.syntax.Expr.{Expr, Num, Access as AccessOf, Binary', Neg', Row_of-Expr, end_of-Expr, more_of-Expr}
use Rattle.index_notation.specs.declared.syntax.NestedSum.{NestedSum}
use Rattle.index_notation.specs.declared.syntax.Statement.{Statement}
use Rattle.lists.specs.Each.{Each}
use Rattle.expr_terms.specs.Nested.{accesses_with, flat, free_in, is_free, sum_access}
use Rattle.expr_terms.specs.Terms.{contains, is_at_access, stands_in, stands_inside}
use Rattle.expr_terms.proofs.NestedLaws.{accesses_kept, accesses_longer, flat_numbered}
use Rattle.concrete_notation.proofs.Points.{contains_filtered, each_contained}
use Rattle.lowering.specs.Layouts.{levels_of}
use Rattle.lowering.specs.Sums.{HasSums, first_sum, no_sum, sum_at, vars_of}
use Rattle.lowering.proofs.Standing.{number_in}
use Rattle.lowering.proofs.Through.{so_both, sum_of_list}

-- the accesses before that of a sum, and those behind it
record SumSplit (vars : ℕ) (all : List Access) (base tensor n : ℕ) (sum : NestedSum) : Type 0 where
  front : List Access
  more : List Access
  is : all ≡ front ++ (sum_access vars front (tensor + n) sum ∷ more)
  long : length front ≡ base + n

sum_split : (vars : ℕ) (accesses : List Access) (tensor : ℕ) (sums : List NestedSum) (n : ℕ) → n < length sums
    → SumSplit vars (accesses_with vars accesses tensor sums) (length accesses) tensor n (slice_index_or sums n no_sum)
sum_split vars accesses tensor [] n l = absurd (omega (arith, l))
sum_split vars accesses tensor (sum ∷ sums) zero l =
    let kept = accesses_kept vars (accesses ++ (sum_access vars accesses tensor sum ∷ [])) (tensor + 1) sums in record {
      front = accesses;
      more = kept.0;
      is = kept.1 ∙ append_assoc accesses (sum_access vars accesses tensor sum ∷ []) kept.0
          ∙ ap (λ t. accesses ++ (sum_access vars accesses t sum ∷ kept.0)) (let same : tensor ≡ tensor + 0 = omega arith in same);
      long = omega arith;
    }
sum_split vars accesses tensor (sum ∷ sums) (suc n) l =
    let one = sum_access vars accesses tensor sum in
    let rest = sum_split vars (accesses ++ (one ∷ [])) (tensor + 1) sums n (omega (arith, l)) in
    let longer : length (accesses ++ (one ∷ [])) ≡ length accesses + 1 = length-append accesses (one ∷ []) in
    let long = rest.long in record {
      front = rest.front;
      more = rest.more;
      is = rest.is ∙ ap (λ t. rest.front ++ (sum_access vars rest.front t (slice_index_or sums n no_sum) ∷ rest.more))
          (let same : tensor + 1 + n ≡ tensor + suc n = omega arith in same);
      long = omega (arith, long, longer);
    }

get_first : (xs ys : List Access) (k : ℕ) → k < length xs → slice_get (xs ++ ys) k ≡ slice_get xs k
get_first [] ys k l = absurd (omega (arith, l))
get_first (x ∷ xs) ys zero l = refl
get_first (x ∷ xs) ys (suc k) l = get_first xs ys k (omega (arith, l))

get_next : (xs : List Access) (y : Access) (ys : List Access) → slice_get (xs ++ (y ∷ ys)) (length xs) ≡ Some y
get_next [] y ys = refl
get_next (x ∷ xs) y ys = get_next xs y ys

each_front : (P : Access → Type 0) (xs ys : List Access) → Each P (xs ++ ys) → Each P xs
each_front P [] ys h = tt
each_front P (x ∷ xs) ys h = (h.0, each_front P xs ys h.1)

either_so : (b c : Bool) → (b || c) ≡ true → (b ≡ true) ⊎ (c ≡ true)
either_so true c h = inl refl
either_so false c h = inr h

module _ (v : ℕ) where
  mutual
    -- what stands in an expression over the first accesses stands there before those that follow
    stands_first : (xs ys : List Access) (e : Expr) → AccessesUnder (length xs) e → stands_in (xs ++ ys) v e ≡ stands_in xs v e
    stands_first xs ys (Num n) h = refl
    stands_first xs ys (AccessOf k) h = ap (is_at_access v) (get_first xs ys k h)
    stands_first xs ys (Binary' o p e q f) h =
        λ i. stands_first_in xs ys e h.0 i || stands_first_in xs ys f h.1 i
    stands_first xs ys (Neg' p e) h = stands_first_in xs ys e h

    stands_first_in : {m : _} (xs ys : List Access) (row : Row_of-Expr m) → AccessesUnder_in (length xs) row
        → stands_inside (xs ++ ys) v row ≡ stands_inside xs v row
    stands_first_in xs ys end_of-Expr h = refl
    stands_first_in xs ys (more_of-Expr e rest) h = stands_first xs ys e h

  module _ (tensors vars : ℕ) (accesses : List Access) (each : Each (IsRead tensors vars) accesses) where
    at_below : (xs : List Access) (k : ℕ) → Each (IsRead tensors vars) xs → is_at_access v (slice_get xs k) ≡ true → v < vars
    at_below [] k h at = cc
    at_below (x ∷ xs) zero h at = each_contained (λ w. w < vars) x.vars h.0.vars_stand v at
    at_below (x ∷ xs) (suc k) h at = at_below xs k h.1 at

    mutual
      stands_below : (e : Expr) → stands_in accesses v e ≡ true → v < vars
      stands_below (Num n) h = cc
      stands_below (AccessOf k) h = at_below accesses k each h
      stands_below (Binary' o p e q f) h = elim (either_so (stands_inside accesses v e) (stands_inside accesses v f) h) [
        | inl first ↦ stands_below_in e first
        | inr second ↦ stands_below_in f second
      ]
      stands_below (Neg' p e) h = stands_below_in e h

      stands_below_in : {m : _} (row : Row_of-Expr m) → stands_inside accesses v row ≡ true → v < vars
      stands_below_in end_of-Expr h = cc
      stands_below_in (more_of-Expr e rest) h = stands_below e h

outside : (xs : List (List FormatLevel)) (i : ℕ) → length xs ≤ i → slice_index_or xs i [] ≡ []
outside [] i h = refl
outside (x ∷ xs) zero h = absurd (omega (arith, h))
outside (x ∷ xs) (suc i) h = outside xs i (omega (arith, h))

module _ (s : Statement) (numbered : IsNumberedWithSums s) where
  abbrev all : List Access
  all = accesses_with (length s.vars) s.accesses (length s.tensors) s.sums

  first_is : first_sum (flat s) ≡ length s.accesses
  first_is = let longer = accesses_longer (length s.vars) s.accesses (length s.tensors) s.sums in omega (arith, longer)

  module _ (n : ℕ) (l : n < length s.sums) where
    split : SumSplit (length s.vars) all (length s.accesses) (length s.tensors) n (sum_at s n)
    split = sum_split (length s.vars) s.accesses (length s.tensors) s.sums n l

    at : slice_get all (first_sum (flat s) + n) ≡ Some (sum_access (length s.vars) split.front (length s.tensors + n) (sum_at s n))
    at =
        let long = split.long in
        let here = first_is in
        let number : first_sum (flat s) + n ≡ length split.front = omega (arith, long, here) in
        ap (slice_get all) number ∙ ap (λ xs. slice_get xs (length split.front)) split.is
        ∙ get_next split.front (sum_access (length s.vars) split.front (length s.tensors + n) (sum_at s n)) split.more

    is_free_there : (v : ℕ) → stands_in all v (sum_at s n).inside ≡ true
        → contains ((sum_at s n).var ∷ free_in (length s.vars) split.front (sum_at s n)) v ≡ true
    is_free_there v h = by (nat_eq (sum_at s n).var v) refl
      where
        under : AccessesUnder (length split.front) (sum_at s n).inside
        under = subst (λ k. AccessesUnder k (sum_at s n).inside) (sym split.long)
            (sum_of_list (length s.vars) (length s.accesses) s.sums numbered.sums n l).1

        there : stands_in split.front v (sum_at s n).inside ≡ true
        there =
            sym (stands_first v split.front
            (sum_access (length s.vars) split.front (length s.tensors + n) (sum_at s n) ∷ split.more) (sum_at s n).inside under)
            ∙ ap (λ (xs : List Access). stands_in xs v (sum_at s n).inside) (sym split.is) ∙ h

        below : v < length s.vars
        below =
            stands_below v (length (flat s).tensors) (length s.vars) split.front
            (each_front (IsRead (length (flat s).tensors) (length s.vars)) split.front
            (sum_access (length s.vars) split.front (length s.tensors + n) (sum_at s n) ∷ split.more)
            (subst (Each (IsRead (length (flat s).tensors) (length s.vars))) split.is (flat_numbered s numbered).right))
            (sum_at s n).inside there

        turned : (x y : ℕ) → nat_eq x y ≡ false → nat_eq y x ≡ false
        turned x y h = grind (arith, nat_tests, h)

        by : (b : Bool) → nat_eq (sum_at s n).var v ≡ b
            → (b || contains (free_in (length s.vars) split.front (sum_at s n)) v) ≡ true
        by true is = refl
        by false is =
            contains_filtered (is_free split.front (sum_at s n)) (numbers_from 0 (length s.vars)) v
            ∙ so_both (is_free split.front (sum_at s n) v) (contains (numbers_from 0 (length s.vars)) v)
            (so_both (stands_in split.front v (sum_at s n).inside) (not (nat_eq v (sum_at s n).var)) there
            (ap not (turned (sum_at s n).var v is)))
            (number_in 0 (length s.vars) v (omega arith) (let high : v < 0 + length s.vars = omega (arith, below) in high))

  -- where tensors alone have formats
  pub flat_has_sums : (formats : List (List FormatLevel)) → length formats ≤ length s.tensors → HasSums (flat s) formats
  flat_has_sums formats few = record {
    count = let longer = accesses_longer (length s.vars) s.accesses (length s.tensors) s.sums in omega (arith, longer);
    numbers = subst (λ k. AreSums (length s.vars) k s.sums) (sym first_is) numbered.sums;
    levels = λ n l. ap (levels_of formats) (at n l) ∙ outside formats (length s.tensors + n) (omega (arith, few));
    free = λ n l v h. ap (λ o. contains ((sum_at s n).var ∷ vars_of o) v) (at n l) ∙ is_free_there n l v h;
  }
