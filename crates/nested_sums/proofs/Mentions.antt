-- How an expression mentions a variable is told by how its parts do.
use Rattle.std.specs.Prelude.{◌≡◌, ℕ, zero, suc, ◌+◌, ◌<◌, Bool, true, false, not, nat_eq, ◌&&◌, ◌||◌, List, [], ◌∷◌, ◌++◌, length, map}
use Rattle.std.specs.Prelude.{Option, None, Some, slice_get, if◌then◌else◌, refl}
use Rattle.std.proofs.Common.{◌∙◌, sym, ap, subst, arith}
use Rattle.std.proofs.lemmas.Bool.Decides.{nat_tests}
use denote.Hole.Carrier.{hidden}
use Rattle.index_notation.specs.Statement.{AccessesUnder, IsNumberedWithSums, numbers_from}
use Rattle.index_notation.specs.declared.operator.Operator.{Operator}
use Rattle.index_notation.specs.declared.syntax.Access.{Access}
use Rattle.index_notation.specs.declared.syntax.Expr.{Expr, Access as AccessOf, Binary, Neg}
use Rattle.index_notation.specs.declared.syntax.Expr.TheBlock.{hidden-the_row-Expr-0}
use Rattle.index_notation.specs.declared.syntax.NestedSum.{NestedSum}
use Rattle.index_notation.specs.declared.syntax.Statement.{Statement}
use Rattle.expr_terms.specs.Nested.{flat}
use Rattle.expr_terms.specs.Terms.{contains, is_at_access, stands_in}
use Rattle.expr_terms.proofs.NestedLaws.{accesses_kept}
use Rattle.nested_sums.specs.Bad.{Mention, access_mention, both_mention, first_where, is_bad, mention_of, stands_twice, sum_mention}
use Rattle.nested_sums.specs.Bound.{bound_by, bound_in, bounds, list_or_none, none_bound}
use Rattle.nested_sums.proofs.AddedPieces.{contains_append}
use Rattle.nested_sums.proofs.BoundVariables.{bound_by_sum}
use Rattle.nested_sums.proofs.FreeVariables.{contains_number, standing_below, stands_in_sum}
use Rattle.nested_sums.proofs.Told.{get_first, told_access}

pub twice_contains : (vs : List ℕ) (v : ℕ) → stands_twice vs v ≡ true → contains vs v ≡ true
twice_contains [] v h = cc
twice_contains (w ∷ vs) v h = by (nat_eq w v) refl h (twice_contains vs v)
  where
    by : (b : Bool) → nat_eq w v ≡ b → stands_twice (w ∷ vs) v ≡ true → (stands_twice vs v ≡ true → contains vs v ≡ true)
        → contains (w ∷ vs) v ≡ true
    by true e twice rest = ap (λ b. b || contains vs v) e
    by false e twice rest = ap (λ b. b || contains vs v) e
        ∙ rest (sym (ap (λ b. if b then contains vs v else stands_twice vs v) e) ∙ twice)

-- what stands twice adds nothing to what stands
twice_more : (t c : Bool) → (t ≡ true → c ≡ true) → (t || c) ≡ c
twice_more true c h = sym (h refl)
twice_more false c h = refl

or_false : (b : Bool) → (b || false) ≡ b
or_false true = refl
or_false false = refl

pub twice_append : (vs ws : List ℕ) (v : ℕ)
    → stands_twice (vs ++ ws) v ≡ (stands_twice vs v || (stands_twice ws v || (contains vs v && contains ws v)))
twice_append [] ws v = sym (or_false (stands_twice ws v))
twice_append (w ∷ vs) ws v = by (nat_eq w v) (twice_append vs ws v)
  where
    by : (b : Bool) → stands_twice (vs ++ ws) v ≡ (stands_twice vs v || (stands_twice ws v || (contains vs v && contains ws v)))
        → (if b then contains (vs ++ ws) v else stands_twice (vs ++ ws) v)
        ≡ ((if b then contains vs v else stands_twice vs v) || (stands_twice ws v || ((b || contains vs v) && contains ws v)))
    by true rest = contains_append vs ws v
        ∙ ap (λ c. contains vs v || c) (sym (twice_more (stands_twice ws v) (contains ws v) (twice_contains ws v)))
    by false rest = rest

get_mapped : {A B : Type 0} (f : A → B) (xs : List A) (k : ℕ) (x : A) → slice_get xs k ≡ Some x → slice_get (map f xs) k ≡ Some (f x)
get_mapped f [] k x at = cc
get_mapped f (y ∷ xs) zero x at = let same : y ≡ x = cc in ap (λ z. Some (f z)) same
get_mapped f (y ∷ xs) (suc k) x at = get_mapped f xs k x at

get_within : {A : Type 0} (xs : List A) (k : ℕ) (x : A) → slice_get xs k ≡ Some x → k < length xs
get_within [] k x at = cc
get_within (y ∷ xs) zero x at = omega arith
get_within (y ∷ xs) (suc k) x at = let rest = get_within xs k x at in omega (arith, rest)

map_long : {A B : Type 0} (f : A → B) (xs : List A) → length (map f xs) ≡ length xs
map_long f [] = refl
map_long f (x ∷ xs) = ap suc (map_long f xs)

turned : (x y : ℕ) → nat_eq x y ≡ nat_eq y x
turned x y = grind (arith, nat_tests)

-- an access binds none
pub bound_at_access : (s : Statement) (k : ℕ) (access : Access) → slice_get s.accesses k ≡ Some access
    → bound_in (bounds s) (AccessOf k) ≡ []
bound_at_access s k access at =
    let within = get_within s.accesses k access at in
    let long = map_long none_bound s.accesses in
    ap list_or_none (told_access bound_by s.sums (map none_bound s.accesses) k (omega (arith, within, long)))
    ∙ ap list_or_none (get_mapped none_bound s.accesses k access at)

pub mention_access : (s : Statement) (var k : ℕ) (access : Access) → slice_get s.accesses k ≡ Some access
    → access_mention var access ≡ mention_of s var (AccessOf k)
mention_access s var k access at =
    let within = get_within s.accesses k access at in
    let none = bound_at_access s k access at in
    let kept = accesses_kept (length s.vars) s.accesses (length s.tensors) s.sums in
    let free : stands_in (flat s).accesses var (AccessOf k) ≡ contains access.vars var =
    ap (λ (xs : List Access). is_at_access var (slice_get xs k)) kept.1
    ∙ ap (is_at_access var) (get_first s.accesses kept.0 k within ∙ at) in
    λ i. record {
      free = sym free i;
      bound = sym (ap (λ vs. contains vs var) none) i;
      twice = sym (ap (λ vs. stands_twice vs var) none) i;
    }

pub mention_sum : (s : Statement) → IsNumberedWithSums s → (var n : ℕ) (sum : NestedSum) → slice_get s.sums n ≡ Some sum
    → sum_mention var sum.var (mention_of s var sum.inside) ≡ mention_of s var (AccessOf (length s.accesses + n))
mention_sum s h var n sum at =
    let bound = bound_by_sum s h n sum at in
    λ i. record {
      free = free i;
      bound = sym (ap (λ vs. contains vs var) bound) i;
      twice = (by (nat_eq sum.var var) ∙ sym (ap (λ vs. stands_twice vs var) bound)) i;
    }
  where
    below : (b : Bool) → stands_in (flat s).accesses var sum.inside ≡ b
        → ((b && not (nat_eq var sum.var)) && contains (numbers_from 0 (length s.vars)) var) ≡ (b && not (nat_eq var sum.var))
    below true stands =
        let small : var < length s.vars = standing_below s h var sum.inside stands in
        let there = contains_number 0 (length s.vars) var (omega arith) (omega (arith, small)) in
        ap (λ b. not (nat_eq var sum.var) && b) there ∙ and_true (not (nat_eq var sum.var))
      where
        and_true : (b : Bool) → (b && true) ≡ b
        and_true true = refl
        and_true false = refl
    below false stands = refl

    free : (stands_in (flat s).accesses var sum.inside && not (nat_eq sum.var var))
        ≡ stands_in (flat s).accesses var (AccessOf (length s.accesses + n))
    free =
        ap (λ b. stands_in (flat s).accesses var sum.inside && not b) (turned sum.var var)
        ∙ sym (stands_in_sum s h n sum at var ∙ below (stands_in (flat s).accesses var sum.inside) refl)

    by : (b : Bool) → (stands_twice (bound_in (bounds s) sum.inside) var || (b && contains (bound_in (bounds s) sum.inside) var))
        ≡ (if b then contains (bound_in (bounds s) sum.inside) var else stands_twice (bound_in (bounds s) sum.inside) var)
    by true = twice_more (stands_twice (bound_in (bounds s) sum.inside) var) (contains (bound_in (bounds s) sum.inside) var)
        (twice_contains (bound_in (bounds s) sum.inside) var)
    by false = or_false (stands_twice (bound_in (bounds s) sum.inside) var)

pub mention_binary : (s : Statement) (var : ℕ) (o : Operator) (e f : Expr)
    → both_mention (mention_of s var e) (mention_of s var f) ≡ mention_of s var (Binary o e f)
unfolding hidden-the_row-Expr-0 hidden
mention_binary s var o e f = λ i. record {
  free = stands_in (flat s).accesses var e || stands_in (flat s).accesses var f;
  bound = sym (contains_append (bound_in (bounds s) e) (bound_in (bounds s) f) var) i;
  twice = sym (twice_append (bound_in (bounds s) e) (bound_in (bounds s) f) var) i;
}

pub mention_neg : (s : Statement) (var : ℕ) (e : Expr) → mention_of s var e ≡ mention_of s var (Neg e)
unfolding hidden-the_row-Expr-0 hidden
mention_neg s var e = refl

-- of what is made of its parts
pub made_both : (s : Statement) (var : ℕ) (whole : Expr) (o : Operator) (e f e' f' : Expr) (r x y : Mention) → whole ≡ Binary o e f
    → e' ≡ e → f' ≡ f → x ≡ mention_of s var e' → y ≡ mention_of s var f' → r ≡ both_mention x y → r ≡ mention_of s var whole
made_both s var whole o e f e' f' r x y is first second left right made =
    made ∙ ap (λ z. both_mention z y) (left ∙ ap (mention_of s var) first)
    ∙ ap (both_mention (mention_of s var e)) (right ∙ ap (mention_of s var) second)
    ∙ mention_binary s var o e f ∙ ap (mention_of s var) (sym is)

pub made_neg : (s : Statement) (var : ℕ) (whole e e' : Expr) (r : Mention) → whole ≡ Neg e → e' ≡ e → r ≡ mention_of s var e'
    → r ≡ mention_of s var whole
made_neg s var whole e e' r is inner made =
    made ∙ ap (mention_of s var) inner ∙ mention_neg s var e ∙ ap (mention_of s var) (sym is)

-- the first that passes a test
pub first_behind : (test : ℕ → Bool) (vs ws : List ℕ) → first_where test vs ≡ None → first_where test (vs ++ ws) ≡ first_where test ws
first_behind test [] ws none = refl
first_behind test (v ∷ vs) ws none = by (test v) refl none (first_behind test vs ws)
  where
    by : (b : Bool) → test v ≡ b → first_where test (v ∷ vs) ≡ None
        → (first_where test vs ≡ None → first_where test (vs ++ ws) ≡ first_where test ws)
        → first_where test (v ∷ (vs ++ ws)) ≡ first_where test ws
    by true e none rest =
        let some : Some v ≡ None = sym (ap (λ b. if b then Some v else first_where test vs) e) ∙ none in cc
    by false e none rest =
        ap (λ b. if b then Some v else first_where test (vs ++ ws)) e
        ∙ rest (sym (ap (λ b. if b then Some v else first_where test vs) e) ∙ none)

pub first_before : (test : ℕ → Bool) (vs ws : List ℕ) (x : ℕ) → first_where test vs ≡ Some x → first_where test (vs ++ ws) ≡ Some x
first_before test [] ws x some = cc
first_before test (v ∷ vs) ws x some = by (test v) refl some (first_before test vs ws x)
  where
    by : (b : Bool) → test v ≡ b → first_where test (v ∷ vs) ≡ Some x
        → (first_where test vs ≡ Some x → first_where test (vs ++ ws) ≡ Some x) → first_where test (v ∷ (vs ++ ws)) ≡ Some x
    by true e some rest =
        ap (λ b. if b then Some v else first_where test (vs ++ ws)) e
        ∙ sym (ap (λ b. if b then Some v else first_where test vs) e) ∙ some
    by false e some rest =
        ap (λ b. if b then Some v else first_where test (vs ++ ws)) e
        ∙ rest (sym (ap (λ b. if b then Some v else first_where test vs) e) ∙ some)

pub bound_of_binary : (told : List (List ℕ)) (o : Operator) (e f : Expr) → bound_in told (Binary o e f) ≡ bound_in told e ++ bound_in told f
unfolding hidden-the_row-Expr-0 hidden
bound_of_binary told o e f = refl

pub bound_of_neg : (told : List (List ℕ)) (e : Expr) → bound_in told (Neg e) ≡ bound_in told e
unfolding hidden-the_row-Expr-0 hidden
bound_of_neg told e = refl

-- what stands in an expression whose accesses are under a number
pub leaf_under : (n k : ℕ) (whole : Expr) → whole ≡ AccessOf k → AccessesUnder n whole → k < n
leaf_under n k whole is under = subst (AccessesUnder n) is under

sides_under : (n : ℕ) (o : Operator) (e f : Expr) → AccessesUnder n (Binary o e f) → AccessesUnder n e × AccessesUnder n f
unfolding hidden-the_row-Expr-0 hidden
sides_under n o e f h = (h.0, h.1)

inner_under : (n : ℕ) (e : Expr) → AccessesUnder n (Neg e) → AccessesUnder n e
unfolding hidden-the_row-Expr-0 hidden
inner_under n e h = h

pub first_under : (n : ℕ) (whole : Expr) (o : Operator) (e f e' : Expr) → whole ≡ Binary o e f → e' ≡ e → AccessesUnder n whole
    → AccessesUnder n e'
first_under n whole o e f e' is part h = subst (AccessesUnder n) (sym part) (sides_under n o e f (subst (AccessesUnder n) is h)).0

pub second_under : (n : ℕ) (whole : Expr) (o : Operator) (e f f' : Expr) → whole ≡ Binary o e f → f' ≡ f → AccessesUnder n whole
    → AccessesUnder n f'
second_under n whole o e f f' is part h = subst (AccessesUnder n) (sym part) (sides_under n o e f (subst (AccessesUnder n) is h)).1

pub negated_under : (n : ℕ) (whole e e' : Expr) → whole ≡ Neg e → e' ≡ e → AccessesUnder n whole → AccessesUnder n e'
negated_under n whole e e' is part h = subst (AccessesUnder n) (sym part) (inner_under n e (subst (AccessesUnder n) is h))

-- the first of an expression whose test passes, by its parts
module _ (s : Statement) where
  abbrev FirstIn : Expr → Option ℕ
  FirstIn e = first_where (is_bad s) (bound_in (bounds s) e)

  pub first_at_access : (k n : ℕ) (whole : Expr) → k < n → n ≡ length s.accesses → whole ≡ AccessOf k → None ≡ FirstIn whole
  first_at_access k n whole below many is =
      let got = access_got s.accesses k (omega (arith, below, many)) in
      sym (ap FirstIn is ∙ ap (first_where (is_bad s)) (bound_at_access s k got.0 got.1))
    where
      access_got : (xs : List Access) (i : ℕ) → i < length xs → (x : Access) × (slice_get xs i ≡ Some x)
      access_got [] i h = absurd (omega (arith, h))
      access_got (x ∷ xs) zero h = (x, refl)
      access_got (x ∷ xs) (suc i) h = access_got xs i (omega (arith, h))

  module _ (numbered : IsNumberedWithSums s) (k n : ℕ) (sum : NestedSum) (whole : Expr) (is : whole ≡ AccessOf k)
      (number : k ≡ length s.accesses + n) (at : slice_get s.sums n ≡ Some sum) where
    of_sum : (b : Bool) → is_bad s sum.var ≡ b → (if b then Some sum.var else FirstIn sum.inside) ≡ FirstIn whole
    of_sum b e =
        ap (λ c. if c then Some sum.var else FirstIn sum.inside) (sym e)
        ∙ sym (ap FirstIn is ∙ ap (λ j. FirstIn (AccessOf j)) number ∙ ap (first_where (is_bad s)) (bound_by_sum s numbered n sum at))

    pub first_is_sum : is_bad s sum.var ≡ true → Some sum.var ≡ FirstIn whole
    first_is_sum bad = of_sum true bad

    pub first_is_inside : (r : Option ℕ) → is_bad s sum.var ≡ false → r ≡ FirstIn sum.inside → r ≡ FirstIn whole
    first_is_inside r fine told = told ∙ of_sum false fine

  pub first_of_first : (whole : Expr) (o : Operator) (e f e' : Expr) (r : Option ℕ) (x : ℕ) → whole ≡ Binary o e f → e' ≡ e
      → r ≡ FirstIn e' → r ≡ Some x → Some x ≡ FirstIn whole
  first_of_first whole o e f e' r x is part told found =
      sym (ap FirstIn is ∙ ap (first_where (is_bad s)) (bound_of_binary (bounds s) o e f)
      ∙ first_before (is_bad s) (bound_in (bounds s) e) (bound_in (bounds s) f) x (ap FirstIn (sym part) ∙ sym told ∙ found))

  pub first_of_second : (whole : Expr) (o : Operator) (e f e' f' : Expr) (r q : Option ℕ) → whole ≡ Binary o e f → e' ≡ e → f' ≡ f
      → r ≡ FirstIn e' → r ≡ None → q ≡ FirstIn f' → q ≡ FirstIn whole
  first_of_second whole o e f e' f' r q is first second told none other =
      other ∙ ap FirstIn second
      ∙ sym (ap FirstIn is ∙ ap (first_where (is_bad s)) (bound_of_binary (bounds s) o e f)
      ∙ first_behind (is_bad s) (bound_in (bounds s) e) (bound_in (bounds s) f) (ap FirstIn (sym first) ∙ sym told ∙ none))

  pub first_of_negated : (whole e e' : Expr) (r : Option ℕ) → whole ≡ Neg e → e' ≡ e → r ≡ FirstIn e' → r ≡ FirstIn whole
  first_of_negated whole e e' r is part told =
      told ∙ ap FirstIn part ∙ sym (ap FirstIn is ∙ ap (first_where (is_bad s)) (bound_of_neg (bounds s) e))
