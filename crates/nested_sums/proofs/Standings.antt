-- What is told of an expression that is made of its parts, and of its leaves.
use Rattle.std.specs.Prelude.{◌≡◌, ◌⊎◌, ℕ, zero, suc, ◌+◌, ◌<◌, ◌≤◌, Bool, true, false, not, nat_eq, ◌&&◌, List, [], ◌∷◌, length, map, take}
use Rattle.std.specs.Prelude.{None, Some, slice_get, refl}
use Rattle.std.specs.List.{list_all}
use Rattle.std.proofs.Common.{◌∙◌, sym, ap, arith, get_or}
use Rattle.std.proofs.lemmas.Bool.{eqb-true, eqb-false}
use denote.Hole.Carrier.{hidden}
use Rattle.lists.proofs.Tests.{both_true}
use Rattle.index_notation.specs.Statement.{numbers_from}
use Rattle.index_notation.specs.declared.operator.Operator.{Operator}
use Rattle.index_notation.specs.declared.syntax.Access.{Access}
use Rattle.index_notation.specs.declared.syntax.Expr.{Expr, Access as AccessOf, Binary, Neg}
use Rattle.index_notation.specs.declared.syntax.Expr.TheBlock.{hidden-the_row-Expr-0}
use Rattle.index_notation.specs.declared.syntax.NestedSum.{NestedSum}
use Rattle.index_notation.specs.declared.syntax.Statement.{Statement}
use Rattle.expr_terms.proofs.Heights.{height}
use Rattle.nested_sums.specs.Inner.{Standing, both_standing, sum_standing, standing_in, standing_of, standings, access_standing}
use Rattle.nested_sums.specs.Inner.{none_stands, standing_or_none}
use Rattle.nested_sums.proofs.Told.{told_access, told_sum, told_beyond, told_final}

pub standing_binary : (told : List Standing) (o : Operator) (e f : Expr)
    → standing_in told (Binary o e f) ≡ both_standing (standing_in told e) (standing_in told f)
unfolding hidden-the_row-Expr-0 hidden
standing_binary told o e f = refl

pub standing_neg : (told : List Standing) (e : Expr) → standing_in told (Neg e) ≡ standing_in told e
unfolding hidden-the_row-Expr-0 hidden
standing_neg told e = refl

-- by what the recursion through sums goes down
abbrev pub weight : List NestedSum → ℕ
weight [] = 0
weight (sum ∷ sums) = suc (height sum.inside + weight sums)

pub lighter : (count : ℕ) (sums : List NestedSum) (n : ℕ) (sum : NestedSum) → n < count → slice_get sums n ≡ Some sum
    → weight (take n sums) + height sum.inside < weight (take count sums)
lighter count [] n sum below at = cc
lighter zero (first ∷ sums) n sum below at = absurd (omega (arith, below))
lighter (suc count) (first ∷ sums) zero sum below at =
    let same : first ≡ sum = cc in
    let high : height first.inside ≡ height sum.inside = ap (λ (s : NestedSum). height s.inside) same in
    omega (arith, high)
lighter (suc count) (first ∷ sums) (suc n) sum below at =
    let rest = lighter count sums n sum (omega (arith, below)) at in omega (arith, rest)

map_long : {A B : Type 0} (f : A → B) (xs : List A) → length (map f xs) ≡ length xs
map_long f [] = refl
map_long f (x ∷ xs) = ap suc (map_long f xs)

get_mapped : {A B : Type 0} (f : A → B) (xs : List A) (k : ℕ) (x : A) → slice_get xs k ≡ Some x → slice_get (map f xs) k ≡ Some (f x)
get_mapped f [] k x at = cc
get_mapped f (y ∷ xs) zero x at = let same : y ≡ x = cc in ap (λ z. Some (f z)) same
get_mapped f (y ∷ xs) (suc k) x at = get_mapped f xs k x at

get_within : {A : Type 0} (xs : List A) (k : ℕ) (x : A) → slice_get xs k ≡ Some x → k < length xs
get_within [] k x at = cc
get_within (y ∷ xs) zero x at = omega arith
get_within (y ∷ xs) (suc k) x at = let rest = get_within xs k x at in omega (arith, rest)

module _ (s : Statement) (order : List ℕ) (var : ℕ) (count : ℕ) where
  -- of an access
  pub standing_access : (k : ℕ) (access : Access) → slice_get s.accesses k ≡ Some access
      → standing_in (standings s (take count s.sums) order var) (AccessOf k) ≡ access_standing var access
  standing_access k access at =
      let long = map_long (access_standing var) s.accesses in
      let within = get_within s.accesses k access at in
      ap standing_or_none (told_access (standing_of order var) (take count s.sums) (map (access_standing var) s.accesses) k
      (omega (arith, long, within)) ∙ get_mapped (access_standing var) s.accesses k access at)

  -- of a sum
  pub standing_sum : (k n : ℕ) (sum : NestedSum) → k ≡ length s.accesses + n → n < count → slice_get s.sums n ≡ Some sum
      → standing_in (standings s (take count s.sums) order var) (AccessOf k)
      ≡ sum_standing order var sum.var (standing_in (standings s (take n s.sums) order var) sum.inside)
  standing_sum k n sum number below at =
      let long = map_long (access_standing var) s.accesses in
      let place : k ≡ length (map (access_standing var) s.accesses) + n = omega (arith, number, long) in
      ap (λ j. standing_or_none (slice_get (standings s (take count s.sums) order var) j)) place
      ∙ ap standing_or_none (told_sum (standing_of order var) count s.sums (map (access_standing var) s.accesses) n sum below at)

  -- and behind them
  pub standing_beyond : (k n : ℕ) → k ≡ length s.accesses + n → (count ≤ n) ⊎ (slice_get s.sums n ≡ None)
      → standing_in (standings s (take count s.sums) order var) (AccessOf k) ≡ none_stands
  standing_beyond k n number h =
      let long = map_long (access_standing var) s.accesses in
      let place : k ≡ length (map (access_standing var) s.accesses) + n = omega (arith, number, long) in
      ap (λ j. standing_or_none (slice_get (standings s (take count s.sums) order var) j)) place
      ∙ ap standing_or_none (told_beyond (standing_of order var) count s.sums (map (access_standing var) s.accesses) n h)

-- of what is made of its parts
pub made_binary : (told : List Standing) (whole : Expr) (o : Operator) (e f e' f' : Expr) (r x y : Standing) → whole ≡ Binary o e f
    → e' ≡ e → f' ≡ f → x ≡ standing_in told e' → y ≡ standing_in told f' → r ≡ both_standing x y → r ≡ standing_in told whole
made_binary told whole o e f e' f' r x y is first second left right made =
    made ∙ ap (λ z. both_standing z y) (left ∙ ap (standing_in told) first)
    ∙ ap (both_standing (standing_in told e)) (right ∙ ap (standing_in told) second)
    ∙ sym (standing_binary told o e f) ∙ ap (standing_in told) (sym is)

pub made_neg : (told : List Standing) (whole e e' : Expr) (r : Standing) → whole ≡ Neg e → e' ≡ e → r ≡ standing_in told e'
    → r ≡ standing_in told whole
made_neg told whole e e' r is inner made =
    made ∙ ap (standing_in told) inner ∙ sym (standing_neg told e) ∙ ap (standing_in told) (sym is)

-- the parts that are read of an expression are lower
pub part_lower : (t w : ℕ) (whole made e e' : Expr) → whole ≡ made → e' ≡ e → height e < height made → w + height whole ≡ t
    → w + height e' < t
part_lower t w whole made e e' is part lower at =
    let all : height whole ≡ height made = ap height is in
    let one : height e' ≡ height e = ap height part in
    omega (arith, lower, at, all, one)

pub get_none : {A : Type 0} (xs : List A) (k : ℕ) → slice_get xs k ≡ None → length xs ≤ k
get_none [] k none = omega arith
get_none (x ∷ xs) zero none = cc
get_none (x ∷ xs) (suc k) none = let rest = get_none xs k none in omega (arith, rest)

-- one number that fails a test is enough
pub all_fails : (p : ℕ → Bool) (n count k : ℕ) → n ≤ k → k < n + count → p k ≡ false → list_all p (numbers_from n count) ≡ false
all_fails p n zero k above below fails = absurd (omega (arith, above, below))
all_fails p n (suc count) k above below fails =
    by (nat_eq n k) refl (λ apart. all_fails p (n + 1) count k (omega (arith, above, apart)) (omega (arith, below)) fails)
  where
    by : (b : Bool) → nat_eq n k ≡ b → ((n ≡ k → ⊥) → list_all p (numbers_from (n + 1) count) ≡ false)
        → (p n && list_all p (numbers_from (n + 1) count)) ≡ false
    by true e rest = ap (λ b. b && list_all p (numbers_from (n + 1) count)) (ap p (eqb-true n k e) ∙ fails)
    by false e rest = ap (λ b. p n && b) (rest (eqb-false n k e)) ∙ and_false (p n)
      where
        and_false : (b : Bool) → (b && false) ≡ false
        and_false true = refl
        and_false false = refl

-- and those that pass it, with one more
pub all_more : (p : ℕ → Bool) (n count : ℕ) → list_all p (numbers_from n count) ≡ true → p (n + count) ≡ true
    → list_all p (numbers_from n (count + 1)) ≡ true
all_more p n count all last = let more : count + 1 ≡ suc count = omega arith in
    ap (λ k. list_all p (numbers_from n k)) more ∙ one_more n count all last
  where
    one_more : (n count : ℕ) → list_all p (numbers_from n count) ≡ true → p (n + count) ≡ true
        → list_all p (numbers_from n (suc count)) ≡ true
    one_more n zero all last = let here : n + 0 ≡ n = omega arith in ap (λ b. b && true) (ap p (sym here) ∙ last)
    one_more n (suc count) all last =
        let both = both_true (p n) (list_all p (numbers_from (n + 1) count)) all in
        let there : n + 1 + count ≡ n + suc count = omega arith in
        ap (λ b. b && list_all p (numbers_from (n + 1) (suc count))) both.0 ∙ one_more (n + 1) count both.1 (ap p there ∙ last)

-- of a whole sum, by its number
pub standing_whole : (s : Statement) (order : List ℕ) (var n : ℕ) (sum : NestedSum) → slice_get s.sums n ≡ Some sum
    → standing_or_none (slice_get (standings s s.sums order var) (length s.accesses + n))
    ≡ sum_standing order var sum.var (standing_in (standings s (take n s.sums) order var) sum.inside)
standing_whole s order var n sum at =
    let base = map (access_standing var) s.accesses in
    let long = map_long (access_standing var) s.accesses in
    let place : length s.accesses + n ≡ length base + n = omega (arith, long) in
    ap (λ k. standing_or_none (slice_get (standings s s.sums order var) k)) place
    ∙ ap standing_or_none (told_final (standing_of order var) s.sums base n sum at).0

-- an element that was indexed
pub get_is : {A : Type 0} (xs : List A) (n : ℕ) (x : A) → n < length xs → x ≡ get_or xs n x → slice_get xs n ≡ Some x
get_is [] n x within is = absurd (omega (arith, within))
get_is (y ∷ xs) zero x within is = ap Some (sym is)
get_is (y ∷ xs) (suc n) x within is = get_is xs n x (omega (arith, within)) is

pub not_is_true : (b : Bool) → not b ≡ true → b ≡ false
not_is_true true h = cc
not_is_true false h = refl

pub not_is_false : (b : Bool) → not b ≡ false → b ≡ true
not_is_false true h = refl
not_is_false false h = cc
