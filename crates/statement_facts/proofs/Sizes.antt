-- The size of a mode at which one variable alone stands.
use Rattle.std.specs.Prelude.{◌≡◌, ◌≢◌, ℕ, max, if◌then◌else◌}
use Rattle.std.specs.Prelude.{List, [], ◌∷◌, ◌++◌, map, Option, Some, None, option_to_list, slice_get, refl}
use Rattle.std.proofs.Common.{◌∙◌, ap, subst, arith, eq-eqb}
use Rattle.expr_terms.proofs.PointLaws.{unequal}
use Rattle.index_notation.specs.declared.syntax.Access.{Access}
use Rattle.expr_terms.specs.Ranges.{greatest_of, ranges_at}
use Rattle.statement_facts.specs.Alone.{Standing, Nothing, One, Several, StandsIn}

-- the ranges at a mode, where an access of the tensor has this variable there, or none, and where an access is another tensor's
pub ranges_there : (ranges : ℕ → ℕ) (tensor mode : ℕ) (first : Access) (accesses : List Access) (v : Option ℕ) → first.tensor ≡ tensor
    → slice_get first.vars mode ≡ v
    → ranges_at ranges tensor mode (first ∷ accesses) ≡ map ranges (option_to_list v) ++ ranges_at ranges tensor mode accesses
ranges_there ranges tensor mode first accesses v same is =
    ap (λ b. if b then (map ranges (option_to_list (slice_get first.vars mode)) ++ ranges_at ranges tensor mode accesses)
    else ranges_at ranges tensor mode accesses) (eq-eqb first.tensor tensor same)
    ∙ ap (λ o. map ranges (option_to_list o) ++ ranges_at ranges tensor mode accesses) is

pub ranges_elsewhere : (ranges : ℕ → ℕ) (tensor mode : ℕ) (first : Access) (accesses : List Access) → first.tensor ≢ tensor
    → ranges_at ranges tensor mode (first ∷ accesses) ≡ ranges_at ranges tensor mode accesses
ranges_elsewhere ranges tensor mode first accesses other =
    ap (λ b. if b then (map ranges (option_to_list (slice_get first.vars mode)) ++ ranges_at ranges tensor mode accesses)
    else ranges_at ranges tensor mode accesses) (unequal first.tensor tensor other)

-- which variables stand there is told alike by lists of the same ranges
pub stands_alike : (tensor mode : ℕ) (xs ys : List Access) (standing : Standing)
    → ((ranges : ℕ → ℕ) → ranges_at ranges tensor mode ys ≡ ranges_at ranges tensor mode xs) → StandsIn tensor mode xs standing
    → StandsIn tensor mode ys standing
stands_alike tensor mode xs ys Nothing same h = λ ranges. same ranges ∙ h ranges
stands_alike tensor mode xs ys (One v) same h = λ ranges. ap greatest_of (same ranges) ∙ h ranges
stands_alike tensor mode xs ys Several same h = tt

greatest_alone : (n m : ℕ) (ns : List ℕ) → greatest_of ns ≡ n → m ≡ n → greatest_of (m ∷ ns) ≡ n
greatest_alone n m ns is same = let most : max m (greatest_of ns) ≡ n = omega (arith, is, same) in most

-- an access whose variable is the first one
pub first_stands : (tensor mode v : ℕ) (first : Access) (accesses : List Access) → first.tensor ≡ tensor
    → slice_get first.vars mode ≡ Some v
    → StandsIn tensor mode accesses Nothing → StandsIn tensor mode (first ∷ accesses) (One v)
first_stands tensor mode v first accesses same is none = λ ranges.
    ap greatest_of (ranges_there ranges tensor mode first accesses (Some v) same is)
    ∙ greatest_zero (ranges v) (ranges_at ranges tensor mode accesses) (none ranges)
  where
    greatest_zero : (n : ℕ) (ns : List ℕ) → ns ≡ [] → greatest_of (n ∷ ns) ≡ n
    greatest_zero n ns is = ap (λ rest. greatest_of (n ∷ rest)) is ∙ (let one : max n 0 ≡ n = omega arith in one)

-- one more that has the same
pub again_stands : (tensor mode v : ℕ) (first : Access) (accesses : List Access) → first.tensor ≡ tensor
    → slice_get first.vars mode ≡ Some v
    → StandsIn tensor mode accesses (One v) → StandsIn tensor mode (first ∷ accesses) (One v)
again_stands tensor mode v first accesses same is one = λ ranges.
    ap greatest_of (ranges_there ranges tensor mode first accesses (Some v) same is)
    ∙ greatest_alone (ranges v) (ranges v) (ranges_at ranges tensor mode accesses) (one ranges) refl

-- with one variable more than stands in the others
pub none_before : (tensor mode v : ℕ) (standing : Standing) → standing ≡ Nothing → (first : Access) (accesses : List Access)
    → first.tensor ≡ tensor → slice_get first.vars mode ≡ Some v → StandsIn tensor mode accesses standing
    → StandsIn tensor mode (first ∷ accesses) (One v)
none_before tensor mode v standing is first accesses same at h =
    first_stands tensor mode v first accesses same at (subst (StandsIn tensor mode accesses) is h)

pub same_before : (tensor mode v w : ℕ) (standing : Standing) → standing ≡ One w → w ≡ v → (first : Access) (accesses : List Access)
    → first.tensor ≡ tensor → slice_get first.vars mode ≡ Some v → StandsIn tensor mode accesses standing
    → StandsIn tensor mode (first ∷ accesses) (One v)
same_before tensor mode v w standing is equal first accesses same at h =
    again_stands tensor mode v first accesses same at
    (subst (StandsIn tensor mode accesses) (is ∙ ap One equal) h)

-- an access of another tensor, and one without such a mode
pub other_tensor : (tensor mode : ℕ) (standing : Standing) (first : Access) → first.tensor ≢ tensor → (accesses : List Access)
    → StandsIn tensor mode accesses standing → StandsIn tensor mode (first ∷ accesses) standing
other_tensor tensor mode standing first other accesses h =
    stands_alike tensor mode accesses (first ∷ accesses) standing (λ ranges. ranges_elsewhere ranges tensor mode first accesses other) h

pub without_mode : (tensor mode : ℕ) (standing : Standing) (first : Access) → first.tensor ≡ tensor → slice_get first.vars mode ≡ None
    → (accesses : List Access) → StandsIn tensor mode accesses standing → StandsIn tensor mode (first ∷ accesses) standing
without_mode tensor mode standing first same at accesses h =
    stands_alike tensor mode accesses (first ∷ accesses) standing
    (λ ranges. ranges_there ranges tensor mode first accesses None same at) h
