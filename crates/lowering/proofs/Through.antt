-- Which accesses are read through sums.
use Rattle.std.specs.Prelude.{◌≡◌, ◌⊎◌, ℕ, zero, suc, ◌+◌, ◌≤◌, ◌<◌, Bool, true, false, ◌||◌, ◌&&◌, List, [], ◌∷◌, length}
use Rattle.std.specs.Prelude.{slice_index_or, refl}
use Rattle.std.proofs.Common.{◌∙◌, sym, ap, subst, arith, inl, inr}
use Rattle.index_notation.specs.Statement.{AccessesUnder, AccessesUnder_in, AreSums}
use Rattle.index_notation.specs.declared.syntax.Expr.{Expr, Num, Access as AccessOf, Binary', Neg', Row_of-Expr, end_of-Expr, more_of-Expr}
use Rattle.index_notation.specs.declared.syntax.NestedSum.{NestedSum}
use Rattle.index_notation.specs.declared.syntax.Statement.{Statement}
use Rattle.loop_code.specs.Places.{EachAccess, EachAccess_in}
use Rattle.lowering.specs.Seeking.{uses}
use Rattle.lowering.specs.Sums.{first_sum, inside_of, no_sum, reads, sum_at, through}
use Rattle.lowering.proofs.Accesses.{of_access, or_left, or_right}

mutual
  pub under : (n : ℕ) (e : Expr) → AccessesUnder n e → EachAccess (λ k. k < n) e
  under n (Num k) h = tt
  under n (AccessOf k) h = h
  under n (Binary' o p e q f) h = (under_in n e h.0, under_in n f h.1)
  under n (Neg' p e) h = under_in n e h

  pub under_in : {m : _} (n : ℕ) (row : Row_of-Expr m) → AccessesUnder_in n row → EachAccess_in (λ k. k < n) row
  under_in n end_of-Expr h = tt
  under_in n (more_of-Expr e rest) h = under n e h

-- a sum of a list goes over one of the variables, and inside stand accesses and earlier sums
pub sum_of_list : (vars base : ℕ) (sums : List NestedSum) → AreSums vars base sums → (n : ℕ) → n < length sums
    → ((slice_index_or sums n no_sum).var < vars) × AccessesUnder (base + n) (slice_index_or sums n no_sum).inside
sum_of_list vars base [] are n l = absurd (omega (arith, l))
sum_of_list vars base (sum ∷ sums) are zero l =
    (are.0, subst (λ b. AccessesUnder b sum.inside) (let same : base ≡ base + 0 = omega arith in same) are.1)
sum_of_list vars base (sum ∷ sums) are (suc n) l =
    let rest = sum_of_list vars (base + 1) sums are.2 n (omega (arith, l)) in (
      rest.0,
      subst (λ b. AccessesUnder b (slice_index_or sums n no_sum).inside)
          (let same : base + 1 + n ≡ base + suc n = omega arith in same) rest.1,
    )

either_so : (b c : Bool) → (b || c) ≡ true → (b ≡ true) ⊎ (c ≡ true)
either_so true c h = inl refl
either_so false c h = inr h

pub both_so : (b c : Bool) → (b && c) ≡ true → (b ≡ true) × (c ≡ true)
both_so true c h = (refl, h)
both_so false c h = absurd (cc h)

pub so_both : (b c : Bool) → b ≡ true → c ≡ true → (b && c) ≡ true
so_both b c h g = ap (λ x. x && c) h ∙ g

less_or_same : (m n : ℕ) → m < suc n → (m < n) ⊎ (m ≡ n)
less_or_same m n l = grind (arith, l)

module _ (s : Statement) where
  -- what is used is read
  pub through_uses : (n : ℕ) (used : ℕ → Bool) (k : ℕ) → used k ≡ true → through s n used k ≡ true
  through_uses zero used k h = h
  through_uses (suc n) used k h =
      or_left (through s n used k) (used (first_sum s + n) && through s n (uses (inside_of s n)) k) (through_uses n used k h)

  pub through_more : (n : ℕ) (used others : ℕ → Bool) → ((k : ℕ) → used k ≡ true → others k ≡ true) → (k : ℕ)
      → through s n used k ≡ true → through s n others k ≡ true
  through_more zero used others f k h = f k h
  through_more (suc n) used others f k h =
      elim (either_so (through s n used k) (used (first_sum s + n) && through s n (uses (inside_of s n)) k) h) [
        | inl here ↦ or_left (through s n others k) (others (first_sum s + n) && through s n (uses (inside_of s n)) k)
            (through_more n used others f k here)
        | inr inside ↦ let t = both_so (used (first_sum s + n)) (through s n (uses (inside_of s n)) k) inside in
            or_right (through s n others k) (others (first_sum s + n) && through s n (uses (inside_of s n)) k)
            (so_both (others (first_sum s + n)) (through s n (uses (inside_of s n)) k) (f (first_sum s + n) t.0) t.1)
      ]

  pub through_less : (m n : ℕ) → m ≤ n → (used : ℕ → Bool) (k : ℕ) → through s m used k ≡ true → through s n used k ≡ true
  through_less m zero l used k h = subst (λ i. through s i used k ≡ true) (let same : m ≡ 0 = omega (arith, l) in same) h
  through_less m (suc n) l used k h = elim (less_or_same m (suc n) (omega (arith, l))) [
    | inl less ↦ or_left (through s n used k) (used (first_sum s + n) && through s n (uses (inside_of s n)) k)
        (through_less m n (omega (arith, less)) used k h)
    | inr same ↦ subst (λ i. through s i used k ≡ true) same h
  ]

  -- by one sum that is used
  pub found_so : (limit n : ℕ) (used : ℕ → Bool) (k : ℕ) → n < limit → used (first_sum s + n) ≡ true
      → through s n (uses (inside_of s n)) k ≡ true → through s limit used k ≡ true
  found_so zero n used k l h g = absurd (omega (arith, l))
  found_so (suc limit) n used k l h g = elim (less_or_same n limit l) [
    | inl less ↦ or_left (through s limit used k) (used (first_sum s + limit) && through s limit (uses (inside_of s limit)) k)
        (found_so limit n used k less h g)
    | inr same ↦ or_right (through s limit used k) (used (first_sum s + limit) && through s limit (uses (inside_of s limit)) k)
        (subst (λ i. (used (first_sum s + i) && through s i (uses (inside_of s i)) k) ≡ true) same
        (so_both (used (first_sum s + n)) (through s n (uses (inside_of s n)) k) h g))
  ]

  -- the sum that code reads
  pub sum_read : (n : ℕ) (sum : NestedSum) (sums : List NestedSum) → sums ≡ s.sums → sum ≡ slice_index_or sums n sum
      → n < length s.sums → sum ≡ sum_at s n
  sum_read n sum sums same is l = is ∙ ap (λ xs. slice_index_or xs n sum) same ∙ within s.sums n l
    where
      within : (xs : List NestedSum) (i : ℕ) → i < length xs → slice_index_or xs i sum ≡ slice_index_or xs i no_sum
      within [] i l = absurd (omega (arith, l))
      within (x ∷ xs) zero l = refl
      within (x ∷ xs) (suc i) l = within xs i (omega (arith, l))

  module _ (vars : ℕ) (are : AreSums vars (first_sum s) s.sums) where
    -- what stands inside a sum stands before it
    pub inside_below : (n : ℕ) → n < length s.sums → (k : ℕ) → uses (inside_of s n) k ≡ true → k < first_sum s + n
    inside_below n l k h =
        of_access (λ j. j < first_sum s + n) (sum_at s n).inside k
        (under (first_sum s + n) (sum_at s n).inside (sum_of_list vars (first_sum s) s.sums are n l).1) h

    -- a sum that isn't before the limit is read only where it is used
    pub through_above : (n : ℕ) → n ≤ length s.sums → (used : ℕ → Bool) (m : ℕ) → n ≤ m → through s n used (first_sum s + m) ≡ true
        → used (first_sum s + m) ≡ true
    through_above zero top used m l h = h
    through_above (suc n) top used m l h =
        elim (either_so (through s n used (first_sum s + m))
        (used (first_sum s + n) && through s n (uses (inside_of s n)) (first_sum s + m)) h) [
          | inl here ↦ through_above n (omega (arith, top)) used m (omega (arith, l)) here
          | inr inside ↦
              let t = both_so (used (first_sum s + n)) (through s n (uses (inside_of s n)) (first_sum s + m)) inside in
              let below = inside_below n (omega (arith, top)) (first_sum s + m)
              (through_above n (omega (arith, top)) (uses (inside_of s n)) m (omega (arith, l)) t.1) in
              absurd (omega (arith, below, l))
        ]

    -- what is read inside a sum that is read is read
    pub through_closed : (n : ℕ) → n ≤ length s.sums → (used : ℕ → Bool) (m : ℕ) → m < n → through s n used (first_sum s + m) ≡ true
        → (k : ℕ) → reads s m (inside_of s m) k ≡ true → through s n used k ≡ true
    through_closed zero top used m l h k inside = absurd (omega (arith, l))
    through_closed (suc n) top used m l h k inside =
        elim (either_so (through s n used (first_sum s + m))
        (used (first_sum s + n) && through s n (uses (inside_of s n)) (first_sum s + m)) h) [
          | inl here ↦ elim (less_or_same m n l) [
            | inl less ↦ or_left (through s n used k) (used (first_sum s + n) && through s n (uses (inside_of s n)) k)
                (through_closed n (omega (arith, top)) used m less here k inside)
            | inr same ↦ or_right (through s n used k) (used (first_sum s + n) && through s n (uses (inside_of s n)) k)
                (so_both (used (first_sum s + n)) (through s n (uses (inside_of s n)) k)
                (subst (λ i. used (first_sum s + i) ≡ true) same
                (through_above n (omega (arith, top)) used m (omega (arith, same)) here))
                (subst (λ i. through s i (uses (inside_of s i)) k ≡ true) same inside))
          ]
          | inr nested ↦
              let t = both_so (used (first_sum s + n)) (through s n (uses (inside_of s n)) (first_sum s + m)) nested in
              or_right (through s n used k) (used (first_sum s + n) && through s n (uses (inside_of s n)) k)
              (so_both (used (first_sum s + n)) (through s n (uses (inside_of s n)) k) t.0
              (elim (less_or_same m n l) [
                | inl less ↦ through_closed n (omega (arith, top)) (uses (inside_of s n)) m less t.1 k inside
                | inr same ↦
                    let below = inside_below n (omega (arith, top)) (first_sum s + m)
                    (through_above n (omega (arith, top)) (uses (inside_of s n)) m (omega (arith, same)) t.1) in
                    absurd (omega (arith, below, same))
              ]))
        ]

    -- inside a sum only earlier sums are read
    pub through_limit : (n top : ℕ) → top ≤ length s.sums → n < length s.sums → n ≤ top → (k : ℕ)
        → through s top (uses (inside_of s n)) k ≡ true → reads s n (inside_of s n) k ≡ true
    through_limit n zero high l low k h =
        subst (λ i. through s i (uses (inside_of s n)) k ≡ true) (let same : 0 ≡ n = omega (arith, low) in same) h
    through_limit n (suc top) high l low k h = elim (less_or_same n (suc top) (omega (arith, low))) [
      | inr same ↦ subst (λ i. through s i (uses (inside_of s n)) k ≡ true) (sym same) h
      | inl less ↦ elim (either_so (through s top (uses (inside_of s n)) k)
          (uses (inside_of s n) (first_sum s + top) && through s top (uses (inside_of s top)) k) h) [
            | inl here ↦ through_limit n top (omega (arith, high)) l (omega (arith, less)) k here
            | inr inside ↦
                let t = both_so (uses (inside_of s n) (first_sum s + top)) (through s top (uses (inside_of s top)) k) inside in
                let below = inside_below n l (first_sum s + top) t.0 in
                absurd (omega (arith, below, less))
          ]
    ]

    -- what is read is an access of the statement
    pub through_below : (n : ℕ) → n ≤ length s.sums → (count : ℕ) → first_sum s + length s.sums ≤ count → (used : ℕ → Bool)
        → ((k : ℕ) → used k ≡ true → k < count) → (k : ℕ) → through s n used k ≡ true → k < count
    through_below zero top count long used f k h = f k h
    through_below (suc n) top count long used f k h =
        elim (either_so (through s n used k) (used (first_sum s + n) && through s n (uses (inside_of s n)) k) h) [
          | inl here ↦ through_below n (omega (arith, top)) count long used f k here
          | inr inside ↦
              through_below n (omega (arith, top)) count long (uses (inside_of s n))
              (λ j is. let below = inside_below n (omega (arith, top)) j is in omega (arith, below, top, long)) k
              (both_so (used (first_sum s + n)) (through s n (uses (inside_of s n)) k) inside).1
        ]
