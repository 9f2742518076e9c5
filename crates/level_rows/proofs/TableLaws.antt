-- The order of a table's rows.
use Rattle.std.specs.Prelude.{◌≡◌, ◌⊎◌, ℕ, zero, suc, ◌+◌, ◌-◌, ◌≤◌, ◌<◌}
use Rattle.std.proofs.Common.{◌∙◌, sym, subst, arith, inl, inr}
use Rattle.std.proofs.lemmas.Bool.{cases_lt, cases_order}
use Rattle.level_rows.specs.Tables.{Agree, IsBefore, Increase}

pub agree_sym : (coords : ℕ → ℕ → ℕ) (n i j : ℕ) → Agree coords n i j → Agree coords n j i
agree_sym coords n i j a d h = sym (a d h)

pub agree_trans : (coords : ℕ → ℕ → ℕ) (n i j k : ℕ) → Agree coords n i j → Agree coords n j k → Agree coords n i k
agree_trans coords n i j k a b d h = a d h ∙ b d h

pub agree_less : (coords : ℕ → ℕ → ℕ) (n m i j : ℕ) → n ≤ m → Agree coords m i j → Agree coords n i j
agree_less coords n m i j h a d l = a d (omega (arith, h, l))

pub agree_more : (coords : ℕ → ℕ → ℕ) (n i j : ℕ) → Agree coords n i j → coords n i ≡ coords n j → Agree coords (suc n) i j
agree_more coords n i j a is d h = by_order (cases_lt d n)
  where
    by_order : (d < n) ⊎ (n ≤ d) → coords d i ≡ coords d j
    by_order (inl l) = a d l
    by_order (inr l) = let same : d ≡ n = omega (arith, h, l) in subst (λ e. coords e i ≡ coords e j) (sym same) is

before_trans : (coords : ℕ → ℕ → ℕ) (order i j k : ℕ) → IsBefore coords order i j → IsBefore coords order j k → IsBefore coords order i k
before_trans coords order i j k p q = by_order (cases_order p.0 q.0)
  where
    by_order : (p.0 ≡ q.0) ⊎ ((p.0 < q.0) ⊎ (q.0 < p.0)) → IsBefore coords order i k
    by_order (inl same) =
        let less = p.3 in
        let more = subst (λ d. coords d j < coords d k) (sym same) q.3 in
        (p.0, p.1, agree_trans coords p.0 i j k p.2 (subst (λ d. Agree coords d j k) (sym same) q.2), omega (arith, less, more))
    by_order (inr (inl first)) =
        let less = p.3 in
        let same = q.2 p.0 first in
        (p.0, p.1, agree_trans coords p.0 i j k p.2 (agree_less coords p.0 q.0 j k (omega (arith, first)) q.2), omega (arith, less, same))
    by_order (inr (inr later)) =
        let less = q.3 in
        let same = p.2 q.0 later in
        (q.0, q.1, agree_trans coords q.0 i j k (agree_less coords q.0 p.0 i j (omega (arith, later)) p.2) q.2, omega (arith, less, same))

before_far : (coords : ℕ → ℕ → ℕ) (order count i more : ℕ) → Increase coords order count → i + suc more < count
    → IsBefore coords order i (i + suc more)
before_far coords order count i zero up h = let next : suc i ≡ i + 1 = omega arith in
    subst (λ j. IsBefore coords order i j) next (up i (omega (arith, h)))
before_far coords order count i (suc more) up h =
    let next : suc (i + suc more) ≡ i + suc (suc more) = omega arith in
    subst (λ j. IsBefore coords order i j) next
    (before_trans coords order i (i + suc more) (suc (i + suc more)) (before_far coords order count i more up (omega (arith, h)))
    (up (i + suc more) (omega (arith, h))))

-- an earlier row stands before a later one
pub before : (coords : ℕ → ℕ → ℕ) (order count i j : ℕ) → Increase coords order count → i < j → j < count → IsBefore coords order i j
before coords order count i j up less h =
    let at : i + suc (j - i - 1) ≡ j = omega (arith, less) in
    subst (λ k. IsBefore coords order i k) at (before_far coords order count i (j - i - 1) up (omega (arith, at, h)))

-- a row between two that agree agrees with them
pub between : (coords : ℕ → ℕ → ℕ) (order count n i j k : ℕ) → Increase coords order count → i < j → j < k → k < count → Agree coords n i k
    → Agree coords n i j
between coords order count n i j k up first second h a = by_order (cases_lt p.0 n)
  where
    p : IsBefore coords order i j
    p = before coords order count i j up first (omega (arith, second, h))

    q : IsBefore coords order j k
    q = before coords order count j k up second h

    never : p.0 < n → (p.0 ≡ q.0) ⊎ ((p.0 < q.0) ⊎ (q.0 < p.0)) → ⊥
    never within (inl same) =
        let less = p.3 in
        let more = subst (λ d. coords d j < coords d k) (sym same) q.3 in
        let ends = a p.0 within in
        omega (arith, less, more, ends)
    never within (inr (inl before)) = let less = p.3 in let same = q.2 p.0 before in let ends = a p.0 within in
        omega (arith, less, same, ends)
    never within (inr (inr after)) = let less = q.3 in let same = p.2 q.0 after in let ends = a q.0 (omega (arith, after, within)) in
        omega (arith, less, same, ends)

    by_order : (p.0 < n) ⊎ (n ≤ p.0) → Agree coords n i j
    by_order (inl within) = absurd (never within (cases_order p.0 q.0))
    by_order (inr beyond) = agree_less coords n p.0 i j beyond p.2

pub after : (coords : ℕ → ℕ → ℕ) (order count n i j k : ℕ) → Increase coords order count → i < j → j < k → k < count → Agree coords n i k
    → Agree coords n j k
after coords order count n i j k up first second h a =
    agree_trans coords n j i k (agree_sym coords n i j (between coords order count n i j k up first second h a)) a

-- of rows that agree above a level the later one's coordinate there is no smaller
pub coords_upto : (coords : ℕ → ℕ → ℕ) (order count n i j : ℕ) → Increase coords order count → i < j → j < count → Agree coords n i j
    → coords n i ≤ coords n j
coords_upto coords order count n i j up less h a = by_order (cases_order p.0 n)
  where
    p : IsBefore coords order i j
    p = before coords order count i j up less h

    by_order : (p.0 ≡ n) ⊎ ((p.0 < n) ⊎ (n < p.0)) → coords n i ≤ coords n j
    by_order (inl same) = let smaller = subst (λ d. coords d i < coords d j) same p.3 in omega (arith, smaller)
    by_order (inr (inl first)) = let smaller = p.3 in let ends = a p.0 first in absurd (omega (arith, smaller, ends))
    by_order (inr (inr later)) = let same = p.2 n later in omega (arith, same)
