-- The ranges of variables one after another, and the first refusal.
use Rattle.std.specs.Prelude.{◌≡◌, ℕ, zero, suc, ◌+◌, ◌-◌, ◌<◌, List, [], ◌∷◌, ◌++◌, Result, Ok, Err, IfErr, refl}
use Rattle.std.specs.Result.{IsErrAnd}
use Rattle.std.proofs.Common.{◌∙◌, sym, ap, subst, arith}
use Rattle.index_notation.specs.Statement.{numbers_from}
use Rattle.expr_terms.specs.Ranges.{RangeFault, NoRange, RangeConflict, OutOfRange, and_range, ranges_or_first}
use Rattle.expr_terms.specs.Told.{MayRefuseRanges}
use Rattle.expr_terms.specs.declared.range_fault.RangeFault.TheVariants.{Memory}

numbers_split : (m a b c : ℕ) → c ≡ a + b → numbers_from m c ≡ numbers_from m a ++ numbers_from (m + a) b
numbers_split m zero b c e =
    let all : c ≡ b = omega arith in
    let here : m ≡ m + 0 = omega arith in
    ap (numbers_from m) all ∙ ap (λ k. numbers_from k b) here
numbers_split m (suc a) b zero e = absurd (omega arith)
numbers_split m (suc a) b (suc c) e =
    let there : m + 1 + a ≡ m + suc a = omega arith in
    ap (λ ns. m ∷ ns) (numbers_split (m + 1) a b c (omega arith) ∙ ap (λ k. numbers_from (m + 1) a ++ numbers_from k b) there)

module _ (range : ℕ → Result ℕ RangeFault) where
  -- behind ranges that are found, what comes of the others decides
  behind : (us vs xs ys : List ℕ) → ranges_or_first range us ≡ Ok xs → ranges_or_first range vs ≡ Ok ys
      → ranges_or_first range (us ++ vs) ≡ Ok (xs ++ ys)
  behind [] vs xs ys found more = let none : [] ≡ xs = cc in more ∙ ap (λ zs. Ok (zs ++ ys)) none
  behind (u ∷ us) vs xs ys found more =
      by (range u) (ranges_or_first range us) refl refl found (λ zs others. behind us vs zs ys others more)
    where
      by : (a : Result ℕ RangeFault) (b : Result (List ℕ) RangeFault) → range u ≡ a → ranges_or_first range us ≡ b → and_range a b ≡ Ok xs
          → ((zs : List ℕ) → ranges_or_first range us ≡ Ok zs → ranges_or_first range (us ++ vs) ≡ Ok (zs ++ ys))
          → ranges_or_first range (u ∷ us ++ vs) ≡ Ok (xs ++ ys)
      by (Err f) b first others is rest = absurd cc
      by (Ok x) (Err f) first others is rest = absurd cc
      by (Ok x) (Ok zs) first others is rest =
          let all : x ∷ zs ≡ xs = cc in
          ap (λ r. and_range r (ranges_or_first range (us ++ vs))) first ∙ ap (and_range (Ok x)) (rest zs others)
          ∙ ap (λ ws. Ok (ws ++ ys)) all

  behind_fault : (us vs xs : List ℕ) (f : RangeFault) → ranges_or_first range us ≡ Ok xs → ranges_or_first range vs ≡ Err f
      → ranges_or_first range (us ++ vs) ≡ Err f
  behind_fault [] vs xs f found fault = fault
  behind_fault (u ∷ us) vs xs f found fault =
      by (range u) (ranges_or_first range us) refl refl found (λ zs others. behind_fault us vs zs f others fault)
    where
      by : (a : Result ℕ RangeFault) (b : Result (List ℕ) RangeFault) → range u ≡ a → ranges_or_first range us ≡ b → and_range a b ≡ Ok xs
          → ((zs : List ℕ) → ranges_or_first range us ≡ Ok zs → ranges_or_first range (us ++ vs) ≡ Err f)
          → ranges_or_first range (u ∷ us ++ vs) ≡ Err f
      by (Err g) b first others is rest = absurd cc
      by (Ok x) (Err g) first others is rest = absurd cc
      by (Ok x) (Ok zs) first others is rest =
          ap (λ r. and_range r (ranges_or_first range (us ++ vs))) first ∙ ap (and_range (Ok x)) (rest zs others)

  pub next_range : (n : ℕ) (xs : List ℕ) (x : ℕ) → ranges_or_first range (numbers_from 0 n) ≡ Ok xs → range n ≡ Ok x
      → ranges_or_first range (numbers_from 0 (n + 1)) ≡ Ok (xs ++ x ∷ [])
  next_range n xs x found next =
      let here : 0 + n ≡ n = omega arith in
      ap (ranges_or_first range) (numbers_split 0 n 1 (n + 1) refl)
      ∙ behind (numbers_from 0 n) (numbers_from (0 + n) 1) xs (x ∷ []) found (ap (λ k. and_range (range k) (Ok [])) here
      ∙ ap (λ r. and_range r (Ok [])) next)

  pub first_refusal : (n count : ℕ) (xs : List ℕ) (f : RangeFault) → n < count → ranges_or_first range (numbers_from 0 n) ≡ Ok xs
      → range n ≡ Err f → ranges_or_first range (numbers_from 0 count) ≡ Err f
  first_refusal n count xs f below found next =
      let here : 0 + n ≡ n = omega arith in
      let rest : ℕ = count - n - 1 in
      let all : count ≡ n + suc rest = omega arith in
      ap (ranges_or_first range) (numbers_split 0 n (suc rest) count all)
      ∙ behind_fault (numbers_from 0 n) (numbers_from (0 + n) (suc rest)) xs f found
      (ap (λ k. and_range (range k) (ranges_or_first range (numbers_from (0 + n + 1) rest))) here
      ∙ ap (λ r. and_range r (ranges_or_first range (numbers_from (0 + n + 1) rest))) next)

-- one variable's refusal is that of all, if it is the first
pub passes_on : (one : Result ℕ RangeFault) (all : Result (List ℕ) RangeFault) (f : RangeFault) → (one ≡ Err f → all ≡ Err f)
    → MayRefuseRanges one f → MayRefuseRanges all f
passes_on one all (NoRange v) same may = same may
passes_on one all (RangeConflict v first other) same may = same may
passes_on one all (OutOfRange tensor coordinate range) same may = same may
passes_on one all (Memory error) same may = tt

-- a fault that is handed on
pub handed_on : {A B : Type 0} (told : Result A RangeFault) (r : Result B RangeFault) (f : RangeFault) → IsErrAnd r (λ g. g ≡ f)
    → MayRefuseRanges told f → IfErr r (MayRefuseRanges told)
handed_on told (Ok x) f is may = tt
handed_on told (Err g) f is may = subst (MayRefuseRanges told) (sym is) may
