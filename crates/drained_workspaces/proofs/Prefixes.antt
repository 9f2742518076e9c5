-- Rows with coordinates before their own, and the variables that have these coordinates.
use Rattle.std.specs.Prelude.{◌≡◌, ℕ, zero, suc, ◌+◌, ◌<◌, ◌≤◌, List, [], ◌∷◌, ◌++◌, length, All, refl}
use Rattle.std.specs.List.{range_with_len}
use Rattle.std.proofs.Common.{◌∙◌, sym, ap, subst, arith}
use Rattle.std.proofs.lemmas.List.{length-append}
use Rattle.std.proofs.lemmas.List.Elements.{All-nil, All-cons, All-append}
use Rattle.std.proofs.lemmas.List.FromFn.{length-range_with_len}
use Rattle.lists.specs.Each.{Each}
use Rattle.kernel_code.specs.declared.syntax.KStmt.{KStmt}
use Rattle.kernel_code.specs.Meaning.{State}
use Rattle.tensor_map.specs.Entries.{Entry}
use Rattle.result_targets.specs.Sinks.{Sink, VarsAre, AddsTo}
use Rattle.drained_workspaces.specs.Drained.{prefixed_row, prefixed}

-- one row among others
pub prefixed_between : (coords : List ℕ) (taken : List Entry) (row : Entry) (waiting : List Entry)
    → prefixed coords (taken ++ row ∷ waiting) ≡ prefixed coords taken ++ prefixed_row coords row ∷ prefixed coords waiting
prefixed_between coords [] row waiting = refl
prefixed_between coords (first ∷ taken) row waiting =
    ap (λ rows. prefixed_row coords first ∷ rows) (prefixed_between coords taken row waiting)

-- variables and more variables have numbers and more numbers
pub vars_both : (ys xs more others : List ℕ) (s : State) → VarsAre ys xs s → VarsAre more others s → VarsAre (ys ++ more) (xs ++ others) s
vars_both [] [] more others s h g = g
vars_both [] (x ∷ xs) more others s h g = absurd h
vars_both (y ∷ ys) [] more others s h g = absurd h
vars_both (y ∷ ys) (x ∷ xs) more others s h g = (h.0, vars_both ys xs more others s h.1 g)

-- they keep them while they stay
pub vars_stay : (P : ℕ → Type 0) (ys xs : List ℕ) (s t : State) → Each P ys → ((y : ℕ) → P y → t.vars y ≡ s.vars y) → VarsAre ys xs s
    → VarsAre ys xs t
vars_stay P [] [] s t each f h = tt
vars_stay P [] (x ∷ xs) s t each f h = h
vars_stay P (y ∷ ys) [] s t each f h = h
vars_stay P (y ∷ ys) (x ∷ xs) s t each f h = (f y each.0 ∙ h.0, vars_stay P ys xs s t each.1 f h.1)

-- so many numbers from one on are below all behind them
pub range_below : (first count free : ℕ) → first + count ≤ free → All (λ y. y < free) (range_with_len first count)
range_below first zero free h = All-nil (λ y. y < free)
range_below first (suc count) free h =
    All-cons (λ y. y < free) first (range_with_len (first + 1) count) (omega (arith, h))
    (range_below (first + 1) count free (omega (arith, h)))

-- one number more
pub range_more : (first count : ℕ) → range_with_len first (suc count) ≡ range_with_len first count ++ (first + count) ∷ []
range_more first zero = let same : first ≡ first + 0 = omega arith in ap (λ n. n ∷ []) same
range_more first (suc count) =
    let same : first + 1 + count ≡ first + suc count = omega arith in
    ap (λ ns. first ∷ ns) (range_more (first + 1) count ∙ ap (λ n. range_with_len (first + 1) count ++ n ∷ []) same)

-- variables, and so many more behind them
module _ (keys list head : List ℕ) (first count n : ℕ) (slice : keys ≡ list) (are : list ≡ head ++ range_with_len first count)
    (is : count ≡ n) where
  keys_are : keys ≡ head ++ range_with_len first count
  keys_are = slice ∙ are

  pub so_many : (total : ℕ) → length head + n ≡ total → length keys ≡ total
  so_many total h =
      ap (λ (ks : List ℕ). length ks) keys_are ∙ length-append head (range_with_len first count)
      ∙ ap (λ m. length head + m) (length-range_with_len first count ∙ is) ∙ h

  pub all_below : (free top : ℕ) → All (λ y. y < free) head → free ≤ top → first + count ≤ top → All (λ y. y < top) keys
  all_below free top all h g =
      subst (All (λ y. y < top)) (sym keys_are)
      (All-append (λ y. y < top) head (range_with_len first count) (λ i d l. let low = all i d l in omega (arith, low, h))
      (range_below first count top g))

  pub adds_named : {K : Type 0} (sink : Sink K) (k : K) (add : List KStmt) → AddsTo sink k keys (first + count) (first + count + 1) add
      → AddsTo sink k (head ++ range_with_len first n) (first + n) (first + n + 1) add
  adds_named sink k add h =
      subst (λ m. AddsTo sink k (head ++ range_with_len first m) (first + m) (first + m + 1) add) is
      (subst (λ ks. AddsTo sink k ks (first + count) (first + count + 1) add) keys_are h)
