-- Rows of a workspace: neighbours joined, and one key column more.
use Rattle.std.specs.Prelude.{◌≡◌, ℕ, suc, true, false, if◌then◌else◌, List, [], ◌∷◌, ◌++◌, length, ◌==◌, Some, None}
use Rattle.std.proofs.Common.{◌∙◌, sym, ap, arith}
use Rattle.std.proofs.lemmas.Bool.Decides.{nat_tests}
use Rattle.std.specs.Ordering.{is_eq}
use Rattle.numbers.specs.Arithmetic.{Arithmetic}
use Rattle.kernel_code.specs.declared.syntax.Arr.TheVariants.{Key}
use Rattle.kernel_code.specs.Rows.{Row, compare_keys, join_row}
use Rattle.kernel_code.specs.Meaning.{State, one_more_column, key_columns}

pub joins : (a : Arithmetic) (r q : Row) (qs : List Row) → is_eq (compare_keys r.keys q.keys) ≡ true
    → record { keys = q.keys; value = a.plus r.value q.value } ∷ qs ≡ join_row a r (q ∷ qs)
joins a r q qs h = sym (ap (λ b. if b then record { keys = q.keys; value = a.plus r.value q.value } ∷ qs else r ∷ (q ∷ qs)) h)

pub joins_not : (a : Arithmetic) (r q : Row) (qs : List Row) → is_eq (compare_keys r.keys q.keys) ≡ false
    → r ∷ (q ∷ qs) ≡ join_row a r (q ∷ qs)
joins_not a r q qs h = sym (ap (λ b. if b then record { keys = q.keys; value = a.plus r.value q.value } ∷ qs else r ∷ (q ∷ qs)) h)

pub next_column : (s : State) (w count k : ℕ) (columns : List (List ℕ)) (xs : List ℕ) → key_columns s w count k ≡ Some columns
    → s.arrays (Key w k) ≡ Some xs → length xs ≡ count → key_columns s w count (suc k) ≡ Some (columns ++ xs ∷ [])
next_column s w count k columns xs h g n =
    let same : (length xs == count) ≡ true = grind (arith, nat_tests) in
    ap (λ cs. one_more_column count cs (s.arrays (Key w k))) h ∙ ap (one_more_column count (Some columns)) g
    ∙ ap (λ b. if b then Some (columns ++ xs ∷ []) else None) same
