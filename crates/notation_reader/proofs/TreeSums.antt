-- Nested sums whose numbers begin at the greatest number of accesses, moved to behind the last access, are those of the tree.
use Rattle.std.specs.Prelude.{◌≡◌, ℕ, ◌+◌, ◌-◌, ◌^◌, ◌<◌, ◌≤◌, cond, List, [], ◌∷◌, ◌++◌, map, refl}
use Rattle.std.proofs.Common.{◌∙◌, ap, arith, lit<}
use Rattle.std.proofs.lemmas.Bool.{lt-ltb, le-ltb}
use Rattle.std.proofs.lemmas.List.{map-append}
use denote.Hole.Carrier.{hidden}
use Rattle.limits.specs.Limits.{greatest_accesses}
use Rattle.index_notation.specs.declared.operator.Operator.{Operator}
use Rattle.index_notation.specs.declared.operator.Operator.TheVariants as op
use Rattle.index_notation.specs.declared.syntax.Name.{Name}
use Rattle.index_notation.specs.declared.syntax.Expr.{Expr, Access as AccessOf, Binary, Neg}
use Rattle.index_notation.specs.declared.syntax.Expr.TheBlock.{hidden-the_row-Expr-0}
use Rattle.index_notation.specs.declared.syntax.NestedSum.{NestedSum}
use Rattle.notation_grammar.specs.Grammar.{Factor, Digits, Read, Bracketed, Negated, Summed, Product, Lone, Multiplied, Sum, Alone, Added}
use Rattle.notation_grammar.specs.Grammar.{Taken}
use Rattle.notation_grammar.specs.TreeStatement.{reads_in_factor, reads_in_product, reads_in_sum, sums_in_product, sums_in_sum}
use Rattle.notation_grammar.specs.TreeStatement.{factor_expr, product_expr, sum_expr, nested_sum, sums_of_factor, sums_of_product}
use Rattle.notation_grammar.specs.TreeStatement.{sums_of_sum}
use Rattle.notation_reader.specs.declared.builder.WrittenSum.{WrittenSum}
use Rattle.notation_reader.specs.Sums.{written_sum, written_in_factor, written_in_product, written_in_sum, rebased_number, rebased}
use Rattle.notation_reader.specs.Sums.{numbered_sum}

-- numbers of nested sums fit a word
pub accesses_are_small : greatest_accesses < 2 ^ 8
unfolding greatest_accesses
accesses_are_small = lit< tt

-- an expression that is made of its parts
pub rebased_binary : (count : ℕ) (o : Operator) (e f : Expr) → rebased count (Binary o e f) ≡ Binary o (rebased count e) (rebased count f)
unfolding hidden-the_row-Expr-0 hidden
rebased_binary count o e f = refl

pub rebased_neg : (count : ℕ) (e : Expr) → rebased count (Neg e) ≡ Neg (rebased count e)
unfolding hidden-the_row-Expr-0 hidden
rebased_neg count e = refl

-- the numbers m and k before and after the move
pub record Rebases (count m k : ℕ) : Type 0 where
  pub enough : count ≤ greatest_accesses
  pub behind : greatest_accesses ≤ m
  pub same : m + count ≡ k + greatest_accesses

moves_on : (count m k more : ℕ) → Rebases count m k → Rebases count (m + more) (k + more)
moves_on count m k more h = record {
  enough = h.enough;
  behind = let a = h.behind in omega (arith, a);
  same = let a = h.same in omega (arith, a);
}

access_stays : (count n : ℕ) → n < greatest_accesses → rebased_number count n ≡ n
access_stays count n h = ap (λ b. cond b n (n - (greatest_accesses - count))) (lt-ltb n greatest_accesses h)

sum_moves : (count m k : ℕ) → Rebases count m k → rebased_number count m ≡ k
sum_moves count m k h =
    ap (λ b. cond b m (m - (greatest_accesses - count))) (le-ltb m greatest_accesses h.behind)
    ∙ (let a = h.enough in let b = h.same in omega (arith, a, b))

mutual
  factor_moves : (count n m k : ℕ) (f : Factor) → n + reads_in_factor f ≤ greatest_accesses → Rebases count m k
      → rebased count (factor_expr n m f) ≡ factor_expr n k f
  factor_moves count n m k (Digits digits) r h = refl
  factor_moves count n m k (Read access) r h = ap AccessOf (access_stays count n (omega (arith, r)))
  factor_moves count n m k (Bracketed s) r h = sum_expr_moves count n m k s r h
  factor_moves count n m k (Negated f) r h = rebased_neg count (factor_expr n m f) ∙ ap Neg (factor_moves count n m k f r h)
  factor_moves count n m k (Summed var s) r h =
      ap AccessOf (sum_moves count (m + sums_in_sum s) (k + sums_in_sum s) (moves_on count m k (sums_in_sum s) h))

  product_moves : (count n m k : ℕ) (p : Product) → n + reads_in_product p ≤ greatest_accesses → Rebases count m k
      → rebased count (product_expr n m p) ≡ product_expr n k p
  product_moves count n m k (Lone f) r h = factor_moves count n m k f r h
  product_moves count n m k (Multiplied p f) r h =
      let first = product_moves count n m k p (omega (arith, r)) h in
      let second = factor_moves count (n + reads_in_product p) (m + sums_in_product p) (k + sums_in_product p) f (omega (arith, r))
      (moves_on count m k (sums_in_product p) h) in
      rebased_binary count op.Mul (product_expr n m p) (factor_expr (n + reads_in_product p) (m + sums_in_product p) f)
      ∙ (λ i. Binary op.Mul (first i) (second i))

  pub sum_expr_moves : (count n m k : ℕ) (s : Sum) → n + reads_in_sum s ≤ greatest_accesses → Rebases count m k
      → rebased count (sum_expr n m s) ≡ sum_expr n k s
  sum_expr_moves count n m k (Alone p) r h = product_moves count n m k p r h
  sum_expr_moves count n m k (Added s p) r h =
      let first = sum_expr_moves count n m k s (omega (arith, r)) h in
      let second = product_moves count (n + reads_in_sum s) (m + sums_in_sum s) (k + sums_in_sum s) p (omega (arith, r))
      (moves_on count m k (sums_in_sum s) h) in
      rebased_binary count op.Add (sum_expr n m s) (product_expr (n + reads_in_sum s) (m + sums_in_sum s) p)
      ∙ (λ i. Binary op.Add (first i) (second i))
  sum_expr_moves count n m k (Taken s p) r h =
      let first = sum_expr_moves count n m k s (omega (arith, r)) h in
      let second = product_moves count (n + reads_in_sum s) (m + sums_in_sum s) (k + sums_in_sum s) p (omega (arith, r))
      (moves_on count m k (sums_in_sum s) h) in
      rebased_binary count op.Sub (sum_expr n m s) (product_expr (n + reads_in_sum s) (m + sums_in_sum s) p)
      ∙ (λ i. Binary op.Sub (first i) (second i))

numbered_join : (vars : List Name) (count : ℕ) (xs ys : List WrittenSum) (us vs : List NestedSum) → map (numbered_sum vars count) xs ≡ us
    → map (numbered_sum vars count) ys ≡ vs → map (numbered_sum vars count) (xs ++ ys) ≡ us ++ vs
numbered_join vars count xs ys us vs e f = map-append (numbered_sum vars count) xs ys ∙ (λ i. e i ++ f i)

mutual
  factor_sums_move : (vars : List Name) (count n m k : ℕ) (f : Factor) → n + reads_in_factor f ≤ greatest_accesses → Rebases count m k
      → map (numbered_sum vars count) (written_in_factor n m f) ≡ sums_of_factor vars n k f
  factor_sums_move vars count n m k (Digits digits) r h = refl
  factor_sums_move vars count n m k (Read access) r h = refl
  factor_sums_move vars count n m k (Bracketed s) r h = sums_move vars count n m k s r h
  factor_sums_move vars count n m k (Negated f) r h = factor_sums_move vars count n m k f r h
  factor_sums_move vars count n m k (Summed var s) r h =
      numbered_join vars count (written_in_sum n m s) (written_sum var (sum_expr n m s) ∷ []) (sums_of_sum vars n k s)
      (nested_sum vars var (sum_expr n k s) ∷ []) (sums_move vars count n m k s r h)
      (ap (λ (e : Expr). nested_sum vars var e ∷ []) (sum_expr_moves count n m k s r h))

  product_sums_move : (vars : List Name) (count n m k : ℕ) (p : Product) → n + reads_in_product p ≤ greatest_accesses → Rebases count m k
      → map (numbered_sum vars count) (written_in_product n m p) ≡ sums_of_product vars n k p
  product_sums_move vars count n m k (Lone f) r h = factor_sums_move vars count n m k f r h
  product_sums_move vars count n m k (Multiplied p f) r h =
      numbered_join vars count (written_in_product n m p) (written_in_factor (n + reads_in_product p) (m + sums_in_product p) f)
      (sums_of_product vars n k p) (sums_of_factor vars (n + reads_in_product p) (k + sums_in_product p) f)
      (product_sums_move vars count n m k p (omega (arith, r)) h)
      (factor_sums_move vars count (n + reads_in_product p) (m + sums_in_product p) (k + sums_in_product p) f (omega (arith, r))
      (moves_on count m k (sums_in_product p) h))

  pub sums_move : (vars : List Name) (count n m k : ℕ) (s : Sum) → n + reads_in_sum s ≤ greatest_accesses → Rebases count m k
      → map (numbered_sum vars count) (written_in_sum n m s) ≡ sums_of_sum vars n k s
  sums_move vars count n m k (Alone p) r h = product_sums_move vars count n m k p r h
  sums_move vars count n m k (Added s p) r h =
      numbered_join vars count (written_in_sum n m s) (written_in_product (n + reads_in_sum s) (m + sums_in_sum s) p)
      (sums_of_sum vars n k s) (sums_of_product vars (n + reads_in_sum s) (k + sums_in_sum s) p)
      (sums_move vars count n m k s (omega (arith, r)) h)
      (product_sums_move vars count (n + reads_in_sum s) (m + sums_in_sum s) (k + sums_in_sum s) p (omega (arith, r))
      (moves_on count m k (sums_in_sum s) h))
  sums_move vars count n m k (Taken s p) r h =
      numbered_join vars count (written_in_sum n m s) (written_in_product (n + reads_in_sum s) (m + sums_in_sum s) p)
      (sums_of_sum vars n k s) (sums_of_product vars (n + reads_in_sum s) (k + sums_in_sum s) p)
      (sums_move vars count n m k s (omega (arith, r)) h)
      (product_sums_move vars count (n + reads_in_sum s) (m + sums_in_sum s) (k + sums_in_sum s) p (omega (arith, r))
      (moves_on count m k (sums_in_sum s) h))

moved_to : (count : ℕ) → count ≤ greatest_accesses → Rebases count greatest_accesses count
moved_to count h = record { enough = h; behind = omega arith; same = omega arith }

-- behind so many accesses
pub expr_moved : (count : ℕ) (s : Sum) → count ≡ reads_in_sum s → reads_in_sum s ≤ greatest_accesses
    → rebased count (sum_expr 0 greatest_accesses s) ≡ sum_expr 0 count s
expr_moved count s e h = sum_expr_moves count 0 greatest_accesses count s (omega (arith, h)) (moved_to count (omega (arith, e, h)))

pub sums_moved : (vars : List Name) (count : ℕ) (s : Sum) → count ≡ reads_in_sum s → reads_in_sum s ≤ greatest_accesses
    → map (numbered_sum vars count) (written_in_sum 0 greatest_accesses s) ≡ sums_of_sum vars 0 count s
sums_moved vars count s e h = sums_move vars count 0 greatest_accesses count s (omega (arith, h)) (moved_to count (omega (arith, e, h)))
