-- Each nested sum of a text is read: by the right side, or inside of a sum that ends later.
use Rattle.std.specs.Prelude.{◌≡◌, ◌⊎◌, ℕ, suc, ◌+◌, Bool, true, false, nat_eq, ◌||◌, if◌then◌else◌, List, [], ◌∷◌, ◌++◌, length, map, refl}
use Rattle.std.proofs.Common.{◌∙◌, sym, ap, subst, arith, inl, inr, length-append}
use Rattle.std.proofs.lemmas.Bool.{eqb-true, eqb-false, eq-eqb}
use denote.Hole.Carrier.{hidden}
use Rattle.index_notation.specs.declared.operator.Operator.{Operator}
use Rattle.index_notation.specs.declared.operator.Operator.TheVariants as op
use Rattle.index_notation.specs.declared.syntax.Expr.{Expr, Num, Access as AccessOf, Binary, Neg, Binary', Neg', Row_of-Expr, end_of-Expr}
use Rattle.index_notation.specs.declared.syntax.Expr.{more_of-Expr}
use Rattle.index_notation.specs.declared.syntax.Expr.TheBlock.{hidden-the_row-Expr-0}
use Rattle.index_notation.specs.declared.syntax.Name.{Name}
use Rattle.index_notation.specs.declared.syntax.NestedSum.{NestedSum}
use Rattle.index_notation.specs.declared.syntax.Statement.{Statement}
use Rattle.notation_grammar.specs.Grammar.{Factor, Digits, Read, Bracketed, Negated, Summed, Product, Lone, Multiplied, Sum, Alone, Added}
use Rattle.notation_grammar.specs.Grammar.{Taken, Tree}
use Rattle.notation_grammar.specs.TreeStatement.{accesses_of_factor, accesses_of_product, accesses_of_sum, factor_expr, nested_sum}
use Rattle.notation_grammar.specs.TreeStatement.{product_expr, reads_in_factor, reads_in_product, reads_in_sum, statement_of_tree, sum_expr}
use Rattle.notation_grammar.specs.TreeStatement.{sums_in_factor, sums_in_product, sums_in_sum, sums_of_factor, sums_of_product, sums_of_sum}
use Rattle.expr_terms.specs.Expanded.{expanded, moved, moved_access, moved_in, moved_sum, with_old}
use Rattle.nested_sums.specs.Bad.{AreRead, ReadsItsSums, reads_leaf, reads_leaf_in, some_reads}

either : (b c : Bool) → (b || c) ≡ true → (b ≡ true) ⊎ (c ≡ true)
either true c h = inl refl
either false c h = inr h

or_first : (b c : Bool) → b ≡ true → (b || c) ≡ true
or_first b c h = ap (λ x. x || c) h

or_second : (b c : Bool) → c ≡ true → (b || c) ≡ true
or_second true c h = refl
or_second false c h = h

reads_binary : (k : ℕ) (o : Operator) (e f : Expr) → reads_leaf k (Binary o e f) ≡ (reads_leaf k e || reads_leaf k f)
unfolding hidden-the_row-Expr-0 hidden
reads_binary k o e f = refl

reads_neg : (k : ℕ) (e : Expr) → reads_leaf k (Neg e) ≡ reads_leaf k e
unfolding hidden-the_row-Expr-0 hidden
reads_neg k e = refl

some_before : (k : ℕ) (sums more : List NestedSum) → some_reads k sums ≡ true → some_reads k (sums ++ more) ≡ true
some_before k [] more h = cc
some_before k (sum ∷ sums) more h = elim (either (reads_leaf k sum.inside) (some_reads k sums) h) [
  | inl here ↦ or_first (reads_leaf k sum.inside) (some_reads k (sums ++ more)) here
  | inr later ↦ or_second (reads_leaf k sum.inside) (some_reads k (sums ++ more)) (some_before k sums more later)
]

some_behind : (k : ℕ) (sums more : List NestedSum) → some_reads k more ≡ true → some_reads k (sums ++ more) ≡ true
some_behind k [] more h = h
some_behind k (sum ∷ sums) more h =
    or_second (reads_leaf k sum.inside) (some_reads k (sums ++ more)) (some_behind k sums more h)

-- more sums behind those of an expression, where what it reads is read by them or by another expression
read_on : (k : ℕ) (sums more : List NestedSum) (e whole : Expr) → AreRead k sums e
    → ((j : ℕ) → reads_leaf j e ≡ true → (reads_leaf j whole || some_reads j more) ≡ true) → AreRead (k + length sums) more whole
    → AreRead k (sums ++ more) whole
read_on k [] more e whole h on rest = let same : k + 0 ≡ k = omega arith in subst (λ j. AreRead j more whole) same rest
read_on k (sum ∷ sums) more e whole h on rest = (
  elim (either (reads_leaf k e) (some_reads k sums) h.0) [
    | inl there ↦ by (either (reads_leaf k whole) (some_reads k more) (on k there))
    | inr later ↦ or_second (reads_leaf k whole) (some_reads k (sums ++ more)) (some_before k sums more later)
  ],
  read_on (k + 1) sums more e whole h.1 on
      (let next : k + suc (length sums) ≡ k + 1 + length sums = omega arith in subst (λ j. AreRead j more whole) next rest),
)
  where
    by : (reads_leaf k whole ≡ true) ⊎ (some_reads k more ≡ true) → (reads_leaf k whole || some_reads k (sums ++ more)) ≡ true
    by (inl here) = or_first (reads_leaf k whole) (some_reads k (sums ++ more)) here
    by (inr behind) = or_second (reads_leaf k whole) (some_reads k (sums ++ more)) (some_behind k sums more behind)

-- an expression that reads more
read_wider : (k : ℕ) (sums : List NestedSum) (e whole : Expr) → AreRead k sums e
    → ((j : ℕ) → reads_leaf j e ≡ true → reads_leaf j whole ≡ true) → AreRead k sums whole
read_wider k [] e whole h wider = tt
read_wider k (sum ∷ sums) e whole h wider = (
  elim (either (reads_leaf k e) (some_reads k sums) h.0) [
    | inl there ↦ or_first (reads_leaf k whole) (some_reads k sums) (wider k there)
    | inr later ↦ or_second (reads_leaf k whole) (some_reads k sums) later
  ],
  read_wider (k + 1) sums e whole h.1 wider,
)

-- two sides, the second of whose sums come behind those of the first
read_sides : (m : ℕ) (count : ℕ) (o : Operator) (e f : Expr) (first second : List NestedSum) → length first ≡ count
    → AreRead m first e → AreRead (m + count) second f → AreRead m (first ++ second) (Binary o e f)
read_sides m count o e f first second long left right =
    read_on m first second e (Binary o e f) left
    (λ j there. or_first (reads_leaf j (Binary o e f)) (some_reads j second)
    (reads_binary j o e f ∙ or_first (reads_leaf j e) (reads_leaf j f) there))
    (subst (λ n. AreRead (m + n) second (Binary o e f)) (sym long)
    (read_wider (m + count) second f (Binary o e f) right
    (λ j there. reads_binary j o e f ∙ or_second (reads_leaf j e) (reads_leaf j f) there)))

module _ (vars : List Name) where
  mutual
    many_in_factor : (n m : ℕ) (factor : Factor) → length (sums_of_factor vars n m factor) ≡ sums_in_factor factor
    many_in_factor n m (Digits digits) = refl
    many_in_factor n m (Read access) = refl
    many_in_factor n m (Bracketed sum) = many_in_sum n m sum
    many_in_factor n m (Negated factor) = many_in_factor n m factor
    many_in_factor n m (Summed var sum) =
        length-append (sums_of_sum vars n m sum) (nested_sum vars var (sum_expr n m sum) ∷ []) ∙ ap (λ c. c + 1) (many_in_sum n m sum)

    many_in_product : (n m : ℕ) (product : Product) → length (sums_of_product vars n m product) ≡ sums_in_product product
    many_in_product n m (Lone factor) = many_in_factor n m factor
    many_in_product n m (Multiplied product factor) =
        let behind = sums_of_factor vars (n + reads_in_product product) (m + sums_in_product product) factor in
        length-append (sums_of_product vars n m product) behind
        ∙ ap (λ c. c + length behind) (many_in_product n m product)
        ∙ ap (λ c. sums_in_product product + c) (many_in_factor (n + reads_in_product product) (m + sums_in_product product) factor)

    many_in_sum : (n m : ℕ) (sum : Sum) → length (sums_of_sum vars n m sum) ≡ sums_in_sum sum
    many_in_sum n m (Alone product) = many_in_product n m product
    many_in_sum n m (Added sum product) =
        let behind = sums_of_product vars (n + reads_in_sum sum) (m + sums_in_sum sum) product in
        length-append (sums_of_sum vars n m sum) behind
        ∙ ap (λ c. c + length behind) (many_in_sum n m sum)
        ∙ ap (λ c. sums_in_sum sum + c) (many_in_product (n + reads_in_sum sum) (m + sums_in_sum sum) product)
    many_in_sum n m (Taken sum product) =
        let behind = sums_of_product vars (n + reads_in_sum sum) (m + sums_in_sum sum) product in
        length-append (sums_of_sum vars n m sum) behind
        ∙ ap (λ c. c + length behind) (many_in_sum n m sum)
        ∙ ap (λ c. sums_in_sum sum + c) (many_in_product (n + reads_in_sum sum) (m + sums_in_sum sum) product)

  mutual
    factor_read : (n m : ℕ) (factor : Factor) → AreRead m (sums_of_factor vars n m factor) (factor_expr n m factor)
    factor_read n m (Digits digits) = tt
    factor_read n m (Read access) = tt
    factor_read n m (Bracketed sum) = sum_read n m sum
    factor_read n m (Negated factor) =
        read_wider m (sums_of_factor vars n m factor) (factor_expr n m factor) (Neg (factor_expr n m factor)) (factor_read n m factor)
        (λ j there. reads_neg j (factor_expr n m factor) ∙ there)
    factor_read n m (Summed var sum) =
        let one = nested_sum vars var (sum_expr n m sum) in
        read_on m (sums_of_sum vars n m sum) (one ∷ []) (sum_expr n m sum) (AccessOf (m + sums_in_sum sum)) (sum_read n m sum)
        (λ j there. or_second (nat_eq (m + sums_in_sum sum) j) (reads_leaf j (sum_expr n m sum) || false)
        (or_first (reads_leaf j (sum_expr n m sum)) false there)) (
          or_first (nat_eq (m + sums_in_sum sum) (m + length (sums_of_sum vars n m sum)))
              (some_reads (m + length (sums_of_sum vars n m sum)) [])
              (eq-eqb (m + sums_in_sum sum) (m + length (sums_of_sum vars n m sum)) (ap (λ c. m + c) (sym (many_in_sum n m sum)))),
          tt,
        )

    product_read : (n m : ℕ) (product : Product) → AreRead m (sums_of_product vars n m product) (product_expr n m product)
    product_read n m (Lone factor) = factor_read n m factor
    product_read n m (Multiplied product factor) =
        read_sides m (sums_in_product product) op.Mul (product_expr n m product)
        (factor_expr (n + reads_in_product product) (m + sums_in_product product) factor) (sums_of_product vars n m product)
        (sums_of_factor vars (n + reads_in_product product) (m + sums_in_product product) factor) (many_in_product n m product)
        (product_read n m product) (factor_read (n + reads_in_product product) (m + sums_in_product product) factor)

    sum_read : (n m : ℕ) (sum : Sum) → AreRead m (sums_of_sum vars n m sum) (sum_expr n m sum)
    sum_read n m (Alone product) = product_read n m product
    sum_read n m (Added sum product) =
        read_sides m (sums_in_sum sum) op.Add (sum_expr n m sum) (product_expr (n + reads_in_sum sum) (m + sums_in_sum sum) product)
        (sums_of_sum vars n m sum) (sums_of_product vars (n + reads_in_sum sum) (m + sums_in_sum sum) product) (many_in_sum n m sum)
        (sum_read n m sum) (product_read (n + reads_in_sum sum) (m + sums_in_sum sum) product)
    sum_read n m (Taken sum product) =
        read_sides m (sums_in_sum sum) op.Sub (sum_expr n m sum) (product_expr (n + reads_in_sum sum) (m + sums_in_sum sum) product)
        (sums_of_sum vars n m sum) (sums_of_product vars (n + reads_in_sum sum) (m + sums_in_sum sum) product) (many_in_sum n m sum)
        (sum_read n m sum) (product_read (n + reads_in_sum sum) (m + sums_in_sum sum) product)

-- as many accesses as are counted
mutual
  accesses_in_factor : (factor : Factor) → length (accesses_of_factor factor) ≡ reads_in_factor factor
  accesses_in_factor (Digits digits) = refl
  accesses_in_factor (Read access) = refl
  accesses_in_factor (Bracketed sum) = accesses_in_sum sum
  accesses_in_factor (Negated factor) = accesses_in_factor factor
  accesses_in_factor (Summed var sum) = accesses_in_sum sum

  accesses_in_product : (product : Product) → length (accesses_of_product product) ≡ reads_in_product product
  accesses_in_product (Lone factor) = accesses_in_factor factor
  accesses_in_product (Multiplied product factor) =
      length-append (accesses_of_product product) (accesses_of_factor factor)
      ∙ (λ i. accesses_in_product product i + accesses_in_factor factor i)

  accesses_in_sum : (sum : Sum) → length (accesses_of_sum sum) ≡ reads_in_sum sum
  accesses_in_sum (Alone product) = accesses_in_product product
  accesses_in_sum (Added sum product) =
      length-append (accesses_of_sum sum) (accesses_of_product product) ∙ (λ i. accesses_in_sum sum i + accesses_in_product product i)
  accesses_in_sum (Taken sum product) =
      length-append (accesses_of_sum sum) (accesses_of_product product) ∙ (λ i. accesses_in_sum sum i + accesses_in_product product i)

map_long : {A B : Type 0} (f : A → B) (xs : List A) → length (map f xs) ≡ length xs
map_long f [] = refl
map_long f (x ∷ xs) = ap suc (map_long f xs)

pub tree_reads_sums : (tree : Tree) → ReadsItsSums (statement_of_tree tree)
tree_reads_sums tree =
    let s = statement_of_tree tree in
    subst (λ k. AreRead k s.sums s.expr)
    (sym (map_long _ (accesses_of_sum tree.right) ∙ accesses_in_sum tree.right))
    (sum_read _ 0 (reads_in_sum tree.right) tree.right)

-- so it is of the statement that one with `+=` stands for
mutual
  moved_reads : (k : ℕ) (e : Expr) → reads_leaf (k + 1) (moved e) ≡ reads_leaf k e
  moved_reads k (Num n) = refl
  moved_reads k (AccessOf j) = next j k
    where
      next : (x y : ℕ) → nat_eq (x + 1) (y + 1) ≡ nat_eq x y
      next x y = by (nat_eq x y) refl
        where
          by : (b : Bool) → nat_eq x y ≡ b → nat_eq (x + 1) (y + 1) ≡ b
          by true e = eq-eqb (x + 1) (y + 1) (ap (λ z. z + 1) (eqb-true x y e))
          by false e = apart (nat_eq (x + 1) (y + 1)) refl
            where
              apart : (c : Bool) → nat_eq (x + 1) (y + 1) ≡ c → c ≡ false
              apart true f = let same = eqb-true (x + 1) (y + 1) f in absurd (eqb-false x y e (omega (arith, same)))
              apart false f = refl
  moved_reads k (Binary' o p e q f) = λ i. moved_reads_in k e i || moved_reads_in k f i
  moved_reads k (Neg' p e) = moved_reads_in k e

  moved_reads_in : {m : _} (k : ℕ) (e : Row_of-Expr m) → reads_leaf_in (k + 1) (moved_in e) ≡ reads_leaf_in k e
  moved_reads_in k end_of-Expr = refl
  moved_reads_in k (more_of-Expr e rest) = moved_reads k e

some_moved : (k : ℕ) (sums : List NestedSum) → some_reads (k + 1) (map moved_sum sums) ≡ some_reads k sums
some_moved k [] = refl
some_moved k (sum ∷ sums) = λ i. moved_reads k sum.inside i || some_moved k sums i

read_moved : (k : ℕ) (sums : List NestedSum) (e : Expr) → AreRead k sums e → AreRead (k + 1) (map moved_sum sums) (moved e)
read_moved k [] e h = tt
read_moved k (sum ∷ sums) e h = ((λ i. moved_reads k e i || some_moved k sums i) ∙ h.0, read_moved (k + 1) sums e h.1)

pub old_reads_sums : (s : Statement) → ReadsItsSums s → ReadsItsSums (with_old s)
old_reads_sums s h =
    let long : length (map moved_access s.accesses) ≡ length s.accesses = map_long moved_access s.accesses in
    let number : length s.accesses + 1 ≡ suc (length (map moved_access s.accesses)) = omega (arith, long) in
    subst (λ k. AreRead k (map moved_sum s.sums) (with_old s).expr) number
    (read_wider (length s.accesses + 1) (map moved_sum s.sums) (moved s.expr) (with_old s).expr
    (read_moved (length s.accesses) s.sums s.expr h)
    (λ j there. reads_binary j op.Add (AccessOf 0) (moved s.expr)
    ∙ or_second (reads_leaf j (AccessOf 0)) (reads_leaf j (moved s.expr)) there))

pub expanded_reads_sums : (s : Statement) → ReadsItsSums s → ReadsItsSums (expanded s)
expanded_reads_sums s h = by s.accumulate refl
  where
    by : (b : Bool) → s.accumulate ≡ b → ReadsItsSums (expanded s)
    by true e = subst ReadsItsSums (sym (ap (λ b. if b then with_old s else s) e)) (old_reads_sums s h)
    by false e = subst ReadsItsSums (sym (ap (λ b. if b then with_old s else s) e)) h
