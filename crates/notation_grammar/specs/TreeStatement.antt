-- The statement of a syntax tree. Brackets only group; names, tensors and variables apart, are numbered by first
-- appearance, accesses of the right side in text order, and nested sums in the order in which they end.
use Rattle.std.specs.Prelude.{ℕ, ◌+◌, Bool, List, [], ◌∷◌, ◌++◌, map}
use Rattle.index_notation.specs.declared.syntax.Name.{Name}
use Rattle.index_notation.specs.declared.syntax.Expr.{Expr, Num, Access as AccessOf, Binary, Neg}
use Rattle.index_notation.specs.declared.operator.Operator.TheVariants as op
use Rattle.index_notation.specs.declared.syntax.NestedSum.{NestedSum}
use Rattle.index_notation.specs.declared.syntax.Statement.{Statement}
use Rattle.index_notation.specs.declared.token.WrittenAccess.{WrittenAccess}
use Rattle.notation_grammar.specs.Grammar.{Factor, Digits, Read, Bracketed, Negated, Summed, Product, Lone, Multiplied, Sum, Alone, Added}
use Rattle.notation_grammar.specs.Grammar.{Taken, Tree}
use Rattle.notation_grammar.specs.Faults.{value_after}
use Rattle.index_notation.specs.Numbering.{distinct, name_of, numbered, place_of}

-- the accesses, in text order
abbrev mutual
  pub accesses_of_factor : Factor → List WrittenAccess
  accesses_of_factor (Digits digits) = []
  accesses_of_factor (Read access) = access ∷ []
  accesses_of_factor (Bracketed sum) = accesses_of_sum sum
  accesses_of_factor (Negated factor) = accesses_of_factor factor
  accesses_of_factor (Summed var sum) = accesses_of_sum sum

  pub accesses_of_product : Product → List WrittenAccess
  accesses_of_product (Lone factor) = accesses_of_factor factor
  accesses_of_product (Multiplied product factor) = accesses_of_product product ++ accesses_of_factor factor

  pub accesses_of_sum : Sum → List WrittenAccess
  accesses_of_sum (Alone product) = accesses_of_product product
  accesses_of_sum (Added sum product) = accesses_of_sum sum ++ accesses_of_product product
  accesses_of_sum (Taken sum product) = accesses_of_sum sum ++ accesses_of_product product

-- the variables of accesses and of nested sums, in text order
abbrev mutual
  pub variables_of_factor : Factor → List Name
  variables_of_factor (Digits digits) = []
  variables_of_factor (Read access) = access.vars
  variables_of_factor (Bracketed sum) = variables_of_sum sum
  variables_of_factor (Negated factor) = variables_of_factor factor
  variables_of_factor (Summed var sum) = var ∷ variables_of_sum sum

  pub variables_of_product : Product → List Name
  variables_of_product (Lone factor) = variables_of_factor factor
  variables_of_product (Multiplied product factor) = variables_of_product product ++ variables_of_factor factor

  pub variables_of_sum : Sum → List Name
  variables_of_sum (Alone product) = variables_of_product product
  variables_of_sum (Added sum product) = variables_of_sum sum ++ variables_of_product product
  variables_of_sum (Taken sum product) = variables_of_sum sum ++ variables_of_product product

-- how many accesses there are
abbrev mutual
  pub reads_in_factor : Factor → ℕ
  reads_in_factor (Digits digits) = 0
  reads_in_factor (Read access) = 1
  reads_in_factor (Bracketed sum) = reads_in_sum sum
  reads_in_factor (Negated factor) = reads_in_factor factor
  reads_in_factor (Summed var sum) = reads_in_sum sum

  pub reads_in_product : Product → ℕ
  reads_in_product (Lone factor) = reads_in_factor factor
  reads_in_product (Multiplied product factor) = reads_in_product product + reads_in_factor factor

  pub reads_in_sum : Sum → ℕ
  reads_in_sum (Alone product) = reads_in_product product
  reads_in_sum (Added sum product) = reads_in_sum sum + reads_in_product product
  reads_in_sum (Taken sum product) = reads_in_sum sum + reads_in_product product

-- how many nested sums there are
abbrev mutual
  pub sums_in_factor : Factor → ℕ
  sums_in_factor (Digits digits) = 0
  sums_in_factor (Read access) = 0
  sums_in_factor (Bracketed sum) = sums_in_sum sum
  sums_in_factor (Negated factor) = sums_in_factor factor
  sums_in_factor (Summed var sum) = sums_in_sum sum + 1

  pub sums_in_product : Product → ℕ
  sums_in_product (Lone factor) = sums_in_factor factor
  sums_in_product (Multiplied product factor) = sums_in_product product + sums_in_factor factor

  pub sums_in_sum : Sum → ℕ
  sums_in_sum (Alone product) = sums_in_product product
  sums_in_sum (Added sum product) = sums_in_sum sum + sums_in_product product
  sums_in_sum (Taken sum product) = sums_in_sum sum + sums_in_product product

-- the expression, where n accesses of the right side stand before it, and the first nested sum that ends in it has the number m
abbrev mutual
  pub factor_expr : ℕ → ℕ → Factor → Expr
  factor_expr n m (Digits digits) = Num (value_after 0 digits)
  factor_expr n m (Read access) = AccessOf n
  factor_expr n m (Bracketed sum) = sum_expr n m sum
  factor_expr n m (Negated factor) = Neg (factor_expr n m factor)
  factor_expr n m (Summed var sum) = AccessOf (m + sums_in_sum sum)

  pub product_expr : ℕ → ℕ → Product → Expr
  product_expr n m (Lone factor) = factor_expr n m factor
  product_expr n m (Multiplied product factor) =
      Binary op.Mul (product_expr n m product) (factor_expr (n + reads_in_product product) (m + sums_in_product product) factor)

  pub sum_expr : ℕ → ℕ → Sum → Expr
  sum_expr n m (Alone product) = product_expr n m product
  sum_expr n m (Added sum product) =
      Binary op.Add (sum_expr n m sum) (product_expr (n + reads_in_sum sum) (m + sums_in_sum sum) product)
  sum_expr n m (Taken sum product) =
      Binary op.Sub (sum_expr n m sum) (product_expr (n + reads_in_sum sum) (m + sums_in_sum sum) product)

-- a nested sum over one of these variables
abbrev pub nested_sum : List Name → Name → Expr → NestedSum
nested_sum vars var inside = record { var = place_of vars var; inside = inside }

-- the nested sums over these variables, in the order in which they end
abbrev mutual
  pub sums_of_factor : List Name → ℕ → ℕ → Factor → List NestedSum
  sums_of_factor vars n m (Digits digits) = []
  sums_of_factor vars n m (Read access) = []
  sums_of_factor vars n m (Bracketed sum) = sums_of_sum vars n m sum
  sums_of_factor vars n m (Negated factor) = sums_of_factor vars n m factor
  sums_of_factor vars n m (Summed var sum) = sums_of_sum vars n m sum ++ (nested_sum vars var (sum_expr n m sum) ∷ [])

  pub sums_of_product : List Name → ℕ → ℕ → Product → List NestedSum
  sums_of_product vars n m (Lone factor) = sums_of_factor vars n m factor
  sums_of_product vars n m (Multiplied product factor) =
      sums_of_product vars n m product
      ++ sums_of_factor vars (n + reads_in_product product) (m + sums_in_product product) factor

  pub sums_of_sum : List Name → ℕ → ℕ → Sum → List NestedSum
  sums_of_sum vars n m (Alone product) = sums_of_product vars n m product
  sums_of_sum vars n m (Added sum product) =
      sums_of_sum vars n m sum ++ sums_of_product vars (n + reads_in_sum sum) (m + sums_in_sum sum) product
  sums_of_sum vars n m (Taken sum product) =
      sums_of_sum vars n m sum ++ sums_of_product vars (n + reads_in_sum sum) (m + sums_in_sum sum) product

-- all accesses, and all variables, the left ones first
abbrev pub accesses_of_tree : Tree → List WrittenAccess
accesses_of_tree tree = tree.left.access ∷ accesses_of_sum tree.right

abbrev pub variables_of_tree : Tree → List Name
variables_of_tree tree = tree.left.access.vars ++ variables_of_sum tree.right

-- the statement of a left access, whether the right side is added to its old tensor, the variables, the accesses of the right
-- side, nested sums and an expression over them
abbrev pub numbered_statement : WrittenAccess → Bool → List Name → List WrittenAccess → List NestedSum → Expr → Statement
numbered_statement left accumulate vars right sums expr =
    let tensors = distinct (map name_of (left ∷ right)) in
    record {
      tensors = tensors;
      vars = vars;
      left = numbered tensors vars left;
      accumulate = accumulate;
      accesses = map (numbered tensors vars) right;
      sums = sums;
      expr = expr;
    }

-- nested sums have the numbers behind those of the accesses
abbrev pub statement_of_tree : Tree → Statement
statement_of_tree tree =
    let vars = distinct (variables_of_tree tree) in
    let count = reads_in_sum tree.right in
    numbered_statement tree.left.access tree.left.accumulate vars (accesses_of_sum tree.right)
    (sums_of_sum vars 0 count tree.right) (sum_expr 0 count tree.right)
