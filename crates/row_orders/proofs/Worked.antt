-- How results take rows where it was worked out by hand.
use Rattle.std.specs.Prelude.{◌≡◌, [], ◌∷◌, length, refl}
use denote.Hole.Carrier.{hidden}
use Rattle.level_core.specs.declared.letter.Letter.TheVariants.{Dense, Compressed, CompressedGroups, Singleton, Hashed}
use Rattle.index_notation.specs.declared.syntax.Expr.TheBlock.{hidden-the_row-Expr-0}
use Rattle.row_orders.specs.declared.takings.Taking.TheVariants.{AddedInPlace, AppendedInPlace, ThroughWorkspace}
use Rattle.row_orders.specs.Heads.{head, head_levels}
use Rattle.row_orders.specs.Takings.{taking_of}
use Rattle.row_orders.specs.Worked.{level, of_one, of_two, of_columns, vector_sum, matrix_times_vector, matrix_product}
use Rattle.row_orders.specs.Worked.{vector_and_columns}

-- a sum of vectors comes by in order, and so does a product with a vector, which is summed inside
pub sparse_sum : taking_of vector_sum (of_one Compressed) (0 ∷ []) ≡ AppendedInPlace
unfolding hidden-the_row-Expr-0 hidden
sparse_sum = refl

pub sparse_product : taking_of matrix_times_vector (of_one Compressed) (0 ∷ 1 ∷ []) ≡ AppendedInPlace
unfolding hidden-the_row-Expr-0 hidden
sparse_product = refl

-- summed outside it calls for a workspace
pub scattered_product : taking_of matrix_times_vector (of_one Compressed) (1 ∷ 0 ∷ []) ≡ ThroughWorkspace
unfolding hidden-the_row-Expr-0 hidden
scattered_product = refl

-- dense results are added to, in any order
pub dense_sum : taking_of vector_sum (of_one Dense) (0 ∷ []) ≡ AddedInPlace
unfolding hidden-the_row-Expr-0 hidden
dense_sum = refl

pub dense_product : taking_of (matrix_product (2 ∷ 1 ∷ [])) (of_two Dense Dense) (0 ∷ 2 ∷ 1 ∷ []) ≡ AddedInPlace
unfolding hidden-the_row-Expr-0 hidden
dense_product = refl

-- a hashed level has no order
pub hashed_sum : taking_of vector_sum (of_one Hashed) (0 ∷ []) ≡ ThroughWorkspace
unfolding hidden-the_row-Expr-0 hidden
hashed_sum = refl

pub hashed_rows : taking_of (matrix_product (1 ∷ 2 ∷ [])) (of_two Dense Hashed) (0 ∷ 1 ∷ 2 ∷ []) ≡ ThroughWorkspace
unfolding hidden-the_row-Expr-0 hidden
hashed_rows = refl

-- rows of a product of matrices by rows are scattered over the columns: these are stored dense, or want a workspace, below a dense level
-- as below a compressed one
pub scattered_columns : taking_of (matrix_product (2 ∷ 1 ∷ [])) (of_two Dense Compressed) (0 ∷ 2 ∷ 1 ∷ []) ≡ ThroughWorkspace
unfolding hidden-the_row-Expr-0 hidden
scattered_columns = refl

pub scattered_list : taking_of (matrix_product (2 ∷ 1 ∷ [])) (of_two CompressedGroups Singleton) (0 ∷ 2 ∷ 1 ∷ []) ≡ ThroughWorkspace
unfolding hidden-the_row-Expr-0 hidden
scattered_list = refl

pub dense_columns : taking_of (matrix_product (2 ∷ 1 ∷ [])) (of_two Compressed Dense) (0 ∷ 2 ∷ 1 ∷ []) ≡ AppendedInPlace
unfolding hidden-the_row-Expr-0 hidden
dense_columns = refl

-- with the second matrix by columns they come in order
pub inner_product : taking_of (matrix_product (1 ∷ 2 ∷ [])) (of_two Compressed Compressed) (0 ∷ 1 ∷ 2 ∷ []) ≡ AppendedInPlace
unfolding hidden-the_row-Expr-0 hidden
inner_product = refl

-- a result that stores columns has these as its head
pub turned_rows : taking_of (matrix_product (2 ∷ 1 ∷ [])) (of_columns Compressed Dense) (1 ∷ 2 ∷ 0 ∷ []) ≡ AppendedInPlace
unfolding hidden-the_row-Expr-0 hidden
turned_rows = refl

pub turned_columns : taking_of (matrix_product (2 ∷ 1 ∷ [])) (of_columns Compressed Dense) (2 ∷ 1 ∷ 0 ∷ []) ≡ ThroughWorkspace
unfolding hidden-the_row-Expr-0 hidden
turned_columns = refl

-- one term that is summed outside is enough
pub one_term : taking_of vector_and_columns (of_one Compressed) (1 ∷ 0 ∷ []) ≡ ThroughWorkspace
unfolding hidden-the_row-Expr-0 hidden
one_term = refl

-- ---- heads: dense levels above the last that isn't dense belong to it
pub head_of_rows : head (matrix_product (2 ∷ 1 ∷ [])) (of_two Dense Compressed) ≡ 0 ∷ 1 ∷ []
head_of_rows = refl

pub head_of_blocks : head (matrix_product (2 ∷ 1 ∷ [])) (of_two Compressed Dense) ≡ 0 ∷ []
head_of_blocks = refl

pub head_of_columns : head (matrix_product (2 ∷ 1 ∷ [])) (of_columns Compressed Dense) ≡ 1 ∷ []
head_of_columns = refl

pub head_of_dense : head (matrix_product (2 ∷ 1 ∷ [])) (of_two Dense Dense) ≡ []
head_of_dense = refl

pub head_between : length (head_levels (level Compressed 0 ∷ level Dense 1 ∷ level Compressed 2 ∷ level Dense 3 ∷ [])) ≡ 3
head_between = refl
