-- What the cost comes to where it was worked out by hand.
use Rattle.std.specs.Prelude.{◌≡◌, [], ◌∷◌, refl}
use denote.Hole.Carrier.{hidden}
use Rattle.index_notation.specs.declared.operator.Operator.TheVariants as op
use Rattle.index_notation.specs.declared.syntax.Expr.{Access as AccessOf, Binary, Num}
use Rattle.index_notation.specs.declared.syntax.Expr.TheBlock.{hidden-the_row-Expr-0}
use Rattle.level_core.specs.declared.letter.Letter.TheVariants.{Compressed, Dense}
use Rattle.loop_code.specs.declared.loops.LoopCode.TheBlock.{hidden-the_row-LoopCode-0}
use Rattle.loop_code.specs.Loops.{start}
use Rattle.loop_code.specs.Turns.{cost}
use Rattle.lowering.specs.Layouts.{layout_of}
use Rattle.statement_costs.specs.Costs.{statement_cost, statement_repeats}
use Rattle.statement_costs.specs.Slots.{statement_slots}
use Rattle.statement_costs.specs.Worked.{alike, list_formats, list_stored, product, rows_formats, rows_stored, sum, sum_formats}
use Rattle.statement_costs.specs.Worked.{nested, nested_formats, nested_loops, nested_stored, sum_stored}

-- a matrix compressed in two rows with one stored coordinate each, times a dense vector: a turn for each row, and one for each
-- coordinate
pub cost_of_rows : statement_cost product rows_formats (0 ∷ 1 ∷ []) rows_stored (alike 2) ≡ 4
unfolding hidden-the_row-Expr-0 hidden
cost_of_rows = refl

pub no_repeats_of_rows : statement_repeats product rows_formats (0 ∷ 1 ∷ []) rows_stored (alike 2) ≡ 0
unfolding hidden-the_row-Expr-0 hidden
no_repeats_of_rows = refl

-- a list of four coordinates in two rows, times a hashed vector of two coordinates: 4 where rows are gone through, with all 4 in groups,
-- and then 3 + 2 and 1 + 2
pub cost_of_a_list : statement_cost product list_formats (0 ∷ 1 ∷ []) list_stored (alike 8) ≡ 12
unfolding hidden-the_row-Expr-0 hidden
cost_of_a_list = refl

pub repeats_of_a_list : statement_repeats product list_formats (0 ∷ 1 ∷ []) list_stored (alike 8) ≡ 4
unfolding hidden-the_row-Expr-0 hidden
repeats_of_a_list = refl

-- and the vector's block, four wide, is gathered for each of the two rows
pub slots_of_a_list : statement_slots product list_formats (0 ∷ 1 ∷ []) list_stored (λ k level. 4) (alike 8) ≡ 8
unfolding hidden-the_row-Expr-0 hidden
slots_of_a_list = refl

-- a sum of two compressed vectors: the coordinates of both
pub cost_of_a_sum : statement_cost sum (sum_formats Compressed) (0 ∷ []) sum_stored (alike 9) ≡ 3
unfolding hidden-the_row-Expr-0 hidden
cost_of_a_sum = refl

-- and where one is dense, the range
pub cost_of_a_dense_sum : statement_cost sum (sum_formats Dense) (0 ∷ []) sum_stored (alike 9) ≡ 9
unfolding hidden-the_row-Expr-0 hidden
cost_of_a_dense_sum = refl

-- a vector of one coordinate, times the sum over the row there, which has one coordinate too: a turn for each, and none for the other row
pub cost_of_a_nested_sum : statement_cost (nested (AccessOf 1)) nested_formats (0 ∷ 1 ∷ []) nested_stored (alike 2) ≡ 2
unfolding hidden-the_row-Expr-0 hidden
cost_of_a_nested_sum = refl

-- and where a number is added inside the sum goes over the whole row
pub cost_of_a_full_sum : statement_cost (nested (Binary op.Add (AccessOf 1) (Num 1))) nested_formats (0 ∷ 1 ∷ []) nested_stored
    (alike 2) ≡ 3
unfolding hidden-the_row-Expr-0 hidden
cost_of_a_full_sum = refl

-- loops that start the sum inside that of the vector cost just as much
pub loops_of_a_nested_sum : cost (layout_of (nested (AccessOf 1)) nested_formats) nested_stored (alike 2)
    (nested_loops (AccessOf 1)) start ≡ 2
unfolding hidden-the_row-Expr-0 hidden-the_row-LoopCode-0 hidden
loops_of_a_nested_sum = refl

pub loops_of_a_full_sum : cost (layout_of (nested (Binary op.Add (AccessOf 1) (Num 1))) nested_formats) nested_stored (alike 2)
    (nested_loops (Binary op.Add (AccessOf 1) (Num 1))) start ≡ 3
unfolding hidden-the_row-Expr-0 hidden-the_row-LoopCode-0 hidden
loops_of_a_full_sum = refl
