-- The statement of the workload is well formed, and the formats are those of its tensors.
use denote.Hole.Carrier.{hidden}
use Rattle.std.specs.Prelude.{ℕ, ◌<◌, ◌≤◌, length, true, refl}
use Rattle.std.proofs.Common.{arith, lit<, lit≤}
use Rattle.limits.specs.Limits.{greatest_order, greatest_variables}
use Rattle.lists.specs.Each.{Each}
use Rattle.expr_terms.specs.Minus.{HasMeaning}
use Rattle.expr_terms.proofs.NestedLaws.{plain_numbered}
use Rattle.index_notation.specs.Statement.{IsAccess, IsNumbered, IsNumberedWithSums, IsWellNamed, IsDistinct}
use Rattle.index_notation.specs.declared.syntax.Expr.TheBlock.{hidden-the_row-Expr-0}
use Rattle.iteration_graph.specs.Edges.{HasFormat}
use Rattle.nested_sums.specs.Bound.{HasNoBadSum}
use Rattle.generated_runs.specs.Workloads.{matrix_at, workload_statement, workload_formats}

is_access : (tensor : ℕ) → tensor < 4 → IsAccess 4 2 (matrix_at tensor)
unfolding greatest_order
is_access tensor h = record { tensor = h; vars_stand = (lit< tt, (lit< tt, tt)); order = lit≤ tt }

pub written_numbered : IsNumberedWithSums workload_statement
unfolding workload_statement greatest_variables hidden-the_row-Expr-0 hidden
written_numbered = record {
  left = is_access 0 (lit< tt);
  right = (is_access 1 (lit< tt), (is_access 2 (lit< tt), (is_access 3 (lit< tt), tt)));
  sums = tt;
  expr = ((lit< tt, lit< tt), lit< tt);
  variables = lit≤ tt;
}

pub numbered : IsNumbered workload_statement
unfolding workload_statement
numbered = plain_numbered workload_statement written_numbered refl

-- rows and columns are two variables, and an operand isn't the result
rows_and_columns : (tensor : ℕ) → IsDistinct (matrix_at tensor).vars
rows_and_columns tensor = ((λ e. omega (arith, e), tt), (tt, tt))

pub named : IsWellNamed workload_statement
unfolding workload_statement
named = record {
  result = refl;
  unread = (λ e. omega (arith, e), (λ e. omega (arith, e), (λ e. omega (arith, e), tt)));
  orders = (((λ e. refl), ((λ e. refl), ((λ e. refl), tt))), (((λ e. refl), ((λ e. refl), tt)), (((λ e. refl), tt), (tt, tt))));
  left_once = rows_and_columns 0;
  right_once = (rows_and_columns 1, (rows_and_columns 2, (rows_and_columns 3, tt)));
  standing = refl;
}

pub meant : HasMeaning true workload_statement.expr
meant = tt

pub left_format : HasFormat workload_formats workload_statement.left
unfolding workload_statement workload_formats
left_format = record { tensor = lit< tt; order = refl }

pub right_formats : Each (HasFormat workload_formats) workload_statement.accesses
unfolding workload_statement workload_formats
right_formats = (
  record { tensor = lit< tt; order = refl },
  (record { tensor = lit< tt; order = refl }, (record { tensor = lit< tt; order = refl }, tt)),
)

-- it has no nested sums, so no bad ones
pub no_bad_sum : HasNoBadSum workload_statement
unfolding workload_statement hidden-the_row-Expr-0 hidden
no_bad_sum = record { left = tt; free = tt; sides = (tt, tt, (tt, tt, tt, tt), tt); inside = tt }

pub few_formats : length workload_formats ≤ length workload_statement.tensors
unfolding workload_statement workload_formats
few_formats = lit≤ tt
