-- How a result takes the rows of its loops. As in Kjolstad and others, 'Tensor Algebra Compilation with Workspaces' (CGO 2019): what
-- can only be appended to, in the order of its levels, wants a workspace where sums scatter over it.
use Rattle.std.specs.Prelude.{ℕ, nat_eq, not, Bool, ◌||◌, if◌then◌else◌, List}
use Rattle.std.specs.List.{list_all, list_any, take_while}
use Rattle.level_core.specs.Kinds.{properties}
use Rattle.format_spec.specs.declared.format.FormatLevel.{FormatLevel}
use Rattle.index_notation.specs.declared.syntax.Statement.{Statement}
use Rattle.expr_terms.specs.declared.term.Term.{Term}
use Rattle.expr_terms.specs.Terms.{terms, contains, own_variables}
use Rattle.row_orders.specs.declared.takings.Taking.{Taking}
use Rattle.row_orders.specs.declared.takings.Taking.TheVariants.{AddedInPlace, AppendedInPlace, ThroughWorkspace}
use Rattle.row_orders.specs.Heads.{is_dense, head, result_levels}

-- whether a variable is summed in some term
abbrev pub is_summed : Statement → ℕ → Bool
is_summed s v = list_any (λ (t : Term). contains (own_variables s t) v) (terms s.expr)

-- the variables that stand in an order before another one
abbrev pub outside : List ℕ → ℕ → List ℕ
outside order v = take_while (λ u. not (nat_eq u v)) order

-- whether a summed variable stands in the loop order before another one
abbrev pub is_inside_sum : Statement → List ℕ → ℕ → Bool
is_inside_sum s order v = list_any (is_summed s) (outside order v)

-- whether coordinates are inserted into a level without order
abbrev pub is_unordered : FormatLevel → Bool
is_unordered level = not (properties level.letter).ordered

-- whether rows have to go through a workspace: where some level of the result has no order, or a summed variable stands in the loop
-- order before one of the head
abbrev pub calls_for_workspace : Statement → List (List FormatLevel) → List ℕ → Bool
calls_for_workspace s formats order =
    list_any is_unordered (result_levels s formats) || list_any (is_inside_sum s order) (head s formats)

-- rows are added where they belong in a dense result, which has all positions from the start; elsewhere they are appended as they come,
-- or go through a workspace
abbrev pub taking_of : Statement → List (List FormatLevel) → List ℕ → Taking
taking_of s formats order =
    if list_all is_dense (result_levels s formats) then AddedInPlace
    else (if calls_for_workspace s formats order then ThroughWorkspace else AppendedInPlace)
