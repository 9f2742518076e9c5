-- Pairs of a term and a point at which it is present, those of one head alone: of the points at which some variables have the same
-- coordinates.
use Rattle.std.specs.Prelude.{◌≡◌, ℕ, ◌≤◌, nat_eq, ◌&&◌, not, Bool, List, ◌++◌, length, take}
use Rattle.std.specs.List.{count_by, sum_by, take_while}
use Rattle.std.specs.Cmp.Lexicographic.{pointwise}
use Rattle.numbers.specs.Arithmetic.{Arithmetic, Laws}
use Rattle.tensor_map.specs.Entries.{Entry}
use Rattle.format_spec.specs.declared.format.FormatLevel.{FormatLevel}
use Rattle.index_notation.specs.Statement.{IsNumbered}
use Rattle.index_notation.specs.declared.syntax.Access.{Access}
use Rattle.index_notation.specs.declared.syntax.Statement.{Statement}
use Rattle.expr_terms.specs.Points.{coords_at}
use Rattle.expr_terms.specs.Terms.{terms}
use Rattle.expr_terms.specs.declared.term.Term.{Term}
use Rattle.workspaces.specs.Presence.{is_present}
use Rattle.concrete_notation.specs.declared.concrete.Concrete.{Concrete}
use Rattle.concrete_notation.specs.Contributions.{Inputs}
use Rattle.concrete_notation.specs.Nests.{IsOrderOf, Nest, left_in_order, nest_of}
use Rattle.loop_code.specs.declared.loops.LoopCode.{LoopCode}
use Rattle.loop_code.specs.Loops.{Stored}
use Rattle.lowering.specs.Held.{AreHeld}
use Rattle.lowering.specs.Layouts.{layout_of}
use Rattle.lowering.specs.Lowered.{AddsRows, IsInOrder}
use Rattle.lowering.specs.Right.{count_over, one_if, pairs, rows_to}
use Rattle.row_orders.specs.Takings.{is_inside_sum}
use Rattle.summed_groups.specs.Groups.{with_fronts}

-- whether these variables have these coordinates at a point
abbrev pub is_at_head : List ℕ → List ℕ → (ℕ → ℕ) → Bool
is_at_head vars coords point = pointwise nat_eq (coords_at point vars) coords

-- at how many points of the variables around it a term is present, and the head's variables have these coordinates
abbrev pub pairs_of_at : Inputs → List Access → List ℕ → List ℕ → (ℕ → ℕ) → Nest → ℕ
pairs_of_at inputs accesses vars coords point n =
    count_over inputs.ranges n.loops (λ p. one_if (is_present inputs.paths accesses p n.term.expr && is_at_head vars coords p)) point

-- the number of pairs of a term and a point of the left variables and its own ones, in any loop order, at which it is present, and the
-- head's variables have these coordinates
abbrev pub pairs_at : Statement → List ℕ → List ℕ → List ℕ → Inputs → ℕ
pairs_at s order vars coords inputs =
    sum_by (λ (t : Term). pairs_of_at inputs s.accesses vars coords (λ v. 0) (nest_of s order t)) (terms s.expr)

-- the head's variables: the left ones, in a loop order, before the first that has a summed one before it
abbrev pub head_variables : Statement → List ℕ → List ℕ
head_variables s order = take_while (λ v. not (is_inside_sum s order v)) (left_in_order s order)

-- so many pairs there are at one head of these variables, or more
pub record AreAtOneHead (s : Statement) (order vars : List ℕ) (inputs : Inputs) (count : ℕ) : Type 0 where
  pub coords : List ℕ
  pub many : count ≤ pairs_at s order vars coords inputs

-- whether these are the first n coordinates of a row
abbrev pub has_front : ℕ → List ℕ → Entry → Bool
has_front n front row = pointwise nat_eq (take n row.coords) front

-- of the rows that loops add to a target, as many have a front as there are pairs at the head of the target's first variables
abbrev pub FrontsAreCounted : Type 0
FrontsAreCounted = (s : Statement) (formats : List (List FormatLevel)) (c : Concrete) (in_order : IsInOrder s formats c) (loops : LoopCode)
    → AddsRows s formats c loops → (a : Arithmetic) → Laws a → (inputs : Inputs) (stored : Stored)
    → AreHeld a (layout_of s formats) stored s inputs → (target : List ℕ) (n : ℕ) (front : List ℕ)
    → count_by (has_front n front) (rows_to a s formats inputs stored target loops) ≡ pairs_at s in_order.order (take n target) front inputs

-- so a group of those rows, which all have that front, is no greater
abbrev pub GroupsAreFew : Type 0
GroupsAreFew = (s : Statement) (formats : List (List FormatLevel)) (c : Concrete) (in_order : IsInOrder s formats c) (loops : LoopCode)
    → AddsRows s formats c loops → (a : Arithmetic) → Laws a → (inputs : Inputs) (stored : Stored)
    → AreHeld a (layout_of s formats) stored s inputs → (target front : List ℕ) (before group rest : List Entry)
    → rows_to a s formats inputs stored target loops ≡ before ++ (with_fronts front group ++ rest)
    → length group ≤ pairs_at s in_order.order (take (length front) target) front inputs

-- there are as many pairs at a head in one order of the variables as in another
abbrev pub HeadPairsInAnyOrder : Type 0
HeadPairsInAnyOrder = (s : Statement) → IsNumbered s → (order other : List ℕ) → IsOrderOf (length s.vars) order
    → IsOrderOf (length s.vars) other → (vars coords : List ℕ) (inputs : Inputs)
    → pairs_at s order vars coords inputs ≡ pairs_at s other vars coords inputs

-- and no more than there are at all points
abbrev pub HeadPairsAreFewer : Type 0
HeadPairsAreFewer = (s : Statement) (order vars coords : List ℕ) (inputs : Inputs)
    → pairs_at s order vars coords inputs ≤ pairs s order inputs
