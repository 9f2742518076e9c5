-- The tail of a result, and the workspaces that a statement gets which calls for one.
use Rattle.std.specs.Prelude.{◌≡◌, ℕ, ◌<◌, nat_eq, if◌then◌else◌, List, [], ◌∷◌, length, slice_index}
use Rattle.std.specs.List.{list_any}
use Rattle.format_spec.specs.declared.format.FormatLevel.{FormatLevel}
use Rattle.index_notation.specs.declared.syntax.Statement.{Statement}
use Rattle.concrete_notation.specs.Nests.{left_in_order}
use Rattle.row_orders.specs.Heads.{result_levels}
use Rattle.row_orders.specs.Takings.{is_inside_sum, is_unordered}
use Rattle.touched_workspaces.specs.Sizes.{greatest_marked_range}

-- of some variables, those from the first one on that has a summed one before it in a loop order
abbrev pub from_sum : Statement → List ℕ → List ℕ → List ℕ
from_sum s order [] = []
from_sum s order (v ∷ vs) = if is_inside_sum s order v then (v ∷ vs) else from_sum s order vs

-- the tail: the left variables, in loop order, from there on
abbrev pub tail_of : Statement → List ℕ → List ℕ
tail_of s order = from_sum s order (left_in_order s order)

-- the numbers of keys of the workspaces for a tail of so many variables: one of marks and sums and one that lists what was touched, where
-- it is one variable, else one of a key for each
abbrev pub tail_workspaces : ℕ → List ℕ
tail_workspaces n = if nat_eq n 1 then (1 ∷ 1 ∷ []) else (n ∷ [])

-- all rows go through a workspace where some level of the result has no order, else those of the tail alone
abbrev pub called_workspaces : Statement → List (List FormatLevel) → List ℕ → List ℕ
called_workspaces s formats order =
    if list_any is_unordered (result_levels s formats) then tail_workspaces (length s.left.vars) else tail_workspaces
    (length (tail_of s order))

-- the variables that are the keys of the workspaces that are called for: all left ones, or those of the tail
abbrev pub workspace_keys : Statement → List (List FormatLevel) → List ℕ → List ℕ
workspace_keys s formats order = if list_any is_unordered (result_levels s formats) then left_in_order s order else tail_of s order

-- where one variable alone is the key, its range is too large for marks
abbrev pub HasLargeKey : Statement → List (List FormatLevel) → List ℕ → List ℕ → Type 0
HasLargeKey s formats order ranges = (v : ℕ) → workspace_keys s formats order ≡ v ∷ [] → greatest_marked_range < slice_index ranges v
