-- Which accesses are stored anew where the storage orders of a statement's tensors have a cycle, and in which order of their modes.
use Rattle.std.specs.Prelude.{◌≡◌, ℕ, ◌==◌, nat_lt, ◌<◌, Bool, if◌then◌else◌, Option}
use Rattle.std.specs.Prelude.{List, [], ◌∷◌, ◌++◌, filter_map, map, position, length, slice_index}
use Rattle.std.specs.List.{list_any}
use Rattle.format_spec.specs.declared.format.FormatLevel.{FormatLevel}
use Rattle.index_notation.specs.Statement.{numbers_from}
use Rattle.index_notation.specs.declared.syntax.Access.{Access}
use Rattle.index_notation.specs.declared.syntax.Statement.{Statement}
use Rattle.iteration_graph.specs.Edges.{access_edges, format_of, neighbours, statement_edges}
use Rattle.iteration_graph.specs.Graphs.{IsLoopOrder, NamesCycle}
use Rattle.mode_planner.specs.declared.plans.Repack.{Repack}

-- an edge from a later variable of the standing order to an earlier one
abbrev pub is_back : ℕ × ℕ → Bool
is_back edge = nat_lt edge.1 edge.0

-- the mode at which a variable stands, if it does
abbrev pub mode_of : List ℕ → ℕ → Option ℕ
mode_of vars v = position (λ other. other == v) vars

-- the modes of an access in the standing order of its variables, which are among so many
abbrev pub modes_in_order : ℕ → List ℕ → List ℕ
modes_in_order count vars = filter_map (mode_of vars) (numbers_from 0 count)

-- an access is stored anew where it has such an edge under this format
abbrev pub repack_of : ℕ → List FormatLevel → Access → List Repack
repack_of count levels access =
    if list_any is_back (access_edges levels access.vars)
    then record { access = access; modes = modes_in_order count access.vars } ∷ [] else []

-- an edge from an earlier variable to a later one
abbrev pub LeadsForward : ℕ × ℕ → Type 0
LeadsForward edge = edge.0 < edge.1

-- the edges of an access that is stored as its plan tells
abbrev pub planned_edges : ℕ → List FormatLevel → List ℕ → List (ℕ × ℕ)
planned_edges count levels vars =
    if list_any is_back (access_edges levels vars) then neighbours (map (slice_index vars) (modes_in_order count vars))
    else access_edges levels vars

-- those of some accesses, one after another
abbrev pub repacks_of : List (List FormatLevel) → ℕ → List Access → List Repack
repacks_of formats count [] = []
repacks_of formats count (access ∷ accesses) =
    repack_of count (format_of formats access.tensor) access ++ repacks_of formats count accesses

-- none where the loops have an order, and where there is a cycle those of all accesses, the result's first
pub record IsPlan (s : Statement) (formats : List (List FormatLevel)) (plan : List Repack) : Type 0 where
  pub ordered : (loops : List ℕ) → IsLoopOrder (length s.vars) (statement_edges s formats) loops → plan ≡ []
  pub cyclic : (cycle : List ℕ) → NamesCycle (length s.vars) (statement_edges s formats) cycle
      → plan ≡ repacks_of formats (length s.vars) (s.left ∷ s.accesses)
