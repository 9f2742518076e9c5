-- A statement whose accesses are stored as their plan tells: a tensor that is stored in two orders of its modes becomes two, of which
-- each stores the same entries.
use Rattle.std.specs.Prelude.{◌≡◌, ℕ, zero, suc, ◌+◌, ◌≤◌, ◌<◌, if◌then◌else◌, List, [], ◌∷◌, length, Option, None, Some}
use Rattle.std.specs.Prelude.{slice_get, slice_index}
use Rattle.std.specs.List.{list_any}
use Rattle.level_core.specs.declared.letter.Letter.{Letter}
use Rattle.format_spec.specs.declared.format.FormatLevel.{FormatLevel}
use Rattle.format_spec.specs.Formats.{letters_of}
use Rattle.index_notation.specs.Statement.{IsNumberedWithSums, IsWellNamed}
use Rattle.index_notation.specs.declared.syntax.Access.{Access}
use Rattle.index_notation.specs.declared.syntax.Statement.{Statement}
use Rattle.iteration_graph.specs.Edges.{AreFormed, HasFormat, access_edges, format_of, statement_edges}
use Rattle.iteration_graph.specs.Graphs.{IsLoopOrder, NamesCycle}
use Rattle.lists.specs.Each.{Each}
use Rattle.mode_planner.specs.Plans.{is_back, modes_in_order}
use Rattle.mode_planner.specs.declared.planned.Planned.{Planned}

-- levels of these kinds that store these modes
abbrev pub with_modes : List Letter → List ℕ → List FormatLevel
with_modes (letter ∷ letters) (mode ∷ modes) = record { letter = letter; mode = mode } ∷ with_modes letters modes
with_modes _ _ = []

-- the format in which an access with these variables is stored: where an edge leads back, the same letters with its modes in the
-- standing order of its variables, and else as before
abbrev pub planned_format : ℕ → List FormatLevel → List ℕ → List FormatLevel
planned_format count levels vars =
    if list_any is_back (access_edges levels vars) then with_modes (letters_of levels) (modes_in_order count vars) else levels

-- that of an access of a statement
abbrev pub stored_by_plan : Statement → List (List FormatLevel) → Access → List FormatLevel
stored_by_plan s formats access = planned_format (length s.vars) (format_of formats access.tensor) access.vars

-- the tensor of the given statement whose entries a tensor of the planned one stores: the result is tensor 0 in both
abbrev pub origin_of : List ℕ → ℕ → ℕ
origin_of origins zero = 0
origin_of origins (suc n) = slice_index origins n

-- this tensor, from 1 on, stores the entries of that one in this format
pub record IsStoredAs (origins : List ℕ) (formats : List (List FormatLevel)) (origin : ℕ) (format : List FormatLevel)
    (tensor : ℕ) : Type 0 where
  pub operand : 0 < tensor
  pub within : tensor ≤ length origins
  pub origin_is : origin_of origins tensor ≡ origin
  pub format_is : format_of formats tensor ≡ format

-- an access of the planned statement has the variables of the given one, and reads its entries, stored by its plan
pub record IsPlannedAccess (s : Statement) (formats : List (List FormatLevel)) (plan : Planned) (old access : Access) : Type 0 where
  pub vars : access.vars ≡ old.vars
  pub stored : IsStoredAs plan.origins plan.formats old.tensor (stored_by_plan s formats old) access.tensor

-- the access at a place is one to this tensor
pub record IsReadAt (accesses : List Access) (place tensor : ℕ) : Type 0 where
  pub access : Access
  pub stands : slice_get accesses place ≡ Some access
  pub tensor_is : access.tensor ≡ tensor

-- tensors from 1 on are numbered by first appearance: each is read, and before it so is each of a smaller number
pub record AreByAppearance (accesses : List Access) (many : ℕ) : Type 0 where
  pub read : (tensor : ℕ) → 0 < tensor → tensor ≤ many → (place : ℕ) × IsReadAt accesses place tensor
  pub earlier : (place tensor less : ℕ) → IsReadAt accesses place tensor → 0 < less → less < tensor
      → (before : ℕ) × (before < place) × IsReadAt accesses before less

-- the planned statement of the first accesses of the right side: the given one but for tensors, of which two are one exactly where they
-- store the same entries in the same format
pub record IsPlannedOf (s : Statement) (formats : List (List FormatLevel)) (given : List Access) (plan : Planned) : Type 0 where
  pub vars : plan.statement.vars ≡ s.vars
  pub left : plan.statement.left ≡ s.left
  pub accumulate : plan.statement.accumulate ≡ s.accumulate
  pub sums : plan.statement.sums ≡ s.sums
  pub expr : plan.statement.expr ≡ s.expr
  pub many : length plan.statement.accesses ≡ length given
  pub accesses : (place : ℕ) (old access : Access) → slice_get given place ≡ Some old
      → slice_get plan.statement.accesses place ≡ Some access → IsPlannedAccess s formats plan old access
  pub result : format_of plan.formats 0 ≡ stored_by_plan s formats s.left
  pub formats_many : length plan.formats ≡ length plan.origins + 1
  pub tensors_many : length plan.statement.tensors ≡ length plan.origins + 1
  pub names : (tensor : ℕ) → tensor ≤ length plan.origins
      → slice_get plan.statement.tensors tensor ≡ slice_get s.tensors (origin_of plan.origins tensor)
  pub apart : (tensor other : ℕ) → 0 < tensor → tensor < other → other ≤ length plan.origins
      → origin_of plan.origins tensor ≡ origin_of plan.origins other → format_of plan.formats tensor ≡ format_of plan.formats other → ⊥
  pub numbered : AreByAppearance plan.statement.accesses (length plan.origins)

-- that of all of them
abbrev pub IsPlanned : Statement → List (List FormatLevel) → Planned → Type 0
IsPlanned s formats plan = IsPlannedOf s formats s.accesses plan

-- the loops of a statement have an order
pub record HaveOrder (s : Statement) (formats : List (List FormatLevel)) : Type 0 where
  pub loops : List ℕ
  pub is : IsLoopOrder (length s.vars) (statement_edges s formats) loops

-- its storage orders have a cycle, and this is the planned statement
pub record IsMended (s : Statement) (formats : List (List FormatLevel)) (plan : Planned) : Type 0 where
  pub cycle : List ℕ
  pub names_cycle : NamesCycle (length s.vars) (statement_edges s formats) cycle
  pub planned : IsPlanned s formats plan

-- the answer to a statement and formats: there is a plan exactly where there is a cycle
abbrev pub Answers : Statement → List (List FormatLevel) → Option Planned → Type 0
Answers s formats None = HaveOrder s formats
Answers s formats (Some plan) = IsMended s formats plan

-- a planned statement is as calls ask for one that they are handed, and has no cycle
pub record CanBeCompiled (s : Statement) (formats : List (List FormatLevel)) : Type 0 where
  pub numbered : IsNumberedWithSums s
  pub named : IsWellNamed s
  pub left_format : HasFormat formats s.left
  pub right_formats : Each (HasFormat formats) s.accesses
  pub formed : AreFormed formats (s.left ∷ s.accesses)
  pub no_cycle : (cycle : List ℕ) → NamesCycle (length s.vars) (statement_edges s formats) cycle → ⊥

-- each tensor of the planned statement stores the entries of an operand of the given one, and each of these is stored by some
pub record AreOrigins (s : Statement) (plan : Planned) : Type 0 where
  pub operands : (tensor : ℕ) → 0 < tensor → tensor ≤ length plan.origins
      → (0 < origin_of plan.origins tensor) × (origin_of plan.origins tensor < length s.tensors)
  pub all : (place tensor : ℕ) → IsReadAt s.accesses place tensor
      → (n : ℕ) × (0 < n) × (n ≤ length plan.origins) × (origin_of plan.origins n ≡ tensor)

-- each tensor of the planned statement from 1 on has the values of the tensor whose entries it stores
abbrev pub StoreOrigins : Planned → (ℕ → List ℕ → ℕ) → (ℕ → List ℕ → ℕ) → Type 0
StoreOrigins plan values stored = (tensor : ℕ) (coords : List ℕ) → 0 < tensor → tensor ≤ length plan.origins
    → stored tensor coords ≡ values (origin_of plan.origins tensor) coords
