-- What follows of loops that add the rows of a concrete statement.
use Rattle.std.specs.Prelude.{◌≡◌, ◌↔◌, ℕ, true, Bool, false, List, [], ◌∷◌, map}
use Rattle.std.specs.List.{sum_by}
use Rattle.numbers.specs.Arithmetic.{Arithmetic, Laws}
use Rattle.tensor_map.specs.Entries.{Entry, value_at, Listed}
use Rattle.format_spec.specs.declared.format.FormatLevel.{FormatLevel}
use Rattle.index_notation.specs.Statement.{IsDistinct}
use Rattle.index_notation.specs.declared.syntax.Access.{Access}
use Rattle.index_notation.specs.declared.syntax.Statement.{Statement}
use Rattle.expr_terms.specs.Points.{with_coordinate}
use Rattle.expr_terms.specs.Result.{AreBelow}
use Rattle.expr_terms.specs.Terms.{terms, contains, statement_value}
use Rattle.expr_terms.specs.declared.term.Term.{Term}
use Rattle.workspaces.specs.Presence.{is_present}
use Rattle.workspaces.specs.PresenceLaws.{AreZeroElsewhere}
use Rattle.concrete_notation.specs.Contributions.{Inputs, passed_on, sums_of}
use Rattle.concrete_notation.specs.Nests.{Nest, nest_of}
use Rattle.concrete_notation.specs.Right.{IsInSupport}
use Rattle.loop_code.specs.declared.loops.LoopCode.{LoopCode}
use Rattle.loop_code.specs.Loops.{Stored, start, contributions}
use Rattle.loop_code.specs.Turns.{count_below}
use Rattle.lowering.specs.Held.{AreHeld}
use Rattle.lowering.specs.Layouts.{layout_of}

-- the rows that loops add to a target
abbrev pub rows_to : Arithmetic → Statement → List (List FormatLevel) → Inputs → Stored → List ℕ → LoopCode → List Entry
rows_to a s formats inputs stored target loops = contributions a (layout_of s formats) stored inputs.ranges target loops start

-- the keys are the left variables of a statement, each once
pub record AreKeys (s : Statement) (keys : List ℕ) : Type 0 where
  pub once : IsDistinct keys
  pub left : (v : ℕ) → contains keys v ≡ contains s.left.vars v

-- whatever is stored of operands that are zero where they have no path: rows have the statement's values at each point of the
-- left side, and the points that have any are exactly its support
pub record HaveValues (a : Arithmetic) (s : Statement) (inputs : Inputs) (rows : List Entry) : Type 0 where
  pub values : (coords : List ℕ) → AreBelow coords (map inputs.ranges s.left.vars)
      → value_at a rows coords ≡ statement_value a s inputs.values inputs.ranges coords
  pub support : (coords : List ℕ) → Listed rows coords ↔ IsInSupport s inputs coords

-- loops are right for a statement: so it is of the rows that they add to the left variables, and of those that they add to keys of a
-- workspace, summed there and passed on
pub record AreRight (s : Statement) (formats : List (List FormatLevel)) (loops : LoopCode) : Type 0 where
  pub added : (a : Arithmetic) → Laws a → (inputs : Inputs) (stored : Stored) → AreHeld a (layout_of s formats) stored s inputs
      → AreZeroElsewhere a inputs.paths inputs.values → HaveValues a s inputs (rows_to a s formats inputs stored s.left.vars loops)
  pub summed : (a : Arithmetic) → Laws a → (inputs : Inputs) (stored : Stored) → AreHeld a (layout_of s formats) stored s inputs
      → AreZeroElsewhere a inputs.paths inputs.values → (keys : List ℕ) → AreKeys s keys
      → HaveValues a s inputs (map (passed_on s.left.vars (λ v. 0) keys) (sums_of a (rows_to a s formats inputs stored keys loops)))

-- the sum of plain numbers over all choices of some variables' coordinates
abbrev pub count_over : (ℕ → ℕ) → List ℕ → ((ℕ → ℕ) → ℕ) → (ℕ → ℕ) → ℕ
count_over ranges [] f point = f point
count_over ranges (v ∷ vs) f point = count_below (ranges v) (λ x. count_over ranges vs f (with_coordinate point v x))

abbrev pub one_if : Bool → ℕ
one_if true = 1
one_if false = 0

-- at how many points of the variables around it a term is present
abbrev pub pairs_of : Inputs → List Access → (ℕ → ℕ) → Nest → ℕ
pairs_of inputs accesses point n =
    count_over inputs.ranges n.loops (λ p. one_if (is_present inputs.paths accesses p n.term.expr)) point

-- the number of pairs of a term and a point of the left variables and its own ones, in any loop order, at which it is present
abbrev pub pairs : Statement → List ℕ → Inputs → ℕ
pairs s order inputs = sum_by (λ (t : Term). pairs_of inputs s.accesses (λ v. 0) (nest_of s order t)) (terms s.expr)
