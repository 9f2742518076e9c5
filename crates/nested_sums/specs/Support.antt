-- At which points of the left side a statement with nested sums has some term that is present, for some choice of its own variables.
use Rattle.std.specs.Prelude.{◌≡◌, ℕ, Bool, List, [], ◌∷◌}
use Rattle.std.specs.List.{list_any}
use Rattle.index_notation.specs.declared.syntax.Statement.{Statement}
use Rattle.expr_terms.specs.Nested.{flat}
use Rattle.expr_terms.specs.Points.{point_of}
use Rattle.expr_terms.specs.Terms.{terms, own_variables}
use Rattle.expr_terms.specs.declared.term.Term.{Term}
use Rattle.workspaces.specs.Nested.{any_over, flat_paths}
use Rattle.workspaces.specs.Presence.{is_present}

-- whether something is so for some choice of these variables' coordinates within their ranges, the others as in the point
abbrev pub some_choice : (ℕ → ℕ) → List ℕ → ((ℕ → ℕ) → Bool) → (ℕ → ℕ) → Bool
some_choice ranges [] is_so point = is_so point
some_choice ranges (v ∷ vs) is_so point = any_over ranges v (some_choice ranges vs is_so) point

-- whether a term is present for some choice of its own variables, by the paths of the tensors
abbrev pub term_is_there : Statement → (ℕ → List ℕ → Bool) → (ℕ → ℕ) → (ℕ → ℕ) → Term → Bool
term_is_there s paths ranges point t =
    some_choice ranges (own_variables (flat s) t) (λ p. is_present (flat_paths s paths ranges) (flat s).accesses p t.expr) point

-- whether a point of the left side is in the support
abbrev pub in_support : Statement → (ℕ → List ℕ → Bool) → (ℕ → ℕ) → List ℕ → Bool
in_support s paths ranges coords = list_any (term_is_there s paths ranges (point_of s.left.vars coords)) (terms s.expr)

-- the same points are in the support of both, whatever the paths of their tensors and the ranges of their variables
abbrev pub KeepsSupport : Statement → Statement → Type 0
KeepsSupport s out = (paths : ℕ → List ℕ → Bool) (ranges : ℕ → ℕ) (coords : List ℕ)
    → in_support out paths ranges coords ≡ in_support s paths ranges coords
