-- Which coordinates are paths of nested sums: of a sum as a tensor of its free variables those at which what stands inside is present
-- for some coordinate of its own variable.
use Rattle.std.specs.Prelude.{ℕ, ◌+◌, Bool, List, [], ◌∷◌, ◌++◌, length}
use Rattle.std.specs.List.{list_any}
use Rattle.index_notation.specs.Statement.{numbers_from}
use Rattle.index_notation.specs.declared.syntax.Access.{Access}
use Rattle.index_notation.specs.declared.syntax.NestedSum.{NestedSum}
use Rattle.index_notation.specs.declared.syntax.Statement.{Statement}
use Rattle.expr_terms.specs.Nested.{free_in, sum_access, with_tensor}
use Rattle.expr_terms.specs.Points.{point_of, with_coordinate}
use Rattle.workspaces.specs.Presence.{is_present}

-- whether something is so for some coordinate of a variable below its range, the others as in the point
abbrev pub any_over : (ℕ → ℕ) → ℕ → ((ℕ → ℕ) → Bool) → (ℕ → ℕ) → Bool
any_over ranges v is_so point = list_any (λ x. is_so (with_coordinate point v x)) (numbers_from 0 (ranges v))

-- whether coordinates of its free variables are a path of a sum
abbrev pub sum_paths : (ℕ → ℕ) → ℕ → List Access → (ℕ → List ℕ → Bool) → NestedSum → List ℕ → Bool
sum_paths ranges vars accesses paths sum coords =
    any_over ranges sum.var (λ p. is_present paths accesses p sum.inside) (point_of (free_in vars accesses sum) coords)

-- the paths of tensors, and behind them of sums
abbrev pub paths_with : (ℕ → ℕ) → ℕ → List Access → ℕ → List NestedSum → (ℕ → List ℕ → Bool) → ℕ → List ℕ → Bool
paths_with ranges vars accesses tensor [] paths = paths
paths_with ranges vars accesses tensor (sum ∷ sums) paths =
    paths_with ranges vars (accesses ++ (sum_access vars accesses tensor sum ∷ [])) (tensor + 1) sums
    (with_tensor paths tensor (sum_paths ranges vars accesses paths sum))

-- those of a statement's tensors and sums
abbrev pub flat_paths : Statement → (ℕ → List ℕ → Bool) → (ℕ → ℕ) → ℕ → List ℕ → Bool
flat_paths s paths ranges = paths_with ranges (length s.vars) s.accesses (length s.tensors) s.sums paths
