-- Terms with equal sets of own variables form a group.
use Rattle.std.specs.Prelude.{ℕ, nat_eq, not, List, [], ◌∷◌, map, filter}
use Rattle.std.specs.Cmp.Lexicographic.{pointwise}
use Rattle.numbers.specs.Arithmetic.{Arithmetic}
use Rattle.numbers.specs.Sums.{total_of}
use Rattle.index_notation.specs.declared.syntax.Statement.{Statement}
pub use Rattle.expr_terms.specs.declared.group.Group.{Group}
use Rattle.expr_terms.specs.Points.{sum_over}
use Rattle.expr_terms.specs.Terms.{Term, terms, own_variables, term_value}

-- lists of numbers, each once, where it stands first
abbrev pub firsts : List (List ℕ) → List (List ℕ)
firsts [] = []
firsts (vs ∷ others) = vs ∷ filter (λ ws. not (pointwise nat_eq ws vs)) (firsts others)

-- of these terms those whose own variables are these, in order
abbrev pub group_in : Statement → List Term → List ℕ → Group
group_in s ts vs = record { vars = vs; terms = filter (λ t. pointwise nat_eq (own_variables s t) vs) ts }

-- the groups of these terms, in the order of their first terms
abbrev pub groups_in : Statement → List Term → List Group
groups_in s ts = map (group_in s ts) (firsts (map (own_variables s) ts))

-- the groups of a statement
abbrev pub groups : Statement → List Group
groups s = groups_in s (terms s.expr)

-- what a group adds: its terms' values, summed over its variables at once
abbrev pub group_sum : Arithmetic → Statement → (ℕ → List ℕ → ℕ) → (ℕ → ℕ) → (ℕ → ℕ) → Group → ℕ
group_sum a s values ranges point g = sum_over a ranges g.vars (λ p. total_of a (map (term_value a values s.accesses p) g.terms)) point
