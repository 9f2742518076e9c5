-- Nested sums as tensors: to an expression outside, a sum over one variable is a tensor of the variables that are free in it. Its
-- value at coordinates of these is the sum of what stands inside, over the whole range of its own variable.
use Rattle.std.specs.Prelude.{ℕ, ◌+◌, nat_eq, not, ◌&&◌, Bool, if◌then◌else◌, List, [], ◌∷◌, ◌++◌, length, filter}
use Rattle.numbers.specs.Arithmetic.{Arithmetic}
use Rattle.index_notation.specs.Numbering.{sum_name}
use Rattle.index_notation.specs.Statement.{numbers_from}
use Rattle.index_notation.specs.declared.syntax.Access.{Access}
use Rattle.index_notation.specs.declared.syntax.Name.{Name}
use Rattle.index_notation.specs.declared.syntax.NestedSum.{NestedSum}
use Rattle.index_notation.specs.declared.syntax.Statement.{Statement}
use Rattle.expr_terms.specs.Points.{point_of, sum_over}
use Rattle.expr_terms.specs.Terms.{stands_in, statement_value}
use Rattle.expr_terms.specs.Value.{value_of}

-- whether a variable is free in a sum over these accesses: it stands inside, and isn't the sum's own
abbrev pub is_free : List Access → NestedSum → ℕ → Bool
is_free accesses sum v = stands_in accesses v sum.inside && not (nat_eq v sum.var)

-- those of so many variables, in standing order
abbrev pub free_in : ℕ → List Access → NestedSum → List ℕ
free_in vars accesses sum = filter (is_free accesses sum) (numbers_from 0 vars)

-- a sum as an access to a tensor
abbrev pub sum_access : ℕ → List Access → ℕ → NestedSum → Access
sum_access vars accesses tensor sum = record { tensor = tensor; vars = free_in vars accesses sum }

-- accesses, and behind them those of sums, whose tensors are numbered from one on: inside each stand accesses and earlier sums
abbrev pub accesses_with : ℕ → List Access → ℕ → List NestedSum → List Access
accesses_with vars accesses tensor [] = accesses
accesses_with vars accesses tensor (sum ∷ sums) =
    accesses_with vars (accesses ++ (sum_access vars accesses tensor sum ∷ [])) (tensor + 1) sums

-- the names of tensors, and for each sum one that is no tensor's
abbrev pub names_with : List Name → List NestedSum → List Name
names_with names [] = names
names_with names (sum ∷ sums) = names_with (names ++ (sum_name ∷ [])) sums

-- the statement that reads each of its sums as a tensor: no nested sum stands in its expression
abbrev pub flat : Statement → Statement
flat s = record {
  tensors = names_with s.tensors s.sums;
  vars = s.vars;
  left = s.left;
  accumulate = s.accumulate;
  accesses = accesses_with (length s.vars) s.accesses (length s.tensors) s.sums;
  sums = s.sums;
  expr = s.expr;
}

-- what is told of tensors, and of one more
abbrev pub with_tensor : {V : Type 0} → (ℕ → List ℕ → V) → ℕ → (List ℕ → V) → ℕ → List ℕ → V
with_tensor told tensor one other coords = if nat_eq other tensor then one coords else told other coords

-- the value of a sum at coordinates of its free variables
abbrev pub sum_value : Arithmetic → (ℕ → ℕ) → ℕ → List Access → (ℕ → List ℕ → ℕ) → NestedSum → List ℕ → ℕ
sum_value a ranges vars accesses values sum coords =
    sum_over a ranges (sum.var ∷ []) (λ p. value_of a values accesses p sum.inside) (point_of (free_in vars accesses sum) coords)

-- the values of tensors, and behind them of sums
abbrev pub values_with : Arithmetic → (ℕ → ℕ) → ℕ → List Access → ℕ → List NestedSum → (ℕ → List ℕ → ℕ)
    → ℕ → List ℕ → ℕ
values_with a ranges vars accesses tensor [] values = values
values_with a ranges vars accesses tensor (sum ∷ sums) values =
    values_with a ranges vars (accesses ++ (sum_access vars accesses tensor sum ∷ [])) (tensor + 1) sums
    (with_tensor values tensor (sum_value a ranges vars accesses values sum))

-- those of a statement's tensors and sums
abbrev pub flat_values : Arithmetic → Statement → (ℕ → List ℕ → ℕ) → (ℕ → ℕ) → ℕ → List ℕ → ℕ
flat_values a s values ranges = values_with a ranges (length s.vars) s.accesses (length s.tensors) s.sums values

-- the value of a statement with nested sums at a point of the left side
abbrev pub nested_value : Arithmetic → Statement → (ℕ → List ℕ → ℕ) → (ℕ → ℕ) → List ℕ → ℕ
nested_value a s values ranges coords = statement_value a (flat s) (flat_values a s values ranges) ranges coords
