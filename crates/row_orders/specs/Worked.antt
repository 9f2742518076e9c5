-- Worked statements: of vectors and matrices, with formats of their results.
use Rattle.std.specs.Prelude.{false, ℕ, List, [], ◌∷◌}
use Rattle.level_core.specs.declared.letter.Letter.{Letter}
use Rattle.format_spec.specs.declared.format.FormatLevel.{FormatLevel}
use Rattle.index_notation.specs.declared.operator.Operator.TheVariants as op
use Rattle.index_notation.specs.declared.syntax.Access.{Access}
use Rattle.index_notation.specs.declared.syntax.Expr.{Access as AccessOf, Binary}
use Rattle.index_notation.specs.declared.syntax.Name.{Name}
use Rattle.index_notation.specs.declared.syntax.Statement.{Statement}

abbrev no_name : Name
no_name = record { bytes = [] }

abbrev access : ℕ → List ℕ → Access
access tensor vars = record { tensor = tensor; vars = vars }

abbrev pub level : Letter → ℕ → FormatLevel
level letter mode = record { letter = letter; mode = mode }

-- a result of one level, and of two that store the modes in their own order or turned
abbrev pub of_one : Letter → List (List FormatLevel)
of_one letter = (level letter 0 ∷ []) ∷ []

abbrev pub of_two : Letter → Letter → List (List FormatLevel)
of_two first second = (level first 0 ∷ level second 1 ∷ []) ∷ []

abbrev pub of_columns : Letter → Letter → List (List FormatLevel)
of_columns first second = (level first 1 ∷ level second 0 ∷ []) ∷ []

-- a(i) = b(i) + c(i)
abbrev pub vector_sum : Statement
vector_sum = record {
  tensors = no_name ∷ no_name ∷ no_name ∷ [];
  vars = no_name ∷ [];
  left = access 0 (0 ∷ []);
  accumulate = false;
  accesses = access 1 (0 ∷ []) ∷ access 2 (0 ∷ []) ∷ [];
  sums = [];
  expr = Binary op.Add (AccessOf 0) (AccessOf 1);
}

-- a(i) = B(i,j) * c(j): j is variable 1
abbrev pub matrix_times_vector : Statement
matrix_times_vector = record {
  tensors = no_name ∷ no_name ∷ no_name ∷ [];
  vars = no_name ∷ no_name ∷ [];
  left = access 0 (0 ∷ []);
  accumulate = false;
  accesses = access 1 (0 ∷ 1 ∷ []) ∷ access 2 (1 ∷ []) ∷ [];
  sums = [];
  expr = Binary op.Mul (AccessOf 0) (AccessOf 1);
}

-- A(i,j) = B(i,k) * C(k,j), and A(i,j) = B(i,k) * C(j,k): k is variable 2
abbrev pub matrix_product : List ℕ → Statement
matrix_product second = record {
  tensors = no_name ∷ no_name ∷ no_name ∷ [];
  vars = no_name ∷ no_name ∷ no_name ∷ [];
  left = access 0 (0 ∷ 1 ∷ []);
  accumulate = false;
  accesses = access 1 (0 ∷ 2 ∷ []) ∷ access 2 second ∷ [];
  sums = [];
  expr = Binary op.Mul (AccessOf 0) (AccessOf 1);
}

-- a(i) = b(i) + C(j,i): j, which the second term alone has, is variable 1
abbrev pub vector_and_columns : Statement
vector_and_columns = record {
  tensors = no_name ∷ no_name ∷ no_name ∷ [];
  vars = no_name ∷ no_name ∷ [];
  left = access 0 (0 ∷ []);
  accumulate = false;
  accesses = access 1 (0 ∷ []) ∷ access 2 (1 ∷ 0 ∷ []) ∷ [];
  sums = [];
  expr = Binary op.Add (AccessOf 0) (AccessOf 1);
}
