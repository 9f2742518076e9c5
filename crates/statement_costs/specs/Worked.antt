-- Worked costs: of a product of a matrix and a vector, y(i) = A(i,j) * x(j), of a sum of vectors, y(i) = a(i) + b(i), and of a vector times
-- sums over the rows of a matrix, y(i) = b(i) * sum(j, A(i,j)) and y(i) = b(i) * sum(j, A(i,j) + 1).
use Rattle.std.specs.Prelude.{false, true, ℕ, ◌+◌, nat_eq, if◌then◌else◌, List, [], ◌∷◌}
use Rattle.level_core.specs.declared.span.Span.{Span}
use Rattle.level_core.specs.declared.span.Entry.{Entry}
use Rattle.level_core.specs.Entries.{one, span}
use Rattle.level_core.specs.declared.letter.Letter.{Letter}
use Rattle.level_core.specs.declared.letter.Letter.TheVariants.{Dense, Compressed, CompressedGroups, Singleton, Hashed}
use Rattle.format_spec.specs.declared.format.FormatLevel.{FormatLevel}
use Rattle.index_notation.specs.declared.operator.Operator.TheVariants as op
use Rattle.index_notation.specs.declared.syntax.Access.{Access}
use Rattle.index_notation.specs.declared.syntax.Expr.{Expr, Access as AccessOf, Binary}
use Rattle.index_notation.specs.declared.syntax.Name.{Name}
use Rattle.index_notation.specs.declared.syntax.Statement.{Statement}
use Rattle.expr_terms.specs.Terms.{plain_term}
use Rattle.loop_code.specs.declared.loops.LoopCode.{LoopCode, Loop, Sum, Add}
use Rattle.loop_code.specs.Loops.{Stored}

abbrev no_name : Name
no_name = record { bytes = [] }

abbrev access : ℕ → List ℕ → Access
access tensor vars = record { tensor = tensor; vars = vars }

abbrev level : Letter → ℕ → FormatLevel
level letter mode = record { letter = letter; mode = mode }

-- a coordinate with its children
abbrev entry : ℕ → Span → Entry
entry coord child = record { coord = coord; child = child }

abbrev pub product : Statement
product = record {
  tensors = no_name ∷ no_name ∷ no_name ∷ [];
  vars = no_name ∷ no_name ∷ [];
  left = access 0 (0 ∷ []);
  accumulate = false;
  accesses = access 1 (0 ∷ 1 ∷ []) ∷ access 2 (1 ∷ []) ∷ [];
  sums = [];
  expr = Binary op.Mul (AccessOf 0) (AccessOf 1);
}

-- all ranges are n
abbrev pub alike : ℕ → ℕ → ℕ
alike n v = n

-- the vector is dense, the matrix compressed in rows: two of them, with one coordinate each
abbrev pub rows_formats : List (List FormatLevel)
rows_formats = (level Dense 0 ∷ []) ∷ (level Dense 0 ∷ level Compressed 1 ∷ []) ∷ (level Dense 0 ∷ []) ∷ []

-- a dense level of two coordinates
abbrev two_below : Span → List Entry
two_below p = entry 0 (one (p.lo + p.lo)) ∷ entry 1 (one (p.lo + p.lo + 1)) ∷ []

abbrev pub rows_stored : Stored
rows_stored = record {
  entries = λ k depth p.
      if nat_eq k 1 then two_below p else (if nat_eq depth 1 then two_below p else (if nat_eq p.lo 0 then (entry 1 (one 0) ∷ [])
      else (entry 0 (one 1) ∷ [])));
  word = λ k pos. 1;
}

-- the matrix is a list of coordinates, three of them in its first row and one in its third, and two coordinates of the vector are hashed
abbrev pub list_formats : List (List FormatLevel)
list_formats = (level Dense 0 ∷ []) ∷ (level CompressedGroups 0 ∷ level Singleton 1 ∷ []) ∷ (level Hashed 0 ∷ []) ∷ []

abbrev pub list_stored : Stored
list_stored = record {
  entries = λ k depth p.
      if nat_eq k 1 then (entry 3 (one 3) ∷ entry 7 (one 0) ∷ []) else (if nat_eq depth 1 then (entry 0 (span 0 3) ∷ entry 2 (span 3 4)
      ∷ [])
      else (if nat_eq p.lo 0 then (entry 0 (one 0) ∷ entry 3 (one 1) ∷ entry 7 (one 2) ∷ []) else (entry 7 (one 3) ∷ [])));
  word = λ k pos. 1;
}

abbrev pub sum : Statement
sum = record {
  tensors = no_name ∷ no_name ∷ no_name ∷ [];
  vars = no_name ∷ [];
  left = access 0 (0 ∷ []);
  accumulate = false;
  accesses = access 1 (0 ∷ []) ∷ access 2 (0 ∷ []) ∷ [];
  sums = [];
  expr = Binary op.Add (AccessOf 0) (AccessOf 1);
}

-- vectors of the kinds of levels, of which the first has two coordinates stored, and the second one of them
abbrev pub sum_formats : Letter → List (List FormatLevel)
sum_formats letter = (level Dense 0 ∷ []) ∷ (level letter 0 ∷ []) ∷ (level Compressed 0 ∷ []) ∷ []

abbrev pub sum_stored : Stored
sum_stored = record {
  entries = λ k depth p. if nat_eq k 0 then (entry 0 (one 0) ∷ entry 2 (one 1) ∷ []) else (entry 2 (one 0) ∷ []);
  word = λ k pos. 1;
}

-- the vector times a sum over the columns of the matrix, which is read as an access of its own behind those of the two
abbrev pub nested : Expr → Statement
nested inside = record {
  tensors = no_name ∷ no_name ∷ no_name ∷ [];
  vars = no_name ∷ no_name ∷ [];
  left = access 0 (0 ∷ []);
  accumulate = false;
  accesses = access 1 (0 ∷ []) ∷ access 2 (0 ∷ 1 ∷ []) ∷ access 3 (0 ∷ []) ∷ [];
  sums = record { var = 1; inside = inside } ∷ [];
  expr = Binary op.Mul (AccessOf 0) (AccessOf 2);
}

-- the vector is compressed, with one coordinate stored, and the matrix is compressed in rows, as above
abbrev pub nested_formats : List (List FormatLevel)
nested_formats = (level Dense 0 ∷ []) ∷ (level Compressed 0 ∷ []) ∷ (level Dense 0 ∷ level Compressed 1 ∷ []) ∷ []

abbrev pub nested_stored : Stored
nested_stored = record {
  entries = λ k depth p.
      if nat_eq k 0 then (entry 1 (one 0) ∷ []) else (if nat_eq depth 1 then two_below p else (if nat_eq p.lo 0 then (entry 1 (one 0) ∷ [])
      else (entry 0 (one 1) ∷ [])));
  word = λ k pos. if nat_eq k 2 then pos else 1;
}

-- a loop over the vector's coordinates, at each of which the sum is computed and then read
abbrev pub nested_loops : Expr → LoopCode
nested_loops inside =
    Loop 0
    (record { access = 0; level = 1; full = false } ∷ record { access = 1; level = 1; full = true } ∷ [])
    (Sum 2 (Loop 1 (record { access = 1; level = 2; full = false } ∷ []) (Add (plain_term inside)))
    (Add (plain_term (Binary op.Mul (AccessOf 0) (AccessOf 2)))))
