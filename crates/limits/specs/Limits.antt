-- The stated limits. The facts about them that proofs use stand in proofs/Limits.antt: no proof computes with a numeral.
use Rattle.std.specs.Prelude.{ℕ}

-- the greatest number of positions of one level of a tensor's storage, and the greatest range of a mode: 2^40
unfoldable pub greatest_position_count : ℕ
greatest_position_count = 1099511627776

-- the greatest range that a word `VAR#RANGE` of the command line may give
unfoldable pub greatest_range_word : ℕ
greatest_range_word = 1099511627776

-- the greatest coordinate, counted from 1, that a file may have
unfoldable pub greatest_file_coordinate : ℕ
greatest_file_coordinate = 1099511627776

-- the greatest number of rows, and of columns, that a Matrix Market file may give
unfoldable pub greatest_matrix_size : ℕ
greatest_matrix_size = 1099511627776

-- the greatest number of entries that a Matrix Market file may announce: 2^40
unfoldable pub greatest_matrix_entries : ℕ
greatest_matrix_entries = 1099511627776

-- the greatest number of pairs of coordinates and value that are added to one workspace since it was empty
unfoldable pub greatest_workspace_pairs : ℕ
greatest_workspace_pairs = 1099511627776

-- the greatest order of a tensor, which is the greatest number of variables of one access
unfoldable pub greatest_order : ℕ
greatest_order = 6

-- the greatest number of different variables of one statement
unfoldable pub greatest_variables : ℕ
greatest_variables = 8

-- the greatest number of accesses on the right side of a statement
unfoldable pub greatest_accesses : ℕ
greatest_accesses = 8

-- the greatest number of accesses and numbers on the right side of a statement
unfoldable pub greatest_operands : ℕ
greatest_operands = 16

-- the greatest number of brackets and prefix minus signs that are open at one place of an expression
unfoldable pub greatest_nesting : ℕ
greatest_nesting = 32

-- the greatest number that may be written in an expression: 2^63 - 1
unfoldable pub greatest_literal : ℕ
greatest_literal = 9223372036854775807

-- the greatest number of bytes of a statement's text
unfoldable pub greatest_text_bytes : ℕ
greatest_text_bytes = 4096

-- the greatest number of bytes of a file's line, without its end
unfoldable pub greatest_line_bytes : ℕ
greatest_line_bytes = 65536

-- the greatest number of bytes of a file that is read: 2^40
unfoldable pub greatest_file_bytes : ℕ
greatest_file_bytes = 1099511627776

-- the greatest size N of the generated workload
unfoldable pub greatest_workload : ℕ
greatest_workload = 1000000
