-- The few facts about the stated limits that proofs use.
use Rattle.std.specs.Prelude.{◌≡◌, ◌^◌, ◌<◌, ◌≤◌, refl}
use Rattle.std.proofs.Common.{lit<, lit≤}
use Rattle.limits.specs.Limits.{greatest_position_count, greatest_range_word, greatest_file_coordinate, greatest_matrix_size}
use Rattle.limits.specs.Limits.{greatest_matrix_entries, greatest_workspace_pairs, greatest_order, greatest_variables, greatest_accesses}
use Rattle.limits.specs.Limits.{greatest_operands, greatest_nesting, greatest_literal, greatest_text_bytes, greatest_line_bytes}
use Rattle.limits.specs.Limits.{greatest_file_bytes, greatest_workload}

-- sums and differences of a few counts of positions fit a word
pub positions_are_small : greatest_position_count < 2 ^ 62
unfolding greatest_position_count
positions_are_small = lit< tt

-- a level may have a position
pub some_positions : 0 < greatest_position_count
unfolding greatest_position_count
some_positions = lit< tt

-- a range that a word gives is a range of a mode
pub range_words_are_ranges : greatest_range_word ≤ greatest_position_count
unfolding greatest_position_count greatest_range_word
range_words_are_ranges = lit≤ tt

-- a coordinate of a file, counted from 1, is a range of a mode
pub file_coordinates_are_ranges : greatest_file_coordinate ≤ greatest_position_count
unfolding greatest_position_count greatest_file_coordinate
file_coordinates_are_ranges = lit≤ tt

-- a file may have a coordinate
pub some_file_coordinates : 0 < greatest_file_coordinate
unfolding greatest_file_coordinate
some_file_coordinates = lit< tt

-- a size of a matrix is a range of a mode
pub matrix_sizes_are_ranges : greatest_matrix_size ≤ greatest_position_count
unfolding greatest_position_count greatest_matrix_size
matrix_sizes_are_ranges = lit≤ tt

-- counts of entries fit a word
pub matrix_entries_are_small : greatest_matrix_entries < 2 ^ 62
unfolding greatest_matrix_entries
matrix_entries_are_small = lit< tt

-- counts of pairs fit a word
pub workspace_pairs_are_small : greatest_workspace_pairs < 2 ^ 62
unfolding greatest_workspace_pairs
workspace_pairs_are_small = lit< tt

-- a workspace and a level have one limit
pub workspace_pairs_are_positions : greatest_workspace_pairs ≡ greatest_position_count
unfolding greatest_position_count greatest_workspace_pairs
workspace_pairs_are_positions = refl

-- orders fit any counter
pub orders_are_small : greatest_order < 2 ^ 8
unfolding greatest_order
orders_are_small = lit< tt

-- as many variables as an access may have may stand in a statement
pub orders_are_variables : greatest_order ≤ greatest_variables
unfolding greatest_order greatest_variables
orders_are_variables = lit≤ tt

-- numbers of variables fit any counter
pub variables_are_small : greatest_variables < 2 ^ 8
unfolding greatest_variables
variables_are_small = lit< tt

-- numbers of accesses fit any counter
pub accesses_are_small : greatest_accesses < 2 ^ 8
unfolding greatest_accesses
accesses_are_small = lit< tt

-- each access is an operand
pub accesses_are_operands : greatest_accesses ≤ greatest_operands
unfolding greatest_accesses greatest_operands
accesses_are_operands = lit≤ tt

-- a statement may have an access
pub some_accesses : 0 < greatest_accesses
unfolding greatest_accesses
some_accesses = lit< tt

-- numbers of operands fit any counter
pub operands_are_small : greatest_operands < 2 ^ 8
unfolding greatest_operands
operands_are_small = lit< tt

-- levels of nesting fit any counter
pub nesting_is_small : greatest_nesting < 2 ^ 8
unfolding greatest_nesting
nesting_is_small = lit< tt

-- a number of an expression is a word that isn't negative
pub literals_are_words : greatest_literal < 2 ^ 63
unfolding greatest_literal
literals_are_words = lit< tt

-- places in a statement's text fit any counter
pub texts_are_small : greatest_text_bytes < 2 ^ 31
unfolding greatest_text_bytes
texts_are_small = lit< tt

-- places in a line fit any counter
pub lines_are_small : greatest_line_bytes < 2 ^ 31
unfolding greatest_line_bytes
lines_are_small = lit< tt

-- a line may have a byte
pub some_line_bytes : 0 < greatest_line_bytes
unfolding greatest_line_bytes
some_line_bytes = lit< tt

-- places in a file fit a word
pub files_are_small : greatest_file_bytes < 2 ^ 62
unfolding greatest_file_bytes
files_are_small = lit< tt

-- the size of the workload is a range of a mode
pub workloads_are_ranges : greatest_workload ≤ greatest_position_count
unfolding greatest_position_count greatest_workload
workloads_are_ranges = lit≤ tt
