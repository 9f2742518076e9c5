-- What is written. First of the three parts of what a command ends with (`Ends.antt`): the values of a statement, by the words and the
-- files of its operands, and where their text stands. It speaks of no kernel.
use Rattle.std.specs.Prelude.{◌≡◌, ℕ, List, Ok, length, map, slice_index, true, Vec}
use Rattle.std.specs.declared.alloc.Global.{Global}
use Rattle.outside.specs.Folder.{FolderState}
use Rattle.outside.specs.Sink.{SinkState}
use Rattle.tensor_map.specs.Entries.{Entries}
use Rattle.index_notation.specs.declared.syntax.Statement.{Statement}
use Rattle.expr_terms.specs.Operands.{operand_values}
use Rattle.expr_terms.specs.Nested.{nested_value}
use Rattle.expr_terms.specs.declared.bound.Bound.{Bound}
use Rattle.operand_files.specs.Decoded.{operand_of}
use Rattle.operand_files.specs.Reads.{OnlyReads, HaveRead, Decoding}
use Rattle.mode_planner.specs.Planned.{HaveOrder}
use Rattle.operand_packing.specs.Runnable.{told_ranges}
use Rattle.result_files.specs.Writes.{WritesResult}
use Rattle.taco_top.specs.Values.{Values}
use Rattle.taco_top.specs.Asked.{needs_files, needs_order, writes_result}
use Rattle.taco_top.specs.Run.{Request, AsksFor, path_of, orders_of, paths_of}

-- what the bytes of an operand's file stand for, over these values
abbrev pub means : Values → Decoding
means over = operand_of over.arithmetic over.has_minus over.is_signed

-- the words ask for a statement, and where the task needs it, it has a loop order by the formats of its tensors
pub record IsAccepted (words : List (List ℕ)) (r : Request) : Type 0 where
  pub asks : AsksFor words r
  pub ordered : needs_order r.task ≡ true → HaveOrder r.statement r.formats

-- the orders and the paths of its operands' files
abbrev pub asked_orders : Request → List ℕ
asked_orders r = orders_of r.statement

abbrev pub asked_paths : Request → List (List ℕ)
asked_paths r = paths_of r.statement r.files

-- and its operands were read: these are their entries, and what their modes give
pub record HasOperands (over : Values) (words : List (List ℕ)) (old new : FolderState) (r : Request) (entries : List Entries)
    (bounds : List (Vec Bound Global)) : Type 0 where
  pub accepted : IsAccepted words r
  pub reads : needs_files r.task ≡ true
  pub read : HaveRead (means over) old new (asked_orders r) (asked_paths r) (length (asked_paths r)) entries (map (λ b. b.items) bounds)

-- and the ranges of its variables agree: so what the words ask for has a result
pub record HasResult (over : Values) (words : List (List ℕ)) (old new : FolderState) : Type 0 where
  pub request : Request
  pub entries : List Entries
  pub bounds : List (Vec Bound Global)
  pub operands : HasOperands over words old new request entries bounds
  pub ranges : List ℕ
  pub ranges_are : told_ranges request.statement request.given bounds ≡ Ok ranges

-- the result's ranges, and its values
abbrev pub result_ranges : Statement → List ℕ → List ℕ
result_ranges s ranges = map (slice_index ranges) s.left.vars

abbrev pub result_value : Values → Statement → List Entries → List ℕ → List ℕ → ℕ
result_value over s entries ranges = nested_value over.arithmetic s (operand_values over.arithmetic entries) (slice_index ranges)

-- the result of `run` or `auto` was written: the text of its values; `between` is the folder as it was when the writing began
pub record IsWritten (over : Values) (words : List (List ℕ)) (files files' : FolderState) (out out' : SinkState) : Type 0 where
  pub between : FolderState
  pub only_reads : OnlyReads files between
  pub values : HasResult over words files between
  pub task_writes : writes_result values.request.task ≡ true
  pub writes : WritesResult over.arithmetic over.is_signed (path_of values.request.files 0)
      (result_ranges values.request.statement values.ranges)
      (result_value over values.request.statement values.entries values.ranges) between files' out out'
