-- A result that rows are appended to as the place where rows go. A row's coordinates stand in the order of the levels.
use Rattle.std.specs.Prelude.{◌≡◌, ℕ, zero, suc, ◌+◌, List, [], ◌∷◌, ◌++◌, length, slice_index}
use Rattle.std.specs.List.{range_with_len}
use Rattle.kernel_code.specs.declared.syntax.Arr.{Arr}
use Rattle.kernel_code.specs.declared.syntax.KExpr.{Var}
use Rattle.kernel_code.specs.declared.syntax.KStmt.{KStmt, Set}
use Rattle.tensor_map.specs.Entries.{Entry}
use Rattle.level_core.specs.declared.letter.Letter.{Letter}
use Rattle.format_spec.specs.Formats.{letters_of}
use Rattle.tensor_storage.specs.Storages.{in_level_order}
use Rattle.result_targets.specs.Sinks.{Sink}
use Rattle.appended_results.specs.Levels.{IsMine, IsKept}
use Rattle.appended_results.specs.Opening.{OpensHead}
use Rattle.appended_results.specs.Values.{add_code}
use Rattle.appended_results.specs.Results.{HoldsRows, MayCome, RefusesRows}
pub use Rattle.appended_results.specs.declared.sink.AppendedSink.{AppendedSink}

-- the kinds of the levels
abbrev pub letters_in : AppendedSink → List Letter
letters_in k = letters_of k.levels

-- a growth that is refused where the result is to hold the first of these rows
pub record RefusesSome (letters : List Letter) (sizes : List ℕ) (head : ℕ) (rows : List Entry) (a : Arr) (count : ℕ) : Type 0 where
  pub front : List Entry
  pub rest : List Entry
  pub is : rows ≡ front ++ rest
  pub refuses : RefusesRows letters sizes head front a count

-- ranges are those of the modes
abbrev pub appended_sink : Sink AppendedSink
appended_sink = record {
  mine = λ k. IsMine k.base (length k.levels);
  kept = λ k. IsKept;
  keys = λ k. length k.levels;
  takes = λ k ranges. MayCome (in_level_order k.levels ranges) k.head;
  holds = λ k a ranges. HoldsRows a (letters_in k) (in_level_order k.levels ranges) k.head k.base k.zero;
  refused = λ k ranges. RefusesSome (letters_in k) (in_level_order k.levels ranges) k.head;
}

-- the code of a row whose coordinates stand in variables beside the sink's: its head is opened, and its value added
pub record IsRowCode (k : AppendedSink) (keys : List ℕ) (value free : ℕ) (code : List KStmt) : Type 0 where
  pub opening : List KStmt
  pub opens : OpensHead (letters_in k) k.head k.base free k.zero keys opening
  pub is : code ≡ opening ++ add_code k.base k.head keys value

-- the first n of these variables are copied to those from free on
abbrev pub copy_code : ℕ → List ℕ → ℕ → List KStmt
copy_code free keys zero = []
copy_code free keys (suc n) = copy_code free keys n ++ Set (free + n) (Var (slice_index keys n)) ∷ []

-- the code of a row whose coordinates and value are copied first, to variables from free on
pub record IsCopiedRow (k : AppendedSink) (keys : List ℕ) (value free : ℕ) (code : List KStmt) : Type 0 where
  pub row : List KStmt
  pub adds : IsRowCode k (range_with_len free (length keys)) (free + length keys) (free + length keys + 1) row
  pub is : code ≡ (copy_code free keys (length keys) ++ Set (free + length keys) (Var value) ∷ []) ++ row
