-- Code that appends the rows of loops as they come appends rows that have their sums: where the statement calls for no workspace, in the
-- order of the result's levels, and no workspace is refused a growth.
use Rattle.std.specs.Prelude.{◌≡◌, ◌⊎◌, ℕ, suc, false, List, length, refl}
use Rattle.std.proofs.Common.{◌∙◌, sym, subst, arith, inl, inr}
use Rattle.std.proofs.lemmas.List.{length-map}
use Rattle.numbers.specs.Arithmetic.{Arithmetic, Laws}
use Rattle.kernel_code.specs.declared.syntax.Arr.{Arr}
use Rattle.kernel_code.specs.declared.syntax.Arr.TheVariants.{Range, Values, Dimension, Ends, Coordinates, Width, Key, Sums}
use Rattle.kernel_code.specs.declared.syntax.Arr.TheVariants.{ListCoordinates, ListPositions}
use Rattle.kernel_code.specs.declared.syntax.KStmt.{KStmt}
use Rattle.kernel_code.specs.Kernels.{place_of}
use Rattle.kernel_code.proofs.Does.{does_weaker}
use Rattle.level_core.specs.Fragments.{IsOf}
use Rattle.tensor_map.specs.Entries.{Entry}
use Rattle.format_spec.specs.declared.format.FormatLevel.{FormatLevel}
use Rattle.format_spec.specs.Formats.{letters_of}
use Rattle.index_notation.specs.declared.syntax.Statement.{Statement}
use Rattle.concrete_notation.specs.declared.concrete.Concrete.{Concrete}
use Rattle.concrete_notation.specs.Contributions.{sums_of}
use Rattle.concrete_notation.specs.Nests.{left_in_order}
use Rattle.loop_code.specs.declared.loops.LoopCode.{LoopCode}
use Rattle.lowering.specs.Lowered.{IsInOrder}
use Rattle.lowering.specs.Right.{rows_to}
use Rattle.row_orders.specs.Takings.{calls_for_workspace}
use Rattle.tensor_storage.specs.Storages.{in_level_order}
use Rattle.term_code.specs.declared.places.Places.{Places}
use Rattle.kernel_correctness.specs.Stores.{Store, IsStoreOf, told_by}
use Rattle.operand_arrays.specs.Operands.{stored_in}
use Rattle.dense_results.specs.Operands.{operands_in}
use Rattle.sparse_results.specs.Tables.{table_of}
use Rattle.sparse_results.proofs.Growths.{levels_may_pass}
use Rattle.appended_results.specs.declared.sink.AppendedSink.{AppendedSink}
use Rattle.appended_results.specs.Sink.{appended_sink, RefusesSome}
use Rattle.appended_results.proofs.TableGrowths.{refused_passes}
use Rattle.appended_kernels.specs.Kernels.{AddsFromTop, AppendsFromTop, AreAppendedLoops, IsForAppended, IsLevel, IsSinkOf, MayBeRefused}
use Rattle.appended_kernels.specs.Kernels.{OnlyLevels}
use Rattle.appended_kernels.proofs.Rows.{read_store, are_rows, each_row, names_rows, rows_taken}

-- the arrays of a level, and the values, stand at levels
pub of_level : (order level : ℕ) (b : Arr) → IsOf 0 level b ⊎ (b ≡ Values 0) → IsLevel (place_of order b)
of_level order level b (inr is) = subst (λ x. IsLevel (place_of order x)) (sym is) tt
of_level order level b (inl of) = by b of
  where
    by : (b : Arr) → IsOf 0 level b → IsLevel (place_of order b)
    by Range h = absurd h
    by (Values n) h = absurd h
    by (Dimension n k) h = tt
    by (Ends n k) h = tt
    by (Coordinates n k) h = tt
    by (Width n k) h = tt
    by (Key n k) h = absurd h
    by (Sums n) h = absurd h
    by (ListCoordinates n) h = absurd h
    by (ListPositions n) h = absurd h

module _ (a : Arithmetic) (laws : Laws a) (s : Statement) (formats : List (List FormatLevel)) (c : Concrete)
    (in_order : IsInOrder s formats c) (f : IsForAppended s formats) (loops : LoopCode) (l : AreAppendedLoops s formats c loops)
    (direct : calls_for_workspace s formats in_order.order ≡ false) (k : AppendedSink) (fits : IsSinkOf a formats k) (places : Places)
    (list past : ℕ) (code : List KStmt)
    (adds : AddsFromTop a k s formats places (left_in_order s in_order.order) loops list past code) where
  abbrev rows_on : Store → List Entry
  rows_on store = rows_to a s formats (told_by a s store) (stored_in (operands_in s store)) (left_in_order s in_order.order) loops

  module _ (store : Store) (is : IsStoreOf s formats store) where
    same_levels : k.levels ≡ store.format
    same_levels = fits.levels ∙ sym is.format_is

    letters_many : length (letters_of store.format) ≡ length store.format
    letters_many = length-map store.format (λ (level : FormatLevel). level.letter)

    pub passed : (b : Arr) (count : ℕ) → appended_sink.refused k store.ranges (rows_on store) b count
        → MayBeRefused a s store OnlyLevels b count
    passed b count r =
        let rows = rows_on store in
        let here = subst (λ (levels : List FormatLevel).
        RefusesSome (letters_of levels) (in_level_order levels store.ranges) k.head rows b count) same_levels r in
        let p = refused_passes (letters_of store.format) (in_level_order store.format store.ranges) k.head rows b count here
        (table_of (sums_of a rows)) (names_rows a laws s formats c in_order f loops l store is) in
        record {
          right = levels_may_pass a s store (sums_of a rows) (are_rows a laws s formats c in_order f loops l store is) p.level b count
              (record {
                inside = (let inside = p.inside in omega (arith, inside, letters_many));
                array = p.array;
                above = p.above;
                within = p.within;
              });
          allowed = of_level (length store.format) (suc p.level) b p.array;
        }

  abbrev pub appends_directly : (spaces : List ℕ)
      → AppendsFromTop a k s formats places (left_in_order s in_order.order) loops list past spaces OnlyLevels code
  appends_directly spaces = record {
    most = adds.most;
    held = rows_on;
    each = λ store is. each_row a laws s formats c in_order f loops l store is;
    same = λ store is. refl;
    appends = λ setting same declared store is st top none has.
        let read = read_store a laws s formats c in_order f loops l store is in
        does_weaker setting code st _ _ _ (λ turns. MayBeRefused a s store OnlyLevels)
        (adds.appends setting same store read (rows_taken a laws s formats c in_order f loops l store is direct k fits) st top has)
        (λ t p. record {
          held = subst (λ b. appended_sink.holds k b store.ranges (rows_on store) t) same p.1.0;
          turns = p.0.turns;
        })
        (λ turns b count r. passed store is b count r.1);
  }
