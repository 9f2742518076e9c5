-- The entries of an operand that was read keep to what it tells of its modes, and this keeps to the limits.
use Rattle.std.specs.Prelude.{◌≡◌, ℕ, zero, suc, ◌+◌, ◌<◌, ◌≤◌, max, Bool, true, false, cond, ◌==◌, if◌then◌else◌, List, [], ◌∷◌}
use Rattle.std.specs.Prelude.{length, map}
use Rattle.std.specs.Prelude.{Result, Ok, Err, IfOk, All, slice_get, slice_index, slice_index_or, refl}
use Rattle.std.specs.List.{range_with_len}
use Rattle.std.proofs.Common.{◌∙◌, sym, ap, subst, arith, inl, inr}
use Rattle.std.proofs.lemmas.Bool.{eqb-true}
use Rattle.std.proofs.lemmas.List.Elements.{All-nil, All-cons, All-tail}
use Rattle.lists.specs.Each.{Each}
use Rattle.limits.specs.Limits.{greatest_position_count, greatest_matrix_size}
use Rattle.limits.proofs.Limits.{file_coordinates_are_ranges, matrix_sizes_are_ranges}
use Rattle.numbers.specs.Arithmetic.{Arithmetic}
use Rattle.tensor_map.specs.Entries.{Entry}
use Rattle.text_lines.specs.Cutting.{is_long}
use Rattle.text_lines.specs.Lines.{lines}
use Rattle.text_lines.specs.Tokens.{tokens}
use Rattle.expr_terms.specs.declared.bound.Bound.{Bound}
use Rattle.expr_terms.specs.declared.bound.Bound.TheVariants.{Exact, AtLeast}
use Rattle.expr_terms.specs.Ranges.{reach}
use Rattle.expr_terms.specs.Told.{bound_or_none}
use Rattle.expr_terms.proofs.RangeLaws.{reach_above}
use Rattle.bindings.specs.Words.{is_mtx}
use Rattle.tns_io.specs.Reading.{Reading, coordinate_of, value_of, value_alone, with_first, entry_of, is_comment}
use Rattle.tns_io.specs.Reading.{read_or_bad, reading_of_tokens, reading, BadLine, before_others, entries_from, entries_of_text}
use Rattle.tns_io.specs.Reading.Reading.{Skipped, Read, Bad}
use Rattle.tns_io.specs.WrittenLaws.{AreInFile}
use Rattle.text_lines.specs.declared.line_kind.LineKind.{LineKind}
use Rattle.text_lines.specs.declared.line_kind.LineKind.TheVariants.{LongLine, Fields}
use Rattle.tns_io.proofs.ReadLaws.{entries_in_file}
use Rattle.mtx_io.specs.Entry.{coords_of}
use Rattle.mtx_io.specs.Matrix.{Matrix, matrix_of_text}
use Rattle.mtx_io.specs.Matrix as matrix
use Rattle.mtx_io.specs.Progress.{IsMatrixOrder}
use Rattle.mtx_io.specs.SizeLaws.{IsOfSizes}
use Rattle.mtx_io.specs.Text.{IsBelow}
use Rattle.mtx_io.proofs.BelowSizes.{text_below}
use Rattle.operand_files.specs.Decoded.{Operand, IsReadable, reached, sizes, of_entries, of_matrix, operand_of}
use Rattle.operand_packing.specs.Operands.{limit_of, IsBounded}

abbrev pub bound_in : List Bound → ℕ → Bound
bound_in bounds mode = bound_or_none (slice_get bounds mode)

-- the operand has this order, its entries keep to its bounds, and these to the limit
pub record IsKept (order : ℕ) (operand : Operand) : Type 0 where
  pub order_is : operand.entries.order ≡ order
  pub bounded : All (λ entry. IsBounded (bound_in operand.bounds) order entry.coords) operand.entries.list
  pub small : (mode : ℕ) → limit_of (bound_in operand.bounds mode) ≤ greatest_position_count

-- ---- the length of a `.tns` file's coordinate lists
entry_long : (signed : Bool) (ts : List (List ℕ)) (entry : Entry) → entry_of signed ts ≡ Ok entry → length entry.coords + 1 ≡ length ts
entry_long signed [] entry e = absurd cc
entry_long signed (token ∷ []) entry e = alone (value_of signed token) e
  where
    alone : (value : Result ℕ LineKind) → value_alone value ≡ Ok entry → length entry.coords + 1 ≡ 1
    alone (Err kind) e = absurd cc
    alone (Ok v) e =
        let same : record { coords = []; value = v } ≡ entry = cc in
        let none : 0 ≡ length entry.coords = ap (λ (x : Entry). length x.coords) same in omega (arith, none)
entry_long signed (token ∷ next ∷ more) entry e = by (coordinate_of token) (entry_of signed (next ∷ more)) e
    (λ x h. entry_long signed (next ∷ more) x h)
  where
    by : (first : Result ℕ LineKind) (others : Result Entry LineKind) → with_first first others ≡ Ok entry
        → ((x : Entry) → others ≡ Ok x → length x.coords + 1 ≡ length (next ∷ more)) → length entry.coords + 1 ≡ length
        (token ∷ next ∷ more)
    by (Err kind) others e rest = absurd cc
    by (Ok c) (Err kind) e rest = absurd cc
    by (Ok c) (Ok x) e rest =
        let same : record { coords = c ∷ x.coords; value = x.value } ≡ entry = cc in
        let long : length (c ∷ x.coords) ≡ length entry.coords = ap (λ (x : Entry). length x.coords) same in
        let behind = rest x refl in
        omega (arith, long, behind)

read_is : (r : Result Entry LineKind) (entry : Entry) → read_or_bad r ≡ Read entry → r ≡ Ok entry
read_is (Ok x) entry e = let same : x ≡ entry = cc in ap Ok same
read_is (Err kind) entry e = absurd cc

tokens_long : (signed : Bool) (order : ℕ) (ts : List (List ℕ)) (entry : Entry) → reading_of_tokens signed order ts ≡ Read entry
    → length entry.coords ≡ order
tokens_long signed order [] entry e = absurd cc
tokens_long signed order (token ∷ more) entry e = by (is_comment token) (length more == order) refl e
  where
    by : (comment long : Bool) → (length more == order) ≡ long
        → cond comment Skipped (cond long (read_or_bad (entry_of signed (token ∷ more))) (Bad Fields)) ≡ Read entry
        → length entry.coords ≡ order
    by true long t h = absurd cc
    by false false t h = absurd cc
    by false true t h =
        let long = entry_long signed (token ∷ more) entry (read_is (entry_of signed (token ∷ more)) entry h) in
        let same = eqb-true (length more) order t in
        omega (arith, long, same)

line_long : (signed : Bool) (order : ℕ) (line : List ℕ) (entry : Entry) → reading signed order line ≡ Read entry
    → length entry.coords ≡ order
line_long signed order line entry e = by (is_long line) e
  where
    by : (b : Bool) → cond b (Bad LongLine) (reading_of_tokens signed order (tokens line)) ≡ Read entry → length entry.coords ≡ order
    by true h = absurd cc
    by false h = tokens_long signed order (tokens line) entry h

abbrev AreLong : ℕ → List Entry → Type 0
AreLong order list = All (λ entry. length entry.coords ≡ order) list

lines_long : (signed : Bool) (order number : ℕ) (ls : List (List ℕ)) (list : List Entry) → entries_from signed order number ls ≡ Ok list
    → AreLong order list
lines_long signed order number [] list e =
    let none : [] ≡ list = cc in subst (AreLong order) none (All-nil (λ (entry : Entry). length entry.coords ≡ order))
lines_long signed order number (line ∷ ls) list e =
    by (reading signed order line) (entries_from signed order (number + 1) ls) e (λ entry h. line_long signed order line entry h)
    (λ found h. lines_long signed order (number + 1) ls found h)
  where
    by : (r : Reading) (others : Result (List Entry) BadLine) → before_others number r others ≡ Ok list
        → ((entry : Entry) → r ≡ Read entry → length entry.coords ≡ order)
        → ((found : List Entry) → others ≡ Ok found → AreLong order found) → AreLong order list
    by Skipped others h f g = g list h
    by (Bad kind) others h f g = absurd cc
    by (Read entry) (Err bad) h f g = absurd cc
    by (Read entry) (Ok found) h f g =
        let same : entry ∷ found ≡ list = cc in
        subst (AreLong order) same (All-cons (λ (x : Entry). length x.coords ≡ order) entry found (f entry refl) (g found refl))

-- ---- a `.tns` file
bound_there : (f : ℕ → Bound) (from count mode : ℕ) → mode < count → bound_in (map f (range_with_len from count)) mode ≡ f (from + mode)
bound_there f from zero mode h = absurd (omega arith)
bound_there f from (suc count) zero h = let here : from ≡ from + 0 = omega arith in ap f here
bound_there f from (suc count) (suc mode) h =
    let next : (from + 1) + mode ≡ from + suc mode = omega arith in bound_there f (from + 1) count mode (omega arith) ∙ ap f next

bounds_small : (bounds : List Bound) (mode : ℕ) → Each (λ bound. limit_of bound ≤ greatest_position_count) bounds
    → limit_of (bound_in bounds mode) ≤ greatest_position_count
bounds_small [] mode each = omega arith
bounds_small (bound ∷ bounds) zero each = each.0
bounds_small (bound ∷ bounds) (suc mode) each = bounds_small bounds mode each.1

coordinate_small : (coords : List ℕ) (mode : ℕ) → AreInFile coords → slice_index coords mode + 1 ≤ greatest_position_count
coordinate_small [] mode all = omega (arith, file_coordinates_are_ranges, Rattle.limits.proofs.Limits.some_positions)
coordinate_small (c ∷ coords) zero all = let first = all 0 0 (omega arith) in omega (arith, first, file_coordinates_are_ranges)
coordinate_small (c ∷ coords) (suc mode) all = coordinate_small coords mode (λ k d h. all (suc k) d (omega arith))

reach_small : (list : List Entry) (mode : ℕ) → All (λ entry. AreInFile entry.coords) list → reach list mode ≤ greatest_position_count
reach_small [] mode all = omega arith
reach_small (entry ∷ list) mode all =
    let first : slice_index entry.coords mode + 1 ≤ greatest_position_count =
    coordinate_small entry.coords mode (all 0 entry (omega arith)) in
    let rest : reach list mode ≤ greatest_position_count =
    reach_small list mode (All-tail (λ (e : Entry). AreInFile e.coords) entry list all) in
    let most : max (slice_index entry.coords mode + 1) (reach list mode) ≤ greatest_position_count = omega (arith, first, rest) in most

reached_each : (list : List Entry) (from count : ℕ) → All (λ entry. AreInFile entry.coords) list
    → Each (λ bound. limit_of bound ≤ greatest_position_count) (map (λ mode. AtLeast (reach list mode)) (range_with_len from count))
reached_each list from zero all = tt
reached_each list from (suc count) all = (reach_small list from all, reached_each list (from + 1) count all)

entries_kept : (signed : Bool) (order : ℕ) (text : List ℕ) (list : List Entry) → entries_of_text signed order text ≡ Ok list
    → IsKept order (record { entries = record { order = order; list = list }; bounds = reached order list })
entries_kept signed order text list e =
    let long : AreLong order list = lines_long signed order 1 (lines text) list e in
    let inside = entries_in_file signed order text list e in
    record {
      order_is = refl;
      bounded = λ k d h. record {
        long = long k d h;
        each = λ mode m.
            let at : bound_in (reached order list) mode ≡ AtLeast (reach list (0 + mode)) =
            bound_there (λ mode. AtLeast (reach list mode)) 0 order mode m in
            let here : 0 + mode ≡ mode = omega arith in
            let limit : limit_of (bound_in (reached order list) mode) ≡ reach list mode = ap limit_of at ∙ ap (reach list) here in
            let below = reach_above list mode k d h in
            omega (arith, limit, below);
      };
      small = λ mode. bounds_small (reached order list) mode (reached_each list 0 order inside);
    }

-- ---- a Matrix Market file
below_sizes : (order rows columns : ℕ) (coords : List ℕ) → IsMatrixOrder order → IsBelow (coords_of order rows columns) coords
    → IsBounded (bound_in (sizes order rows columns)) order coords
below_sizes order rows columns coords (inl one) below = subst (λ n. IsBounded (bound_in (sizes n rows columns)) n coords) (sym one)
    (vector coords (subst (λ n. IsBelow (coords_of n rows columns) coords) one below))
  where
    vector : (coords : List ℕ) → IsBelow (rows ∷ []) coords → IsBounded (bound_in (Exact rows ∷ [])) 1 coords
    vector [] below = absurd below
    vector (c ∷ []) below = record { long = refl; each = at }
      where
        at : (mode : ℕ) → mode < 1 → slice_index (c ∷ []) mode < limit_of (bound_in (Exact rows ∷ []) mode)
        at zero h = below.0
        at (suc mode) h = absurd (omega arith)
    vector (c ∷ d ∷ coords) below = absurd below.1
below_sizes order rows columns coords (inr two) below = subst (λ n. IsBounded (bound_in (sizes n rows columns)) n coords) (sym two)
    (matrix_at coords (subst (λ n. IsBelow (coords_of n rows columns) coords) two below))
  where
    matrix_at : (coords : List ℕ) → IsBelow (rows ∷ columns ∷ []) coords → IsBounded (bound_in (Exact rows ∷ Exact columns ∷ [])) 2 coords
    matrix_at [] below = absurd below
    matrix_at (c ∷ []) below = absurd below.1
    matrix_at (c ∷ d ∷ []) below = record { long = refl; each = at }
      where
        at : (mode : ℕ) → mode < 2 → slice_index (c ∷ d ∷ []) mode < limit_of (bound_in (Exact rows ∷ Exact columns ∷ []) mode)
        at zero h = below.0
        at (suc zero) h = below.1.0
        at (suc (suc mode)) h = absurd (omega arith)
    matrix_at (c ∷ d ∷ e ∷ coords) below = absurd below.1.1

sizes_each : (order rows columns : ℕ) → IsMatrixOrder order → rows ≤ greatest_matrix_size → columns ≤ greatest_matrix_size
    → Each (λ bound. limit_of bound ≤ greatest_position_count) (sizes order rows columns)
sizes_each order rows columns (inl one) r c =
    subst (λ n. Each (λ bound. limit_of bound ≤ greatest_position_count) (sizes n rows columns)) (sym one)
    (omega (arith, r, matrix_sizes_are_ranges), tt)
sizes_each order rows columns (inr two) r c =
    subst (λ n. Each (λ bound. limit_of bound ≤ greatest_position_count) (sizes n rows columns)) (sym two)
    (omega (arith, r, matrix_sizes_are_ranges), (omega (arith, c, matrix_sizes_are_ranges), tt))

matrix_kept : (order : ℕ) (is : IsMatrixOrder order) (m : Matrix) → IsOfSizes order m
    → IsKept order (record { entries = record { order = order; list = m.entries }; bounds = sizes order m.rows m.columns })
matrix_kept order is m of_sizes = record {
  order_is = refl;
  bounded = λ k d h. below_sizes order m.rows m.columns (slice_index_or m.entries k d).coords is (of_sizes.below k d h);
  small =
      λ mode. bounds_small (sizes order m.rows m.columns) mode
      (sizes_each order m.rows m.columns is of_sizes.rows_small of_sizes.columns_small);
}

-- ---- a file
pub file_kept : (a : Arithmetic) (has_minus signed : Bool) (order : ℕ) (path bytes : List ℕ) (operand : Operand) → IsReadable order path
    → operand_of a has_minus signed order path bytes ≡ Ok operand → IsKept order operand
unfolding operand_of
file_kept a has_minus signed order path bytes operand readable e = by (is_mtx path) refl e
  where
    matrix_is : IsMatrixOrder order → (what : Result Matrix matrix.BadLine) → IfOk what (IsOfSizes order)
        → of_matrix order what ≡ Ok operand → IsKept order operand
    matrix_is is (Err bad) good e = absurd cc
    matrix_is is (Ok m) good e =
        let same : record { entries = record { order = order; list = m.entries }; bounds = sizes order m.rows m.columns } ≡ operand = cc in
        subst (IsKept order) same (matrix_kept order is m good)

    entries_are : (what : Result (List Entry) BadLine) → entries_of_text signed order bytes ≡ what → of_entries order what ≡ Ok operand
        → IsKept
        order operand
    entries_are (Err bad) is e = absurd cc
    entries_are (Ok list) is e =
        let same : record { entries = record { order = order; list = list }; bounds = reached order list } ≡ operand = cc in
        subst (IsKept order) same (entries_kept signed order bytes list is)

    by : (b : Bool) → is_mtx path ≡ b
        → (if b then of_matrix order (matrix_of_text a has_minus signed order bytes) else of_entries order
        (entries_of_text signed order bytes)) ≡ Ok
        operand
        → IsKept order operand
    by true is e =
        matrix_is (readable.matrix is) (matrix_of_text a has_minus signed order bytes)
        (text_below a has_minus signed order bytes (readable.matrix is)) e
    by false is e = entries_are (entries_of_text signed order bytes) refl e
