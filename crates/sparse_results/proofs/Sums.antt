-- The sums of a workspace are the rows of the result.
use Rattle.std.specs.Prelude.{◌≡◌, ℕ, zero, suc, ◌^◌, ◌<◌, List, [], ◌∷◌, length, map, All, slice_index, slice_index_or, refl}
use Rattle.std.specs.declared.cmp.Ordering.{Ordering}
use Rattle.std.specs.declared.cmp.Ordering.TheVariants.{Less, Equal, Greater}
use Rattle.std.specs.Ordering.{nat_cmp}
use Rattle.std.specs.Cmp.Lexicographic.{slice_cmp}
use Rattle.std.proofs.Common.{◌∙◌, sym, ap, subst, arith, inl, inr}
use Rattle.std.proofs.lemmas.List.{length-map}
use Rattle.numbers.specs.Arithmetic.{Arithmetic, Laws}
use Rattle.tensor_map.specs.Entries.{Entry, value_at, Listed, StrictlyIncreasing}
use Rattle.tensor_map.specs.Order.{IsBefore}
use Rattle.tensor_map.proofs.Lemmas.{before_at, value_of_entry}
use Rattle.level_rows.specs.Tables.{Increase}
use Rattle.format_spec.specs.declared.format.FormatLevel.{FormatLevel}
use Rattle.format_spec.specs.Formats.{letters_of, modes_of}
use Rattle.index_notation.specs.Statement.{IsDistinct}
use Rattle.index_notation.specs.declared.syntax.Statement.{Statement}
use Rattle.iteration_graph.specs.Edges.{format_of, by_level}
use Rattle.lists.specs.Each.{Each}
use Rattle.expr_terms.specs.Points.{point_of}
use Rattle.expr_terms.specs.Result.{AreBelow}
use Rattle.expr_terms.specs.Terms.{statement_value}
use Rattle.concrete_notation.specs.Contributions.{passed_on, put_by, put_pair, sums_of, with_coordinates}
use Rattle.concrete_notation.specs.Right.{IsInSupport}
use Rattle.concrete_notation.proofs.Points.{coordinates_of, from_zero, below_long}
use Rattle.concrete_notation.proofs.SumsOf.{sums_each, sums_increasing}
use Rattle.concrete_notation.proofs.Through.{forth_and_back, passed_value}
use Rattle.tensor_storage.specs.Arranged.{no_entry}
use Rattle.tensor_storage.specs.Stands.{row_from}
use Rattle.tensor_storage.specs.Storages.{in_level_order}
use Rattle.tensor_storage.specs.Tables.{AreBelow as RowsBelow}
use Rattle.tns_io.specs.Positions.{IsBelow}
use Rattle.lowering.specs.Right.{HaveValues}
use Rattle.kernel_correctness.specs.Results.{HasRow}
use Rattle.kernel_correctness.specs.Stores.{Store, told_by}
use Rattle.dense_results.proofs.Ends.{to_below}
use Rattle.dense_results.proofs.Modes.{number_at}
use Rattle.dense_results.proofs.Positions.{row_is, differ, below_at}
use Rattle.sparse_results.specs.Results.{IsResultStore, AreLevelKeys, AreRowsOfResult, SumsAreRows}
use Rattle.sparse_results.specs.Tables.{table_of, IsRow}

-- ---- rows
abbrev pub row_of : List Entry → ℕ → Entry
row_of rows i = slice_index_or rows i no_entry

each_at : {X : Type 0} (P : X → Type 0) (xs : List X) (none : X) (k : ℕ) → Each P xs → k < length xs → P (slice_index_or xs k none)
each_at P [] none k each h = absurd (omega (arith, h))
each_at P (x ∷ xs) none zero each h = each.0
each_at P (x ∷ xs) none (suc k) each h = each_at P xs none k each.1 (omega (arith, h))

-- the values of rows are words
abbrev HasWord : Entry → Type 0
HasWord row = row.value < 2 ^ 64

put_words : (a : Arithmetic) → Laws a → (pair : Entry) (row : List Entry) → HasWord pair → Each HasWord row
    → Each HasWord (put_pair a pair row)
put_words a laws pair [] is each = (is, tt)
put_words a laws pair (first ∷ others) is each =
    by (slice_cmp nat_cmp pair.coords first.coords) (put_words a laws pair others is each.1)
  where
    by : (r : Ordering) → Each HasWord (put_pair a pair others) → Each HasWord (put_by a r pair first others (put_pair a pair others))
    by Less later = (is, each)
    by Equal later = (laws.plus_fits pair.value first.value, each.1)
    by Greater later = (each.0, later)

sums_words : (a : Arithmetic) → Laws a → (keys : ℕ) (rows : List Entry) → Each (IsRow keys) rows → Each HasWord (sums_of a rows)
sums_words a laws keys [] each = tt
sums_words a laws keys (row ∷ rows) each =
    put_words a laws row (sums_of a rows) each.0.word (sums_words a laws keys rows each.1)

rows_long : (keys : ℕ) (rows : List Entry) → Each (IsRow keys) rows → Each (λ (row : Entry). length row.coords ≡ keys) rows
rows_long keys [] each = tt
rows_long keys (row ∷ rows) each = (each.0.many, rows_long keys rows each.1)

-- an increasing list's neighbours
neighbours_before : (rows : List Entry) (i : ℕ) → StrictlyIncreasing rows → suc i < length rows
    → IsBefore (row_of rows i).coords (row_of rows (suc i)).coords
neighbours_before [] i up h = absurd (omega (arith, h))
neighbours_before (row ∷ rows) zero up h = before_at row.coords rows 0 no_entry up.0 (omega (arith, h))
neighbours_before (row ∷ rows) (suc i) up h = neighbours_before rows i up.1 (omega (arith, h))

-- a row that is passed on to these coordinates
record IsPassed (left keys : List ℕ) (rows : List Entry) (coords : List ℕ) : Type 0 where
  at : ℕ
  inside : at < length rows
  is : (passed_on left (λ v. 0) keys (row_of rows at)).coords ≡ coords

passed_found : (left keys : List ℕ) (rows : List Entry) (coords : List ℕ)
    → Listed (map (passed_on left (λ v. 0) keys) rows) coords → IsPassed left keys rows coords
passed_found left keys [] coords h = absurd h
passed_found left keys (row ∷ rows) coords (inl here) = record { at = 0; inside = omega arith; is = here }
passed_found left keys (row ∷ rows) coords (inr there) =
    let p = passed_found left keys rows coords there in
    let b = p.inside in
    record { at = suc p.at; inside = omega (arith, b); is = p.is }

passed_there : (left keys : List ℕ) (rows : List Entry) (i : ℕ) → i < length rows
    → Listed (map (passed_on left (λ v. 0) keys) rows) (passed_on left (λ v. 0) keys (row_of rows i)).coords
passed_there left keys [] i h = absurd (omega (arith, h))
passed_there left keys (row ∷ rows) zero h = inl refl
passed_there left keys (row ∷ rows) (suc i) h = inr (passed_there left keys rows i (omega (arith, h)))

-- ---- coordinates in the order of the levels
mapped_at : (f : ℕ → ℕ) (xs : List ℕ) (m : ℕ) → m < length xs → slice_index (map f xs) m ≡ f (slice_index xs m)
mapped_at f [] m h = absurd (omega (arith, h))
mapped_at f (x ∷ xs) zero h = refl
mapped_at f (x ∷ xs) (suc m) h = mapped_at f xs m (omega (arith, h))

-- those of the keys are those of the modes, level by level
pub keyed : (left coords : List ℕ) → IsDistinct left → length coords ≡ length left → (format : List FormatLevel)
    → All (λ m. m < length left) (modes_of format) → map (point_of left coords) (by_level format left) ≡ in_level_order format coords
keyed left coords once long [] below = refl
keyed left coords once long (l ∷ ls) below =
    let first : point_of left coords (slice_index left l.mode) ≡ slice_index coords l.mode =
    sym (mapped_at (point_of left coords) left l.mode (below 0 0 (omega arith)))
    ∙ ap (λ cs. slice_index cs l.mode) (coordinates_of left coords once long) in
    let rest = keyed left coords once long ls (λ k d h. below (suc k) d (omega (arith, h))) in
    λ i. first i ∷ rest i

-- coordinates of the modes that are below their ranges, level by level
levels_below : (n : ℕ) (ranges coords : List ℕ) → ((m : ℕ) → m < n → slice_index coords m < slice_index ranges m)
    → (format : List FormatLevel) → All (λ m. m < n) (modes_of format)
    → IsBelow (in_level_order format ranges) (in_level_order format coords)
levels_below n ranges coords each [] below = tt
levels_below n ranges coords each (l ∷ ls) below = (
  each l.mode (below 0 0 (omega arith)),
  levels_below n ranges coords each ls (λ k d h. below (suc k) d (omega (arith, h))),
)

module _ (a : Arithmetic) (laws : Laws a) (s : Statement) (formats : List (List FormatLevel)) (store : Store)
    (d : IsResultStore s formats store) (keys : List ℕ) (k : AreLevelKeys s store.format keys) where
  abbrev left : List ℕ
  left = s.left.vars

  left_many : length s.left.vars ≡ length store.format
  left_many = sym d.left.order ∙ ap (λ t. length (format_of formats t)) d.named.result ∙ ap length (sym d.is.format_is)

  modes_below : All (λ m. m < length s.left.vars) (modes_of store.format)
  modes_below = subst (λ n. All (λ m. m < n) (modes_of store.format)) (sym left_many) d.is.format.order.below

  keys_many : length keys ≡ length store.format
  keys_many = ap length k.order ∙ length-map (modes_of store.format) (slice_index s.left.vars) ∙ d.is.format.order.count

  key_coords : (coords : List ℕ) → length coords ≡ length s.left.vars
      → map (point_of s.left.vars coords) keys ≡ in_level_order store.format coords
  key_coords coords long =
      ap (map (point_of s.left.vars coords)) k.order ∙ keyed s.left.vars coords d.named.left_once long store.format modes_below

  -- the coordinates to which keys are passed on are theirs, level by level
  passed_coords : (ks : List ℕ) → length ks ≡ length keys
      → in_level_order store.format (map (with_coordinates (λ v. 0) keys ks) s.left.vars) ≡ ks
  passed_coords ks long =
      let coords : List ℕ = map (with_coordinates (λ v. 0) keys ks) s.left.vars in
      sym (key_coords coords (length-map s.left.vars (with_coordinates (λ v. 0) keys ks)))
      ∙ ap (λ (p : ℕ → ℕ). map (point_of s.left.vars (map p s.left.vars)) keys) (from_zero keys ks)
      ∙ forth_and_back s.left.vars keys d.named.left_once k.keys_are.once k.keys_are.left ks long

  coords_below : (coords : List ℕ) → AreBelow coords (map (slice_index store.ranges) s.left.vars)
      → IsBelow (in_level_order store.format store.ranges) (in_level_order store.format coords)
  coords_below coords below =
      levels_below (length s.left.vars) store.ranges coords at store.format modes_below
    where
      own_many : length (map (slice_index store.ranges) s.left.vars) ≡ length s.left.vars
      own_many = length-map s.left.vars (slice_index store.ranges)

      at : (m : ℕ) → m < length s.left.vars → slice_index coords m < slice_index store.ranges m
      at m h =
          let own : List ℕ = map (slice_index store.ranges) s.left.vars in
          let range : slice_index own m ≡ slice_index store.ranges m =
          ap (λ vs. slice_index (map (slice_index store.ranges) vs) m) d.named.standing
          ∙ number_at (slice_index store.ranges) 0 (length s.left.vars) m h ∙ ap (slice_index store.ranges) (omega arith) in
          let small = below_at own coords m (to_below own coords below) (omega (arith, h, own_many)) in
          omega (arith, small, range)

  module _ (rows : List Entry) (each : Each (IsRow (length keys)) rows)
      (have : HaveValues a s (told_by a s store) (map (passed_on s.left.vars (λ v. 0) keys) (sums_of a rows))) where
    abbrev sums : List Entry
    sums = sums_of a rows

    sums_long : Each (λ (row : Entry). length row.coords ≡ length keys) (sums_of a rows)
    sums_long = sums_each (λ ks. length ks ≡ length keys) a rows (rows_long (length keys) rows each)

    row_long : (i : ℕ) → i < length (sums_of a rows) → length (row_of (sums_of a rows) i).coords ≡ length keys
    row_long i h = each_at (λ (row : Entry). length row.coords ≡ length keys) (sums_of a rows) no_entry i sums_long h

    row_coords : (i : ℕ) → i < length (sums_of a rows)
        → row_from (table_of (sums_of a rows)).coords i 0 (letters_of store.format) ≡ (row_of (sums_of a rows) i).coords
    row_coords i h =
        row_is (table_of (sums_of a rows)).coords i 0 (letters_of store.format) (row_of (sums_of a rows) i).coords
        (row_long i h ∙ keys_many ∙ sym (length-map store.format (λ (level : FormatLevel). level.letter)))
        (λ m l. ap (slice_index (row_of (sums_of a rows) i).coords) (omega arith))

    -- the point of a row
    abbrev point : ℕ → List ℕ
    point i = map (with_coordinates (λ v. 0) keys (row_of (sums_of a rows) i).coords) s.left.vars

    point_coords : (i : ℕ) → i < length (sums_of a rows) → in_level_order store.format (point i) ≡ (row_of (sums_of a rows) i).coords
    point_coords i h = passed_coords (row_of (sums_of a rows) i).coords (row_long i h)

    point_there : (i : ℕ) → i < length (sums_of a rows) → IsInSupport s (told_by a s store) (point i)
    point_there i h = (have.support (point i)).0 (passed_there s.left.vars keys (sums_of a rows) i h)

    named : (coords : List ℕ) → IsInSupport s (told_by a s store) coords
        → (i : ℕ) × HasRow store.format (table_of (sums_of a rows)) coords i
    named coords support =
        let p = passed_found s.left.vars keys (sums_of a rows) coords ((have.support coords).1 support) in (
          p.at,
          (
            p.inside,
            row_coords p.at p.inside ∙ sym (point_coords p.at p.inside) ∙ ap (in_level_order store.format) p.is,
          ),
        )

    none_else : (i : ℕ) → i < length (sums_of a rows)
        → (coords : List ℕ) × IsInSupport s (told_by a s store) coords × HasRow store.format (table_of (sums_of a rows)) coords i
    none_else i h = (point i, point_there i h, (h, row_coords i h ∙ sym (point_coords i h)))

    row_value : (i : ℕ) (coords : List ℕ) → IsInSupport s (told_by a s store) coords
        → HasRow store.format (table_of (sums_of a rows)) coords i
        → (row_of (sums_of a rows) i).value ≡ statement_value a s (told_by a s store).values (told_by a s store).ranges coords
    row_value i coords support row =
        let long : length coords ≡ length s.left.vars = below_long (slice_index store.ranges) s.left.vars coords support.0 in
        let same : (row_of (sums_of a rows) i).coords ≡ map (point_of s.left.vars coords) keys =
        sym (row_coords i row.0) ∙ row.1 ∙ sym (key_coords coords long) in
        sym (value_of_entry a laws (sums_of a rows) i no_entry (sums_increasing a rows) row.0
        (each_at HasWord (sums_of a rows) no_entry i (sums_words a laws (length keys) rows each) row.0))
        ∙ ap (value_at a (sums_of a rows)) same
        ∙ sym (passed_value s.left.vars keys d.named.left_once k.keys_are.once k.keys_are.left a coords long (sums_of a rows) sums_long)
        ∙ have.values coords support.0

    increase : Increase (table_of (sums_of a rows)).coords (length store.format) (length (sums_of a rows))
    increase i h =
        let less : i < length (sums_of a rows) = omega (arith, h) in
        let f = differ (row_of (sums_of a rows) i).coords (row_of (sums_of a rows) (suc i)).coords
        (row_long i less ∙ sym (row_long (suc i) h)) (neighbours_before (sums_of a rows) i (sums_increasing a rows) h) in
        let b = f.inside in
        let many = row_long i less in
        (f.at, omega (arith, b, many, keys_many), f.before, f.less)

    below : RowsBelow (table_of (sums_of a rows)) (in_level_order store.format store.ranges)
    below e i l h =
        let small = below_at (in_level_order store.format store.ranges) (in_level_order store.format (point i)) e
        (coords_below (point i) (point_there i h).0) l in
        subst (λ cs. slice_index cs e < slice_index (in_level_order store.format store.ranges) e) (point_coords i h) small

    pub are_rows : AreRowsOfResult a s store (sums_of a rows)
    are_rows = record {
      named = record { named = named; none_else = none_else; values = row_value };
      order = increase;
      below = below;
    }

pub sums_are_rows : SumsAreRows
sums_are_rows a laws s formats store d keys k rows each have = are_rows a laws s formats store d keys k rows each have
