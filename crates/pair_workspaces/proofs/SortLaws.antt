-- A workspace of pairs is sorted: the sums of its rows wait.
use Rattle.std.specs.Prelude.{◌≡◌, ℕ, ◌^◌, ◌<◌, List, [], ◌∷◌, length}
use Rattle.std.specs.declared.cmp.Ordering.{Ordering}
use Rattle.std.specs.declared.cmp.Ordering.TheVariants.{Less, Equal, Greater}
use Rattle.std.specs.Ordering.{nat_cmp}
use Rattle.std.specs.Cmp.Lexicographic.{slice_cmp}
use Rattle.std.proofs.Common.{subst}
use Rattle.numbers.specs.Arithmetic.{Arithmetic, Laws}
use Rattle.lists.specs.Each.{Each}
use Rattle.kernel_code.specs.declared.syntax.KStmt.{SortSum}
use Rattle.kernel_code.specs.Does.{Never}
use Rattle.kernel_code.proofs.Does.{does_weaker}
use Rattle.tensor_map.specs.Entries.{Entry}
use Rattle.concrete_notation.specs.Contributions.{put_by, put_pair, sums_of}
use Rattle.concrete_notation.proofs.SumsOf.{are_sums, sums_each}
use Rattle.term_code.specs.WorkspaceSinks.{HoldsRows}
use Rattle.sparse_results.specs.Tables.{IsRow}
use Rattle.sparse_results.proofs.Sorting.{sorting_sums}
use Rattle.drained_workspaces.specs.Draining.{Sorts, AreWords}
use Rattle.drained_workspaces.proofs.Sums.{one_row_of_words}
use Rattle.pair_workspaces.specs.Drained.{pair_draining}
use Rattle.pair_workspaces.specs.Sinks.{PairSink, pair_sink}

-- sums of words are words
put_words : (a : Arithmetic) → Laws a → (pair : Entry) (row : List Entry) → pair.value < 2 ^ 64 → AreWords row
    → AreWords (put_pair a pair row)
put_words a laws pair [] is each = (is, tt)
put_words a laws pair (first ∷ others) is each = by (slice_cmp nat_cmp pair.coords first.coords) (put_words a laws pair others is each.1)
  where
    by : (r : Ordering) → AreWords (put_pair a pair others) → AreWords (put_by a r pair first others (put_pair a pair others))
    by Less later = (is, each)
    by Equal later = (laws.plus_fits pair.value first.value, each.1)
    by Greater later = (each.0, later)

sums_words : (a : Arithmetic) → Laws a → (rows : List Entry) → AreWords rows → AreWords (sums_of a rows)
sums_words a laws [] each = tt
sums_words a laws (row ∷ rows) each = put_words a laws row (sums_of a rows) each.0 (sums_words a laws rows each.1)

-- rows by their coordinates and their values
rows_long : (keys : ℕ) (rows : List Entry) → Each (IsRow keys) rows → Each (λ (row : Entry). length row.coords ≡ keys) rows
rows_long keys [] each = tt
rows_long keys (row ∷ rows) each = (each.0.many, rows_long keys rows each.1)

rows_words : (keys : ℕ) (rows : List Entry) → Each (IsRow keys) rows → AreWords rows
rows_words keys [] each = tt
rows_words keys (row ∷ rows) each = (each.0.word, rows_words keys rows each.1)

are_rows : (keys : ℕ) (rows : List Entry) → Each (λ (row : Entry). length row.coords ≡ keys) rows → AreWords rows → Each (IsRow keys) rows
are_rows keys [] long words = tt
are_rows keys (row ∷ rows) long words = (record { many = long.0; word = words.0 }, are_rows keys rows long.1 words.1)

pub sorts_pairs : (k : PairSink) → Sorts pair_sink pair_draining k (SortSum k.number ∷ [])
sorts_pairs k c laws suits ranges rows sums are words s holds top =
    let a = c.arithmetic in
    let long = rows_long k.keys rows holds.each in
    let is : sums_of c.arithmetic rows ≡ sums = one_row_of_words a laws rows (sums_of a rows) sums
    (sums_words a laws rows (rows_words k.keys rows holds.each)) words (are_sums a laws rows) are in
    does_weaker c (SortSum k.number ∷ []) s _ _ Never Never (sorting_sums c k.number k.keys suits rows long s holds.held)
    (λ t h. (
      h.leaves top,
      record {
        held = subst (λ es. HoldsRows k.number k.keys es t.arrays) is h.holds;
        each = are_rows k.keys sums
            (subst (Each (λ (row : Entry). length row.coords ≡ k.keys)) is
            (sums_each (λ coords. length coords ≡ k.keys) a rows long)) words;
      },
    )) (λ t b count none. none)
