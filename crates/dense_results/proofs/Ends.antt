-- The sums of rows that have the statement's values are its result.
use Rattle.std.specs.Prelude.{◌≡◌, ℕ, zero, suc, ◌<◌, ◌≤◌, nat_eq, Bool, true, false, ◌||◌, List, [], ◌∷◌, length, map, All, slice_index}
use Rattle.std.specs.Prelude.{refl}
use Rattle.std.proofs.Common.{◌∙◌, sym, ap, subst, arith, inl, inr}
use Rattle.std.proofs.lemmas.Bool.{eqb-true, eq-eqb}
use Rattle.std.proofs.lemmas.List.Elements.{All-nil, All-cons}
use Rattle.limits.specs.Limits.{greatest_position_count}
use Rattle.numbers.specs.Arithmetic.{Arithmetic, Laws}
use Rattle.level_core.specs.Meaning.{Arrays}
use Rattle.format_spec.specs.declared.format.FormatLevel.{FormatLevel}
use Rattle.format_spec.specs.Formats.{modes_of}
use Rattle.index_notation.specs.declared.syntax.Statement.{Statement}
use Rattle.tensor_map.specs.Entries.{Entry, value_at, Listed}
use Rattle.tensor_map.proofs.Lemmas.{value_unlisted}
use Rattle.expr_terms.specs.Result.{AreBelow}
use Rattle.expr_terms.specs.Terms.{contains, statement_value}
use Rattle.concrete_notation.specs.Right.{IsInSupport}
use Rattle.tensor_storage.specs.Storages.{in_level_order}
use Rattle.tensor_storage.specs.Tables.{Table}
use Rattle.tns_io.specs.Positions.{product, IsBelow, position, coords_at}
use Rattle.tns_io.proofs.PositionLaws.{position_below, coords_below, coords_of_position, position_of_coords}
use Rattle.term_code.specs.DenseSinks.{HasSizes, HoldsSums}
use Rattle.lowering.specs.Right.{HaveValues}
use Rattle.kernel_correctness.specs.Results.{LeavesResult, IsNamedResult, HasRow}
use Rattle.kernel_correctness.specs.Stores.{Store, told_by}
use Rattle.dense_results.specs.Results.{left_ranges, IsDenseStore, SumsAreResults}
use Rattle.dense_results.proofs.Backwards.{back}
use Rattle.dense_results.proofs.DenseLevels.{dense_levels, letters_dense, levels_held}
use Rattle.dense_results.proofs.Modes.{ranges_many, ranges_same}
use Rattle.dense_results.proofs.Positions.{passing, all_pass, passing_found, table_at}
use Rattle.dense_results.proofs.Starts.{sizes_same, coords_inside, place_same}
use Rattle.dense_results.proofs.Tables.{dense_packed, row_coords}

-- below ranges, as many coordinates as ranges
pub to_below : (ranges coords : List ℕ) → AreBelow coords ranges → IsBelow ranges coords
to_below [] [] h = tt
to_below [] (x ∷ coords) h = absurd h
to_below (n ∷ ranges) [] h = absurd h
to_below (n ∷ ranges) (x ∷ coords) h = (h.0, to_below ranges coords h.1)

from_below : (ranges coords : List ℕ) → IsBelow ranges coords → AreBelow coords ranges
from_below [] [] h = tt
from_below [] (x ∷ coords) h = absurd h
from_below (n ∷ ranges) [] h = absurd h
from_below (n ∷ ranges) (x ∷ coords) h = (h.0, from_below ranges coords h.1)

-- no number in a list of small ones is great, nor is what is told behind its end
pub index_small : (xs : List ℕ) (m n : ℕ) → All (λ x. x ≤ n) xs → slice_index xs m ≤ n
index_small [] m n all = omega arith
index_small (x ∷ xs) zero n all = all 0 0 (omega arith)
index_small (x ∷ xs) (suc m) n all = index_small xs m n (λ k d h. all (suc k) d (omega (arith, h)))

ranges_small : (ranges vars : List ℕ) → All (λ range. range ≤ greatest_position_count) ranges
    → All (λ range. range ≤ greatest_position_count) (map (slice_index ranges) vars)
ranges_small ranges [] small = All-nil (λ range. range ≤ greatest_position_count)
ranges_small ranges (v ∷ vars) small =
    All-cons (λ range. range ≤ greatest_position_count) (slice_index ranges v) (map (slice_index ranges) vars)
    (index_small ranges v greatest_position_count small) (ranges_small ranges vars small)

module _ (a : Arithmetic) (laws : Laws a) (s : Statement) (formats : List (List FormatLevel)) (store : Store)
    (d : IsDenseStore s formats store) (rows : List Entry) (have : HaveValues a s (told_by a s store) rows)
    (arrays : Arrays) (h : HoldsSums (modes_of store.format) a (left_ranges s store) rows arrays) where
  abbrev format : List FormatLevel
  format = store.format

  abbrev sizes : List ℕ
  sizes = in_level_order store.format store.ranges

  -- the position of coordinates
  abbrev at : List ℕ → ℕ
  at coords = position sizes (in_level_order format coords)

  -- the position is that of a row
  abbrev is_named : ℕ → Bool
  is_named = contains (map (λ (row : Entry). at row.coords) rows)

  abbrev numbers : List ℕ
  numbers = passing is_named 0 (product sizes)

  abbrev table : Table
  table = table_at sizes h.words numbers

  listed_named : (some : List Entry) (coords : List ℕ) → Listed some coords
      → contains (map (λ (row : Entry). at row.coords) some) (at coords) ≡ true
  listed_named [] coords l = absurd l
  listed_named (row ∷ some) coords (inl same) =
      first (nat_eq (at row.coords) (at coords)) (eq-eqb (at row.coords) (at coords) (ap at same))
    where
      first : (b : Bool) → b ≡ true → (b || contains (map (λ (row : Entry). at row.coords) some) (at coords)) ≡ true
      first true e = refl
      first false e = cc
  listed_named (row ∷ some) coords (inr more) =
      later (nat_eq (at row.coords) (at coords)) (listed_named some coords more)
    where
      later : (b : Bool) → contains (map (λ (row : Entry). at row.coords) some) (at coords) ≡ true
          → (b || contains (map (λ (row : Entry). at row.coords) some) (at coords)) ≡ true
      later true e = refl
      later false e = e

  -- coordinates of a row whose position it is
  record IsOfRow (some : List Entry) (pos : ℕ) : Type 0 where
    coords : List ℕ
    listed : Listed some coords
    is : at coords ≡ pos

  named_listed : (some : List Entry) (pos : ℕ) → contains (map (λ (row : Entry). at row.coords) some) pos ≡ true → IsOfRow some pos
  named_listed [] pos e = absurd (cc e)
  named_listed (row ∷ some) pos e = by (nat_eq (at row.coords) pos) refl (named_listed some pos) e
    where
      by : (b : Bool) → nat_eq (at row.coords) pos ≡ b
          → (contains (map (λ (row : Entry). at row.coords) some) pos ≡ true → IsOfRow some pos)
          → (b || contains (map (λ (row : Entry). at row.coords) some) pos) ≡ true → IsOfRow (row ∷ some) pos
      by true is rest more = record { coords = row.coords; listed = inl refl; is = eqb-true (at row.coords) pos is }
      by false is rest more = let r = rest more in record { coords = r.coords; listed = inr r.listed; is = r.is }

  -- what is so of coordinates below the left side's ranges
  inside : (coords : List ℕ) → AreBelow coords (left_ranges s store) → IsBelow sizes (in_level_order format coords)
  inside coords below = coords_inside s formats store d coords (to_below (left_ranges s store) coords below)

  word_at : (coords : List ℕ) → AreBelow coords (left_ranges s store) → slice_index h.words (at coords) ≡ value_at a rows coords
  word_at coords below =
      ap (slice_index h.words) (sym (place_same s formats store d coords))
      ∙ h.each coords (to_below (left_ranges s store) coords below)

  row_there : (coords : List ℕ) → IsInSupport s (told_by a s store) coords → (i : ℕ) × HasRow format table coords i
  row_there coords support =
      let below = inside coords support.0 in
      let small : at coords < product sizes = position_below sizes (in_level_order format coords) below in
      let f = passing_found is_named 0 (product sizes) (at coords) (record {
        least = omega arith;
        below = omega (arith, small);
        is = listed_named rows coords ((have.support coords).1 support);
      }) in (
        f.at,
        (
          f.inside,
          row_coords a.zero format store.ranges h.words is_named d.is.format d.dense f.at f.inside
              ∙ ap (coords_at sizes) f.is ∙ coords_of_position sizes (in_level_order format coords) below,
        ),
      )

  no_other : (i : ℕ) → i < length numbers → (coords : List ℕ) × IsInSupport s (told_by a s store) coords × HasRow format table coords i
  no_other i l =
      let p = all_pass is_named 0 (product sizes) i l in
      let r = named_listed rows (slice_index numbers i) p.is in
      let support = (have.support r.coords).0 r.listed in (
        r.coords,
        support,
        (
          l,
          row_coords a.zero format store.ranges h.words is_named d.is.format d.dense i l
              ∙ ap (coords_at sizes) (sym r.is) ∙ coords_of_position sizes (in_level_order format r.coords) (inside r.coords support.0),
        ),
      )

  row_value : (i : ℕ) (coords : List ℕ) → IsInSupport s (told_by a s store) coords → HasRow format table coords i
      → table.values i ≡ statement_value a s (told_by a s store).values (told_by a s store).ranges coords
  row_value i coords support row =
      let b = (all_pass is_named 0 (product sizes) i row.0).below in
      let small : slice_index numbers i < product sizes = omega (arith, b) in
      let same : slice_index numbers i ≡ at coords =
      sym (position_of_coords sizes (slice_index numbers i) small)
      ∙ ap (position sizes) (sym (row_coords a.zero format store.ranges h.words is_named d.is.format d.dense i row.0) ∙ row.1) in
      ap (slice_index h.words) same ∙ word_at coords support.0 ∙ have.values coords support.0

  is_named_result : IsNamedResult a s (told_by a s store) format table
  is_named_result = record { named = row_there; none_else = no_other; values = row_value }

  -- at a position that no row has the value is zero
  empty : (pos : ℕ) → pos < product sizes → is_named pos ≡ false → slice_index h.words pos ≡ a.zero
  empty pos small fails =
      let xs : List ℕ = coords_at sizes pos in
      let c = back format (left_ranges s store) xs d.is.format (ranges_many s formats store d)
      (subst (λ ns. IsBelow ns xs) (sym (ranges_same s formats store d)) (coords_below sizes pos small)) in
      let same : at c.coords ≡ pos = ap (position sizes) c.is ∙ position_of_coords sizes pos small in
      ap (slice_index h.words) (sym same) ∙ word_at c.coords (from_below (left_ranges s store) c.coords c.below)
      ∙ value_unlisted a laws c.coords rows
      (λ l. clash (is_named pos) (ap is_named (sym same) ∙ listed_named rows c.coords l) fails)
    where
      clash : (b : Bool) → b ≡ true → b ≡ false → ⊥
      clash b g e = cc

  leaves : LeavesResult a s (told_by a s store) store arrays
  leaves =
      let many : length h.words ≡ product sizes = h.long ∙ ap product (sizes_same s formats store d) in
      record {
        levels = dense_levels sizes;
        values = h.words;
        is_left = record {
          held = levels_held sizes 1 arrays (subst (λ ns. HasSizes 1 ns arrays) (sizes_same s formats store d) h.sizes);
          values_held = h.held;
        };
        table = table;
        named = is_named_result;
        letters = letters_dense format store.ranges d.dense;
        packed = dense_packed a.zero format store.ranges h.words is_named d.is.format d.dense (left_ranges s store)
            (ranges_same s formats store d) (ranges_many s formats store d) (ranges_small store.ranges s.left.vars d.is.small) d.is.few
            many empty;
      }

pub sums_are_results : SumsAreResults
sums_are_results a laws s formats store d rows have arrays h = leaves a laws s formats store d rows have arrays h
