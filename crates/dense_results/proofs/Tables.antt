-- A storage of dense levels stands for the table of any of its positions, if all others have zero.
use Rattle.std.specs.Prelude.{◌≡◌, ℕ, ◌+◌, ◌*◌, ◌<◌, ◌≤◌, Bool, true, false, List, length, map, All, slice_index, refl}
use Rattle.std.proofs.Common.{◌∙◌, sym, ap, subst, arith}
use Rattle.std.proofs.lemmas.Grind.{same_number_lists}
use Rattle.std.proofs.lemmas.List.{length-map}
use Rattle.limits.specs.Limits.{greatest_position_count}
use Rattle.level_core.specs.Entries.{one}
use Rattle.level_rows.specs.Stacks.{Path}
use Rattle.format_spec.specs.declared.format.FormatLevel.{FormatLevel}
use Rattle.format_spec.specs.Formats.{letters_of, IsFormat}
use Rattle.concrete_notation.specs.Workspaces.{AreAllDense}
use Rattle.tensor_storage.specs.Counts.{positions_from, AreFew}
use Rattle.tensor_storage.specs.Levels.{meaning}
use Rattle.tensor_storage.specs.Stands.{row_from, IsPacked, Stands}
use Rattle.tensor_storage.specs.Storages.{storage_of, in_level_order}
use Rattle.tensor_storage.specs.Tables.{Table, AreBelow}
use Rattle.tns_io.specs.Positions.{product, position, coords_at}
use Rattle.tns_io.proofs.PositionLaws.{coords_below, position_of_coords}
use Rattle.tensor_storage.specs.Standing.{IsThere}
use Rattle.tensor_storage.proofs.WhereFew.{stands_where_few}
use Rattle.kernel_correctness.specs.Stores.{StartsFew}
use Rattle.dense_results.proofs.DenseLevels.{dense_levels, levels_dense, dense_path, all_make, last_dense, few_dense}
use Rattle.dense_results.proofs.Positions.{passing, all_pass, passing_increase, passing_found, StandsIn, table_at}
use Rattle.dense_results.proofs.Positions.{row_at, rows_increase, below_at}

module _ (nothing : ℕ) (format : List FormatLevel) (ranges words : List ℕ) (test : ℕ → Bool) (is : IsFormat format)
    (dense : AreAllDense format) where
  abbrev sizes : List ℕ
  sizes = in_level_order format ranges

  abbrev numbers : List ℕ
  numbers = passing test 0 (product sizes)

  abbrev table : Table
  table = table_at sizes words numbers

  inside : (k : ℕ) → k < length numbers → slice_index numbers k < product sizes
  inside k h = let b = (all_pass test 0 (product sizes) k h).below in omega (arith, b)

  sizes_many : length sizes ≡ length format
  sizes_many = length-map format (λ level. slice_index ranges level.mode)

  letters_many : length sizes ≡ length (letters_of format)
  letters_many = sizes_many ∙ sym (length-map format (λ level. level.letter))

  pub row_coords : (i : ℕ) → i < length numbers → row_from table.coords i 0 (letters_of format) ≡ coords_at sizes (slice_index numbers i)
  row_coords i h = row_at sizes words numbers inside (letters_of format) letters_many i h

  rows_below : AreBelow table sizes
  rows_below d i l h = below_at sizes (coords_at sizes (slice_index numbers i)) d
      (coords_below sizes (slice_index numbers i) (inside i h)) l

  module _ (own : List ℕ) (same : in_level_order format own ≡ sizes) (long : length own ≡ length format)
      (small : All (λ range. range ≤ greatest_position_count) own)
      (few : StartsFew (letters_of format) sizes 1) (many : length words ≡ product sizes)
      (empty : (pos : ℕ) → pos < product sizes → test pos ≡ false → slice_index words pos ≡ nothing) where
    -- with ranges for the modes alone there is a storage, which is one for these ranges
    there : IsThere nothing format ranges table
    there =
        let t = stands_where_few nothing format own table is long small
        (rows_increase sizes words numbers inside (passing_increase test 0 (product sizes)) (length format) sizes_many)
        (subst (AreBelow table) (sym same) rows_below)
        (subst (λ ns. AreFew (positions_from table 0 1 (letters_of format) ns)) (sym same) (few_dense table format ranges 0 1 dense few)) in
        record {
          storage = t.storage;
          packed = record {
            format_is = t.packed.format_is;
            sizes = t.packed.sizes ∙ same;
            few = few_dense table format ranges 0 1 dense few;
            stands = subst (λ ns. Stands meaning nothing (letters_of format) ns table t.storage.levels t.storage.values) same
                t.packed.stands;
          };
          whole = t.whole;
        }

    levels_are : there.storage.levels ≡ dense_levels sizes
    levels_are =
        levels_dense format there.storage.levels dense (there.whole.letters ∙ ap letters_of there.packed.format_is)
        ∙ ap dense_levels there.packed.sizes

    values_many : length there.storage.values ≡ product sizes
    values_many = there.packed.stands.many ∙ last_dense table format ranges 0 1 dense ∙ omega arith

    -- the path of the coordinates at a position ends there
    path_at : (pos : ℕ) → pos < product sizes → Path meaning there.storage.levels (one 0) (coords_at sizes pos) pos
    path_at pos h =
        let p = there.packed.stands.there (coords_at sizes pos)
        (all_make table format ranges 0 (λ i. i < table.count) (coords_at sizes pos) dense (coords_below sizes pos h)) in
        let ends = dense_path sizes 0 (coords_at sizes pos) p.0
        (subst (λ ls. Path meaning ls (one 0) (coords_at sizes pos) p.0) levels_are p.1) in
        let same : p.0 ≡ pos = ends ∙ zero_times (product sizes) (position sizes (coords_at sizes pos)) ∙ position_of_coords sizes pos h in
        subst (Path meaning there.storage.levels (one 0) (coords_at sizes pos)) same p.1
      where
        zero_times : (p q : ℕ) → 0 * p + q ≡ q
        zero_times p q = omega arith

    clash : (b : Bool) → b ≡ true → b ≡ false → ⊥
    clash b h g = cc

    named : (pos : ℕ) → pos < product sizes → StandsIn numbers pos → slice_index there.storage.values pos ≡ slice_index words pos
    named pos h s =
        let row : row_from table.coords s.at 0 (letters_of format) ≡ coords_at sizes pos =
        row_coords s.at s.inside ∙ ap (coords_at sizes) s.is in
        there.packed.stands.stored s.at pos s.inside
        (subst (λ xs. Path meaning there.storage.levels (one 0) xs pos) (sym row) (path_at pos h))
        ∙ ap (slice_index words) s.is

    unnamed : (pos : ℕ) → pos < product sizes → test pos ≡ false → slice_index there.storage.values pos ≡ slice_index words pos
    unnamed pos h fails =
        there.packed.stands.unnamed (coords_at sizes pos) pos (path_at pos h) (λ i l e. clash (test pos) (passes i l e) fails)
        ∙ sym (empty pos h fails)
      where
        passes : (i : ℕ) → i < length numbers → row_from table.coords i 0 (letters_of format) ≡ coords_at sizes pos → test pos ≡ true
        passes i l e =
            let number : ℕ = slice_index numbers i in
            let same : number ≡ pos = sym (position_of_coords sizes number (inside i l))
            ∙ ap (position sizes) (sym (row_coords i l) ∙ e) ∙ position_of_coords sizes pos h in
            ap test (sym same) ∙ (all_pass test 0 (product sizes) i l).is

    values_are : there.storage.values ≡ words
    values_are = same_number_lists there.storage.values words (values_many ∙ sym many) (λ pos h. at pos (omega (arith, h, values_many)))
      where
        at : (pos : ℕ) → pos < product sizes → slice_index there.storage.values pos ≡ slice_index words pos
        at pos h = by (test pos) refl
          where
            by : (b : Bool) → test pos ≡ b → slice_index there.storage.values pos ≡ slice_index words pos
            by true e = named pos h
                (passing_found test 0 (product sizes) pos (record { least = omega arith; below = omega (arith, h); is = e }))
            by false e = unnamed pos h e

    pub dense_packed : IsPacked nothing format ranges table (storage_of format (dense_levels sizes) words)
    dense_packed = record {
      format_is = refl;
      sizes = ap (map meaning.size) (sym levels_are) ∙ there.packed.sizes;
      few = there.packed.few;
      stands = subst (λ ls. Stands meaning nothing (letters_of format) sizes table ls words) levels_are
          (subst (λ vs. Stands meaning nothing (letters_of format) sizes table there.storage.levels vs) values_are there.packed.stands);
    }
