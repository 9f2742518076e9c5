-- The entries of the tensor that a right kernel leaves are the statement's values that aren't zero.
use Rattle.std.specs.Prelude.{◌≡◌, ◌⊎◌, ℕ, zero, suc, ◌+◌, ◌<◌, List, [], ◌∷◌, length, map, slice_index, slice_index_or, refl}
use Rattle.std.proofs.Common.{◌∙◌, sym, ap, subst, arith, inl, inr, get_or}
use Rattle.std.proofs.lemmas.List.{length-map}
use Rattle.numbers.specs.Arithmetic.{Arithmetic, Laws}
use Rattle.tensor_map.specs.Entries.{Entry, Entries, AreEntries, Listed, value_at}
use Rattle.tensor_map.specs.Laws.{same, other}
use Rattle.tensor_map.proofs.Lemmas.{tested, value_unlisted, value_of_entry}
use Rattle.index_notation.specs.Statement.{numbers_from}
use Rattle.index_notation.specs.declared.syntax.Statement.{Statement}
use Rattle.iteration_graph.specs.Edges.{format_of}
use Rattle.expr_terms.specs.Operands.{operand_values}
use Rattle.expr_terms.specs.Result.{AreBelow}
use Rattle.expr_terms.specs.Nested.{flat, nested_value}
use Rattle.expr_terms.specs.Terms.{statement_value}
use Rattle.workspaces.specs.PresenceLaws.{AreZeroElsewhere}
use Rattle.workspaces.proofs.NestedZeros.{flat_zero_elsewhere}
use Rattle.concrete_notation.specs.Contributions.{Inputs}
use Rattle.kernel_correctness.proofs.FlatStores.{told_flat}
use Rattle.mode_planner.proofs.NestedSame.{nested_value_same}
use Rattle.tns_io.specs.Positions.{IsBelow}
use Rattle.level_core.specs.declared.letter.Letter.{Letter}
use Rattle.level_core.specs.Entries.{one}
use Rattle.level_rows.specs.Stacks.{Path}
use Rattle.format_spec.specs.declared.format.FormatLevel.{FormatLevel}
use Rattle.level_core.specs.declared.letter.Letter.TheVariants.{Dense}
use Rattle.format_spec.specs.Formats.{letters_of, IsFormat}
use Rattle.concrete_notation.specs.Right.{IsInSupport}
use Rattle.tensor_storage.specs.Levels.{meaning}
use Rattle.tensor_storage.specs.Stands.{row_from, MakesPath, Stands, IsPacked}
use Rattle.tensor_storage.specs.Storages.{Storage, EndsAt, in_level_order}
use Rattle.tensor_storage.specs.Tables.{Table}
use Rattle.tensor_storage.proofs.Arranging.{coords_back, level_coord}
use Rattle.tensor_storage.proofs.Paths.{mode_below}
use Rattle.lowering.proofs.Walked.{storages_zero}
use Rattle.kernel_correctness.specs.Results.{IsNamedResult}
use Rattle.kernel_correctness.specs.Stores.{Store, operand_of, told_alone, told_by}
use Rattle.operand_packing.specs.Operands.{AreOperands}
use Rattle.operand_packing.proofs.Below.{below_each, below_length}
use Rattle.kernel_runs.specs.Runs.{IsStoreFor, IsTensorOf}
use Rattle.kernel_runs.specs.Steps.{ListsNonzero}
use Rattle.kernel_runs.proofs.Support.{zero_outside}
use Rattle.kernel_runs.proofs.Told.{values_told}

-- ---- lists of coordinates
to_below : (ranges coords : List ℕ) → AreBelow coords ranges → IsBelow ranges coords
to_below [] [] h = tt
to_below [] (x ∷ coords) h = absurd h
to_below (n ∷ ranges) [] h = absurd h
to_below (n ∷ ranges) (x ∷ coords) h = (h.0, to_below ranges coords h.1)

from_below : (ranges coords : List ℕ) → IsBelow ranges coords → AreBelow coords ranges
from_below [] [] h = tt
from_below [] (x ∷ coords) h = absurd h
from_below (n ∷ ranges) [] h = absurd h
from_below (n ∷ ranges) (x ∷ coords) h = (h.0, from_below ranges coords h.1)

pub number_at : (from count mode : ℕ) → mode < count → slice_index (numbers_from from count) mode ≡ from + mode
number_at from zero mode h = absurd (omega (arith, h))
number_at from (suc count) zero h = omega arith
number_at from (suc count) (suc mode) h = let rest = number_at (from + 1) count mode (omega (arith, h)) in omega (arith, rest)

pub listed_or_not : (entries : List Entry) (coords : List ℕ) → Listed entries coords ⊎ (Listed entries coords → ⊥)
listed_or_not [] coords = inr (λ l. l)
listed_or_not (e ∷ es) coords = by_rest (listed_or_not es coords)
  where
    by_rest : Listed es coords ⊎ (Listed es coords → ⊥) → Listed (e ∷ es) coords ⊎ (Listed (e ∷ es) coords → ⊥)
    by_rest (inl there) = inl (inr there)
    by_rest (inr none) = elim (tested e.coords coords) [
      | same is t ↦ inl (inl is)
      | other isnt t ↦ inr (λ l. elim l [ inl here ↦ isnt here | inr there ↦ none there ])
    ]

-- ---- rows
some_level : FormatLevel
some_level = record { letter = Dense; mode = 0 }

row_coord : (coords : ℕ → ℕ → ℕ) (i d : ℕ) (letters : List Letter) (e : ℕ) → e < length letters
    → slice_index (row_from coords i d letters) e ≡ coords (d + e) i
row_coord coords i d [] e h = absurd (omega (arith, h))
row_coord coords i d (letter ∷ letters) zero h = let here : d ≡ d + 0 = omega arith in ap (λ n. coords n i) here
row_coord coords i d (letter ∷ letters) (suc e) h =
    let next : suc d + e ≡ d + suc e = omega arith in
    row_coord coords i (suc d) letters e (omega (arith, h)) ∙ ap (λ n. coords n i) next

-- a row makes a path
own_made : (table : Table) (i : ℕ) → i < table.count → (letters : List Letter) (sizes : List ℕ) (d : ℕ) → length letters ≡ length sizes
    → ((e : ℕ) → e < length sizes → table.coords (d + e) i < slice_index sizes e) → (begins : ℕ → Type 0) → begins i
    → MakesPath table d letters sizes begins (row_from table.coords i d letters)
own_made table i h [] sizes d long below begins b = tt
own_made table i h (letter ∷ letters) [] d long below begins b = absurd (omega (arith, long))
own_made table i h (letter ∷ letters) (size ∷ sizes) d long below begins b =
    let here : d + 0 ≡ d = omega arith in
    let first = subst (λ n. table.coords n i < size) here (below 0 (omega arith)) in (
      λ full. first,
      λ sparse. (i, h, b, refl),
      own_made table i h letters sizes (suc d) (omega (arith, long))
          (λ e less. let equal : d + suc e ≡ suc d + e = omega arith in
          subst (λ n. table.coords n i < slice_index sizes e) equal (below (suc e) (omega (arith, less)))) (λ j. begins j
          × (table.coords d j ≡ table.coords d i)) (b, refl),
    )

-- some of the first rows has these coordinates, or none has
find_row : (coords : ℕ → ℕ → ℕ) (letters : List Letter) (xs : List ℕ) (n : ℕ)
    → ((i : ℕ) × (i < n) × (row_from coords i 0 letters ≡ xs)) ⊎ ((i : ℕ) → i < n → row_from coords i 0 letters ≡ xs → ⊥)
find_row coords letters xs zero = inr (λ i h e. omega (arith, h))
find_row coords letters xs (suc n) = by (find_row coords letters xs n)
  where
    by : ((i : ℕ) × (i < n) × (row_from coords i 0 letters ≡ xs)) ⊎ ((i : ℕ) → i < n → row_from coords i 0 letters ≡ xs → ⊥)
        → ((i : ℕ) × (i < suc n) × (row_from coords i 0 letters ≡ xs)) ⊎ ((i : ℕ) → i < suc n → row_from coords i 0 letters ≡ xs → ⊥)
    by (inl found) = inl (found.0, (let h = found.1 in omega (arith, h)), found.2)
    by (inr none) = elim (tested (row_from coords n 0 letters) xs) [
      | same is t ↦ inl (n, omega arith, is)
      | other isnt t ↦ inr (λ i h e. last (tested_at i h) e isnt)
    ]
      where
        tested_at : (i : ℕ) → i < suc n → (i < n) ⊎ (i ≡ n)
        tested_at i h = grind (arith, h)

        last : {i : ℕ} → (i < n) ⊎ (i ≡ n) → row_from coords i 0 letters ≡ xs → (row_from coords n 0 letters ≡ xs → ⊥) → ⊥
        last {i = i} (inl before) e isnt = none i before e
        last {i = i} (inr here) e isnt = isnt (ap (λ k. row_from coords k 0 letters) (sym here) ∙ e)

module _ (a : Arithmetic) (laws : Laws a) (s : Statement) (formats : List (List FormatLevel)) (ranges : List ℕ)
    (operands : List Entries) (store : Store) (are : AreOperands s formats operands)
    (for : IsStoreFor a s formats ranges operands store) (tensor : Storage) (table : Table)
    (named : IsNamedResult a (flat s) (told_by a (flat s) store) store.format table)
    (packed : IsPacked a.zero store.format store.ranges table tensor)
    (entries : Entries) (lists : ListsNonzero a tensor entries) where
  format_is : tensor.format ≡ store.format
  format_is = packed.format_is

  stands : Stands meaning a.zero (letters_of store.format) (in_level_order store.format store.ranges) table tensor.levels tensor.values
  stands = packed.stands

  is_format : IsFormat store.format
  is_format = for.is_store.format

  letters_long : length (letters_of store.format) ≡ length store.format
  letters_long = length-map store.format (λ (level : FormatLevel). level.letter)

  sizes_long : length (in_level_order store.format store.ranges) ≡ length store.format
  sizes_long = length-map store.format (λ (level : FormatLevel). slice_index store.ranges level.mode)

  -- the result's format has a level for each variable on the left
  order_is : length store.format ≡ length s.left.vars
  order_is =
      ap length for.is_store.format_is ∙ ap (λ t. length (format_of formats t)) (sym are.named.result) ∙ are.result_format.order

  -- tensors and sums are zero where they have no path
  elsewhere : AreZeroElsewhere a (told_by a (flat s) store).paths (told_by a (flat s) store).values
  elsewhere =
      subst (λ (told : Inputs). AreZeroElsewhere a told.paths told.values) (sym (told_flat a s (told_alone a store)))
      (flat_zero_elsewhere a laws s (told_alone a store).paths (told_alone a store).values (slice_index store.ranges)
      (storages_zero a (operand_of store) (slice_index store.ranges)))

  -- ---- paths of the tensor are those of the store's format
  to_path : (coords : List ℕ) (pos : ℕ) → EndsAt tensor coords pos
      → Path meaning tensor.levels (one 0) (in_level_order store.format coords) pos
  to_path coords pos path = subst (λ f. Path meaning tensor.levels (one 0) (in_level_order f coords) pos) format_is path

  from_path : (coords : List ℕ) (pos : ℕ) → Path meaning tensor.levels (one 0) (in_level_order store.format coords) pos
      → EndsAt tensor coords pos
  from_path coords pos path = subst (λ f. Path meaning tensor.levels (one 0) (in_level_order f coords) pos) (sym format_is) path

  -- ---- coordinates below the left ranges
  long_below : (coords : List ℕ) → AreBelow coords (map (slice_index store.ranges) s.left.vars) → length coords ≡ length store.format
  long_below coords below =
      below_length (slice_index store.ranges) s.left.vars coords (to_below (map (slice_index store.ranges) s.left.vars) coords below)
      ∙ sym order_is

  coord_below : (coords : List ℕ) → AreBelow coords (map (slice_index store.ranges) s.left.vars) → (mode : ℕ) → mode < length store.format
      → slice_index coords mode < slice_index store.ranges mode
  coord_below coords below mode h =
      let within : mode < length s.left.vars = omega (arith, h, order_is) in
      let var : slice_index s.left.vars mode ≡ mode =
      ap (λ (vs : List ℕ). slice_index vs mode) are.named.standing ∙ number_at 0 (length s.left.vars) mode within ∙ omega arith in
      let less = below_each (slice_index store.ranges) s.left.vars coords
      (to_below (map (slice_index store.ranges) s.left.vars) coords below) mode within in
      subst (λ v. slice_index coords mode < slice_index store.ranges v) var less

  -- ---- rows and points of the support
  support_of : (i : ℕ) (coords : List ℕ) → i < table.count → length coords ≡ length store.format
      → row_from table.coords i 0 (letters_of store.format) ≡ in_level_order store.format coords
      → IsInSupport (flat s) (told_by a (flat s) store) coords
  support_of i coords h long is =
      let c = named.none_else i h in
      let back : c.0 ≡ coords = coords_back store.format c.0 coords is_format (long_below c.0 c.1.0) long (sym c.2.1 ∙ is) in
      subst (IsInSupport (flat s) (told_by a (flat s) store)) back c.1

  row_path : (i : ℕ) (coords : List ℕ) → i < table.count
      → row_from table.coords i 0 (letters_of store.format) ≡ in_level_order store.format coords
      → AreBelow coords (map (slice_index store.ranges) s.left.vars) → (pos : ℕ) × EndsAt tensor coords pos
  row_path i coords h is below =
      let made = own_made table i h (letters_of store.format) (in_level_order store.format store.ranges) 0
      (letters_long ∙ sym sizes_long) at (λ j. j < table.count) h in
      let p = stands.there (row_from table.coords i 0 (letters_of store.format)) made in
      (p.0, from_path coords p.0 (subst (λ xs. Path meaning tensor.levels (one 0) xs p.0) is p.1))
    where
      at : (e : ℕ) → e < length (in_level_order store.format store.ranges)
          → table.coords (0 + e) i < slice_index (in_level_order store.format store.ranges) e
      at e less =
          let within : e < length store.format = omega (arith, less, sizes_long) in
          let mode : ℕ = (get_or store.format e some_level).mode in
          let inside : mode < length store.format = mode_below store.format is_format e some_level within in
          let coord : table.coords (0 + e) i ≡ slice_index coords mode =
          sym (row_coord table.coords i 0 (letters_of store.format) e (omega (arith, within, letters_long)))
          ∙ ap (λ (xs : List ℕ). slice_index xs e) is ∙ level_coord store.format coords e some_level within in
          let size : slice_index (in_level_order store.format store.ranges) e ≡ slice_index store.ranges mode =
          level_coord store.format store.ranges e some_level within in
          let less_there = coord_below coords below mode inside in
          omega (arith, coord, size, less_there)

  -- ---- values
  listed_value : (coords : List ℕ) (pos : ℕ) → length coords ≡ length store.format → EndsAt tensor coords pos
      → value_at a lists.all.list coords ≡ slice_index tensor.values pos
  listed_value coords pos long path = lists.lists.values coords pos (long ∙ sym (ap length format_is)) path

  row_value : (i : ℕ) (coords : List ℕ) → i < table.count → length coords ≡ length store.format
      → row_from table.coords i 0 (letters_of store.format) ≡ in_level_order store.format coords
      → value_at a lists.all.list coords ≡ statement_value a (flat s) (told_by a (flat s) store).values (slice_index store.ranges) coords
  row_value i coords h long is =
      let support = support_of i coords h long is in
      let path = row_path i coords h is support.0 in
      listed_value coords path.0 long path.1
      ∙ stands.stored i path.0 h (subst (λ xs. Path meaning tensor.levels (one 0) xs path.0) (sym is) (to_path coords path.0 path.1))
      ∙ named.values i coords support (h, is)

  no_row_value : (coords : List ℕ) → length coords ≡ length store.format
      → ((i : ℕ) → i < table.count → row_from table.coords i 0 (letters_of store.format)
      ≡ in_level_order store.format coords → ⊥)
      → value_at a lists.all.list coords ≡ a.zero
  no_row_value coords long none = by (listed_or_not lists.all.list coords)
    where
      by : Listed lists.all.list coords ⊎ (Listed lists.all.list coords → ⊥) → value_at a lists.all.list coords ≡ a.zero
      by (inl listed) =
          let path = (lists.lists.listed coords).0 listed in
          listed_value coords path.1.0 long path.1.1
          ∙ stands.unnamed (in_level_order store.format coords) path.1.0 (to_path coords path.1.0 path.1.1) none
      by (inr unlisted) = value_unlisted a laws coords lists.all.list unlisted

  value_is : (coords : List ℕ) → AreBelow coords (map (slice_index store.ranges) s.left.vars)
      → value_at a lists.all.list coords ≡ statement_value a (flat s) (told_by a (flat s) store).values (slice_index store.ranges) coords
  value_is coords below =
      by (find_row table.coords (letters_of store.format) (in_level_order store.format coords) table.count)
    where
      long : length coords ≡ length store.format
      long = long_below coords below

      by : ((i : ℕ) × (i < table.count)
          × (row_from table.coords i 0 (letters_of store.format) ≡ in_level_order store.format coords))
          ⊎ ((i : ℕ) → i < table.count → row_from table.coords i 0 (letters_of store.format)
          ≡ in_level_order store.format coords → ⊥)
          → value_at a lists.all.list coords ≡ statement_value a (flat s) (told_by a (flat s) store).values
          (slice_index store.ranges) coords
      by (inl found) = row_value found.0 coords found.1 long found.2
      by (inr none) =
          no_row_value coords long none
          ∙ sym (zero_outside a laws (flat s) (told_by a (flat s) store) elsewhere coords below
          (λ support. let r = named.named coords support in none r.0 r.1.0 r.1.1))

  -- ---- each entry
  entry_below : (whole_entries : AreEntries entries) (k : ℕ) (d : Entry) → k < length entries.list
      → AreBelow (slice_index_or entries.list k d).coords (map (slice_index store.ranges) s.left.vars)
  entry_below each k d h =
      by (find_row table.coords (letters_of store.format) (in_level_order store.format (slice_index_or entries.list k d).coords)
      table.count)
    where
      order : entries.order ≡ length store.format
      order = lists.order ∙ lists.lists.order ∙ ap length format_is

      long : length (slice_index_or entries.list k d).coords ≡ length store.format
      long = (each.each k d h).long ∙ order

      value : value_at a lists.all.list (slice_index_or entries.list k d).coords ≡ (slice_index_or entries.list k d).value
      value = sym (lists.values (slice_index_or entries.list k d).coords)
          ∙ value_of_entry a laws entries.list k d lists.increasing h (each.each k d h).word

      by : ((i : ℕ) × (i < table.count)
          × (row_from table.coords i 0 (letters_of store.format)
          ≡ in_level_order store.format (slice_index_or entries.list k d).coords))
          ⊎ ((i : ℕ) → i < table.count → row_from table.coords i 0 (letters_of store.format)
          ≡ in_level_order store.format (slice_index_or entries.list k d).coords → ⊥)
          → AreBelow (slice_index_or entries.list k d).coords (map (slice_index store.ranges) s.left.vars)
      by (inl found) = (support_of found.0 (slice_index_or entries.list k d).coords found.1 long found.2).0
      by (inr none) =
          absurd (lists.nonzero k d h (sym value ∙ no_row_value (slice_index_or entries.list k d).coords long none))

  pub tensor_of : (shape : List ℕ) → shape ≡ map (slice_index ranges) s.left.vars → AreEntries entries
      → IsTensorOf a s operands (slice_index ranges) shape entries
  tensor_of shape shape_is each = record {
    shape_is = shape_is;
    order_is = lists.order ∙ lists.lists.order ∙ ap length format_is ∙ order_is ∙ sym (ap length shape_is
        ∙ length-map s.left.vars (slice_index ranges));
    below = λ k d h.
        subst (λ xs. IsBelow xs (slice_index_or entries.list k d).coords) (same_shape ∙ sym shape_is)
        (to_below (map (slice_index store.ranges) s.left.vars) (slice_index_or entries.list k d).coords (entry_below each k d h));
    increasing = lists.increasing;
    nonzero = lists.nonzero;
    values_are = λ coords below.
        lists.values coords
        ∙ value_is coords (from_below (map (slice_index store.ranges) s.left.vars) coords
        (subst (λ xs. IsBelow xs coords) (shape_is ∙ sym same_shape) below))
        ∙ ap (λ (told : Inputs). statement_value a (flat s) told.values (slice_index store.ranges) coords)
        (told_flat a s (told_alone a store))
        ∙ nested_value_same a s (told_alone a store).values (operand_values a operands)
        (values_told a laws s formats ranges operands store are for) (slice_index store.ranges) coords
        ∙ ap (λ (rs : List ℕ). nested_value a s (operand_values a operands) (slice_index rs) coords) for.ranges_are;
  }
    where
      same_shape : map (slice_index store.ranges) s.left.vars ≡ map (slice_index ranges) s.left.vars
      same_shape = ap (λ (rs : List ℕ). map (slice_index rs) s.left.vars) for.ranges_are
