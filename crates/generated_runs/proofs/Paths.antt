-- The coordinates that a store's operand tells are those of its entries.
use Rattle.std.specs.Prelude.{◌≡◌, ◌⊎◌, ℕ, zero, suc, ◌<◌, true, false, List, [], ◌∷◌, length, All, IsPermutation, Some, slice_get}
use Rattle.std.specs.Prelude.{slice_index}
use Rattle.std.specs.Prelude.{slice_index_or, refl}
use Rattle.std.specs.List.{range_with_len}
use Rattle.std.proofs.Common.{◌∙◌, sym, subst, arith, inl, inr}
use Rattle.std.proofs.lemmas.List.FromFn.{length-range_with_len, get_or-range_with_len}
use Rattle.std.proofs.lemmas.List.Sorted.{All-permutation}
use Rattle.numbers.specs.Arithmetic.{Arithmetic}
use Rattle.tensor_map.specs.Entries.{Entry, Entries, Listed}
use Rattle.tensor_map.specs.Laws.{same, other}
use Rattle.tensor_map.proofs.Lemmas.{tested, listed_at}
use Rattle.format_spec.specs.declared.format.FormatLevel.{FormatLevel}
use Rattle.index_notation.specs.declared.syntax.Statement.{Statement}
use Rattle.iteration_graph.specs.Edges.{format_of}
use Rattle.level_core.specs.Entries.{one}
use Rattle.level_rows.specs.Stacks.{Path}
use Rattle.tensor_storage.specs.Arranged.{no_entry, table_of, AreArranged}
use Rattle.tensor_storage.specs.Levels.{meaning}
use Rattle.tensor_storage.specs.Storages.{Storage, EndsAt, in_level_order, storage_of}
use Rattle.lowering.specs.Stored.{IsToldBy, inputs_of}
use Rattle.lowering.proofs.Walked.{storages_tell}
use Rattle.kernel_correctness.specs.Stores.{Store, operand_of, told_alone}
use Rattle.operand_packing.specs.Packed.{AreSummed, IsPackedAt, IsPackedOperand, operand_sizes}
use Rattle.kernel_runs.specs.Runs.{IsStoreFor}
use Rattle.generated_runs.specs.Workloads.{by_rows}

listed_or_not : (entries : List Entry) (coords : List ℕ) → Listed entries coords ⊎ (Listed entries coords → ⊥)
listed_or_not [] coords = inr (λ l. l)
listed_or_not (e ∷ es) coords = by_rest (listed_or_not es coords)
  where
    by_rest : Listed es coords ⊎ (Listed es coords → ⊥) → Listed (e ∷ es) coords ⊎ (Listed (e ∷ es) coords → ⊥)
    by_rest (inl there) = inl (inr there)
    by_rest (inr none) = elim (tested e.coords coords) [
      | same is t ↦ inl (inl is)
      | other isnt t ↦ inr (λ l. elim l [ inl here ↦ isnt here | inr there ↦ none there ])
    ]

-- ---- rows of a table
number_below : (count : ℕ) (numbers : List ℕ) → IsPermutation (range_with_len 0 count) numbers → (i : ℕ) → i < length numbers
    → slice_index numbers i < count
number_below count numbers moved i h = All-permutation (λ k. k < count) (range_with_len 0 count) numbers moved below i 0 h
  where
    below : All (λ k. k < count) (range_with_len 0 count)
    below k d less =
        let long = length-range_with_len 0 count in
        let inside : k < count = omega (arith, less, long) in
        let is = get_or-range_with_len 0 count k d inside in
        omega (arith, is, inside)

two : (xs : List ℕ) → length xs ≡ 2 → xs ≡ slice_index xs 0 ∷ slice_index xs 1 ∷ []
two [] long = absurd (omega (arith, long))
two (x ∷ []) long = absurd (omega (arith, long))
two (x ∷ y ∷ []) long = refl
two (x ∷ y ∷ z ∷ zs) long = absurd (omega (arith, long))

-- each row of summed entries has the coordinates of one that was summed
pub row_listed : (a : Arithmetic) (entries summed : List Entry) (numbers : List ℕ) → AreSummed a 2 entries summed
    → AreArranged by_rows summed numbers → (i : ℕ) → i < length numbers
    → Listed entries ((table_of by_rows summed numbers).coords 0 i ∷ (table_of by_rows summed numbers).coords 1 i ∷ [])
row_listed a entries summed numbers sums arranged i h =
    let below = number_below (length summed) numbers arranged.all i h in
    let coords = (slice_index_or summed (slice_index numbers i) no_entry).coords in
    let long = (sums.each (slice_index numbers i) no_entry below).long in
    subst (Listed entries) (two coords long) ((sums.listed coords).0 (listed_at summed (slice_index numbers i) no_entry below))

-- ---- paths of a packed operand
path_listed : (a : Arithmetic) (sizes : List ℕ) (entries : List Entry) (storage : Storage) → IsPackedOperand a by_rows sizes entries storage
    → (x y pos : ℕ) → EndsAt storage (x ∷ y ∷ []) pos → Listed entries (x ∷ y ∷ [])
path_listed a sizes entries storage p x y pos ends =
    let path : Path meaning storage.levels (one 0) (x ∷ y ∷ []) pos =
    subst (λ f. Path meaning storage.levels (one 0) (in_level_order f (x ∷ y ∷ [])) pos) p.packed.packed.format_is ends in
    let made = p.packed.packed.stands.made (x ∷ y ∷ []) pos path in
    let row = made.2.1 refl in
    let coords = (table_of by_rows p.summed p.packed.numbers).coords in
    let first = row.2.1 in
    let second = row.3 in
    let same : coords 0 row.0 ∷ coords 1 row.0 ∷ [] ≡ x ∷ y ∷ [] = cc in
    subst (Listed entries) same (row_listed a entries p.summed p.packed.numbers p.are_summed p.packed.arranged row.0 row.1)

told_listed : (a : Arithmetic) (storages : ℕ → Storage) (ranges : ℕ → ℕ) (tensor : ℕ) (sizes : List ℕ) (entries : List Entry)
    → IsPackedOperand a by_rows sizes entries (storages tensor) → (x y : ℕ)
    → (inputs_of a storages ranges).paths tensor (x ∷ y ∷ []) ≡ true → Listed entries (x ∷ y ∷ [])
told_listed a storages ranges tensor sizes entries p x y is = by (listed_or_not entries (x ∷ y ∷ []))
  where
    by : Listed entries (x ∷ y ∷ []) ⊎ (Listed entries (x ∷ y ∷ []) → ⊥) → Listed entries (x ∷ y ∷ [])
    by (inl there) = there
    by (inr none) =
        let told : IsToldBy a (inputs_of a storages ranges) (storages tensor) tensor (x ∷ y ∷ []) =
        storages_tell a storages ranges tensor p.whole (x ∷ y ∷ []) in
        let untold = (told.none (λ pos ends. none (path_listed a sizes entries (storages tensor) p x y pos ends))).0 in
        absurd (clash (sym is ∙ untold))
      where
        clash : true ≡ false → ⊥
        clash e = cc

-- ---- operands of a store
some_at : {A : Type 0} (xs : List A) (n : ℕ) → n < length xs → (x : A) × (slice_get xs n ≡ Some x)
some_at [] n h = absurd (omega (arith, h))
some_at (x ∷ xs) zero h = (x, refl)
some_at (x ∷ xs) (suc n) h = some_at xs n (omega (arith, h))

within : {A : Type 0} (xs : List A) (n : ℕ) (x : A) → slice_get xs n ≡ Some x → n < length xs
within [] n x is = absurd cc
within (y ∷ xs) zero x is = omega arith
within (y ∷ xs) (suc n) x is = let rest = within xs n x is in omega (arith, rest)

found_at : (xs : List Storage) (n : ℕ) (x d : Storage) → slice_get xs n ≡ Some x → slice_index_or xs n d ≡ x
found_at [] n x d is = absurd cc
found_at (y ∷ xs) zero x d is = cc
found_at (y ∷ xs) (suc n) x d is = found_at xs n x d is

-- the storage of an operand in format `ds`
pub operand_packed : (a : Arithmetic) (s : Statement) (formats : List (List FormatLevel)) (ranges : List ℕ) (operands : List Entries)
    (store : Store) → IsStoreFor a s formats ranges operands store → (n : ℕ) (entries : Entries) → slice_get operands n ≡ Some entries
    → format_of formats (suc n) ≡ by_rows
    → (sizes : List ℕ) × IsPackedOperand a by_rows sizes entries.list (operand_of store (suc n))
operand_packed a s formats ranges operands store is n entries at format =
    let inside = within operands n entries at in
    let many = is.packed.many in
    let there = some_at store.operands n (omega (arith, inside, many)) in
    let packed : IsPackedAt a s formats (slice_index ranges) operands n there.0 = is.packed.each n there.0 there.1 in
    let found : there.0 ≡ operand_of store (suc n) = sym (found_at store.operands n there.0 (storage_of [] [] []) there.1) in
    let both : Some packed.entries ≡ Some entries = sym packed.is ∙ at in
    let same : packed.entries ≡ entries = cc in
    let sizes = operand_sizes s (slice_index ranges) n packed.entries in (
      sizes,
      subst (λ (e : Entries). IsPackedOperand a by_rows sizes e.list (operand_of store (suc n))) same
          (subst (λ f. IsPackedOperand a f sizes packed.entries.list (operand_of store (suc n))) format
          (subst (IsPackedOperand a (format_of formats (suc n)) sizes packed.entries.list) found packed.packed)),
    )

-- what a store tells to be a path of it is listed among the operand's entries
pub operand_listed : (a : Arithmetic) (s : Statement) (formats : List (List FormatLevel)) (ranges : List ℕ) (operands : List Entries)
    (store : Store) → IsStoreFor a s formats ranges operands store → (n : ℕ) (entries : Entries) → slice_get operands n ≡ Some entries
    → format_of formats (suc n) ≡ by_rows → (x y : ℕ) → (told_alone a store).paths (suc n) (x ∷ y ∷ []) ≡ true
    → Listed entries.list (x ∷ y ∷ [])
operand_listed a s formats ranges operands store is n entries at format x y path =
    let whole = operand_packed a s formats ranges operands store is n entries at format in
    told_listed a (operand_of store) (slice_index store.ranges) (suc n) whole.0 entries.list whole.1 x y path
