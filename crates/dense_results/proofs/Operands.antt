-- What the arrays of a store hold of its operands, and what these tell.
use Rattle.std.specs.Prelude.{◌≡◌, ◌≢◌, ◌⊎◌, ℕ, zero, suc, ◌+◌, ◌-◌, ◌^◌, ◌≤◌, ◌<◌, nat_lt, not, Bool, true, false, List, [], ◌∷◌, length}
use Rattle.std.specs.Prelude.{map, take, drop, All, Option, Some, None, slice_get, slice_index, slice_index_or, refl}
use Rattle.std.proofs.Common.{◌∙◌, sym, ap, subst, arith, inl, inr}
use Rattle.std.proofs.lemmas.Bool.Decides.{nat_tests}
use Rattle.limits.specs.Limits.{greatest_position_count}
use Rattle.limits.proofs.Limits.{positions_are_small}
use Rattle.lists.proofs.Each.{each_get}
use Rattle.numbers.specs.Arithmetic.{Arithmetic, Laws}
use Rattle.level_core.specs.declared.span.Span.{Span}
use Rattle.level_core.specs.Entries.{one}
use Rattle.level_core.specs.Meaning.{Arrays}
use Rattle.level_cursors.specs.Cursors.{no_coordinate}
use Rattle.kernel_code.specs.declared.syntax.Arr.TheVariants.{Values}
use Rattle.format_spec.specs.declared.format.FormatLevel.{FormatLevel}
use Rattle.format_spec.specs.Formats.{letters_of}
use Rattle.index_notation.specs.declared.syntax.Access.{Access}
use Rattle.index_notation.specs.declared.syntax.Statement.{Statement}
use Rattle.iteration_graph.specs.Edges.{format_of, HasFormat}
use Rattle.tensor_storage.specs.Levels.{meaning}
use Rattle.tensor_storage.specs.Storages.{Storage, IsOpen, storage_of}
use Rattle.lowering.specs.Held.{AreHeld}
use Rattle.lowering.specs.Layouts.{levels_of, layout_of}
use Rattle.lowering.specs.Stored.{entries_at, levels_stored, values_stored, stored_of, word_at, HasStorage, IsToldBy}
use Rattle.lowering.specs.Sums.{first_sum}
use Rattle.lowering.proofs.HeldStorages.{storages_held}
use Rattle.lowering.proofs.Walked.{storages_tell, storages_zero, storages_words}
use Rattle.kernel_correctness.specs.Stores.{Store, IsOperand, AreOperands, IsHeld, OperandsHeld, IsGiven, level_sizes, operand_of}
use Rattle.kernel_correctness.specs.Stores.{told_alone, told_by}
use Rattle.kernel_correctness.specs.Stores as stores
use Rattle.kernel_correctness.proofs.FlatStores.{access_told, flat_sums, path_told, sums_told, value_told, words_told, zero_told}
use Rattle.workspaces.specs.PresenceLaws.{AreZeroElsewhere}
use Rattle.term_code.specs.declared.places.AccessPlace.{AccessPlace}
use Rattle.operand_arrays.specs.Operands.{stored_in, HasRanges}
use Rattle.dense_results.specs.Operands.{values_at, operands_in, IsReadStore, ArePlacesOf, ArraysStandForOperands}
use Rattle.dense_results.specs.Operands.{AreTold, OperandsAreTold, first_summed}
use Rattle.dense_results.proofs.SumAccesses.{below_or_not, default_outside, get_taken, place_tells, sum_read}

-- the operand of this number, counted from 0, is one of the tensor behind the first ones
operand_is : (s : Statement) (formats : List (List FormatLevel)) (ranges : ℕ → ℕ) (operands : List Storage) (first n : ℕ)
    → AreOperands s formats ranges first operands → n < length operands
    → IsOperand (format_of formats (first + n)) (level_sizes s ranges (first + n) (format_of formats (first + n)))
    (slice_index_or operands n (storage_of [] [] []))
operand_is s formats ranges [] first n are h = absurd (omega (arith, h))
operand_is s formats ranges (o ∷ operands) first zero are h =
    subst (λ t. IsOperand (format_of formats t) (level_sizes s ranges t (format_of formats t)) o) (omega arith) are.0
operand_is s formats ranges (o ∷ operands) first (suc n) are h =
    subst (λ t. IsOperand (format_of formats t) (level_sizes s ranges t (format_of formats t))
    (slice_index_or operands n (storage_of [] [] [])))
    (omega arith) (operand_is s formats ranges operands (suc first) n are.1 (omega (arith, h)))

operand_held : (operands : List Storage) (first n : ℕ) (arrays : Arrays) → OperandsHeld operands first arrays → n < length operands
    → IsHeld (slice_index_or operands n (storage_of [] [] [])) (first + n) arrays
operand_held [] first n arrays held h = absurd (omega (arith, h))
operand_held (o ∷ operands) first zero arrays held h = subst (λ t. IsHeld o t arrays) (omega arith) held.0
operand_held (o ∷ operands) first (suc n) arrays held h =
    subst (λ t. IsHeld (slice_index_or operands n (storage_of [] [] [])) t arrays) (omega arith)
    (operand_held operands (suc first) n arrays held.1 (omega (arith, h)))

-- the access of each number that there is
got : {X : Type 0} (xs : List X) (k : ℕ) → k < length xs → (x : X) × (slice_get xs k ≡ Some x)
got [] k h = absurd (omega (arith, h))
got (x ∷ xs) zero h = (x, refl)
got (x ∷ xs) (suc k) h = got xs k (omega (arith, h))

range_got : (ranges : List ℕ) (v : ℕ) → v < length ranges → slice_get ranges v ≡ Some (slice_index ranges v)
range_got [] v h = absurd (omega (arith, h))
range_got (r ∷ ranges) zero h = refl
range_got (r ∷ ranges) (suc v) h = range_got ranges v (omega (arith, h))

index_below : (xs : List ℕ) (m n : ℕ) → 0 < n → All (λ x. x < n) xs → slice_index xs m < n
index_below [] m n some all = some
index_below (x ∷ xs) zero n some all = all 0 0 (omega arith)
index_below (x ∷ xs) (suc m) n some all = index_below xs m n some (λ k d h. all (suc k) d (omega (arith, h)))

ranges_small : (n : ℕ) → n ≤ greatest_position_count → n < no_coordinate
unfolding no_coordinate
ranges_small n h = let small = positions_are_small in omega (arith, h, small)

index_most : (xs : List ℕ) (m n : ℕ) → All (λ x. x ≤ n) xs → slice_index xs m ≤ n
index_most [] m n all = omega arith
index_most (x ∷ xs) zero n all = all 0 0 (omega arith)
index_most (x ∷ xs) (suc m) n all = index_most xs m n (λ k d h. all (suc k) d (omega (arith, h)))

module _ (s : Statement) (formats : List (List FormatLevel)) (store : Store) (r : IsReadStore s formats store) where
  -- the tensor of an access is that of an operand
  pub record ReadsOperand (access : Access) : Type 0 where
    pub number : ℕ
    pub tensor : access.tensor ≡ suc number
    pub inside : number < length store.operands
    pub operand : IsOperand (format_of formats access.tensor)
        (level_sizes s (slice_index store.ranges) access.tensor (format_of formats access.tensor)) (operand_of store access.tensor)

  is_unread : (k : ℕ) (access : Access) → slice_get s.accesses k ≡ Some access → access.tensor ≢ 0
  is_unread k access is = each_get (λ (x : Access). x.tensor ≢ 0) s.accesses k access r.named.unread is

  is_read : (k : ℕ) (access : Access) → slice_get s.accesses k ≡ Some access → k < first_sum s → ReadsOperand access
  is_read k access is real = by access.tensor refl
    where
      small : access.tensor < suc (length store.operands)
      small =
          let below = access_told s formats r.flat k access is real in
          let many = r.is.operands in
          omega (arith, below, many)

      by : (t : ℕ) → access.tensor ≡ t → ReadsOperand access
      by zero e = absurd (is_unread k access is e)
      by (suc n) e =
          let inside : n < length store.operands = omega (arith, small, e) in
          let one_more : 1 + n ≡ suc n = omega arith in
          record {
            number = n;
            tensor = e;
            inside = inside;
            operand = subst (λ t. IsOperand (format_of formats t) (level_sizes s (slice_index store.ranges) t (format_of formats t))
                (operand_of store t)) (sym e)
                (subst (λ t. IsOperand (format_of formats t) (level_sizes s (slice_index store.ranges) t (format_of formats t))
                (slice_index_or store.operands n (storage_of [] [] []))) one_more
                (operand_is s formats (slice_index store.ranges) store.operands 1 n r.is.operands_keep inside));
          }

  -- an access is one of a tensor, or it reads a sum, of which nothing is stored
  real_or_sum : (k : ℕ) → (k < first_sum s) ⊎ (first_sum s ≤ k)
  real_or_sum k = below_or_not k (first_sum s)

  real_by : (k : ℕ) → nat_lt k (first_sum s) ≡ true → k < first_sum s
  real_by k is = by k (first_sum s) is
    where
      by : (k n : ℕ) → nat_lt k n ≡ true → k < n
      by k n h = grind (arith, nat_tests, h)

  sum_by : (k : ℕ) → nat_lt k (first_sum s) ≡ false → first_sum s ≤ k
  sum_by k is = by k (first_sum s) is
    where
      by : (k n : ℕ) → nat_lt k n ≡ false → n ≤ k
      by k n h = grind (arith, nat_tests, h)

  nothing_behind : (tensor : ℕ) → first_summed s ≤ tensor → operand_of store tensor ≡ storage_of [] [] []
  nothing_behind zero h = refl
  nothing_behind (suc n) h =
      let many = r.is.operands in default_outside store.operands n (storage_of [] [] []) (omega (arith, h, many))

  no_levels : (k : ℕ) → first_sum s ≤ k → (operands_in s store).levels k ≡ []
  no_levels k behind = by (slice_get s.accesses k) refl
    where
      by : (o : Option Access) → slice_get s.accesses k ≡ o → levels_stored (operand_of store) o ≡ []
      by None at = refl
      by (Some access) at =
          ap (λ (storage : Storage). storage.levels) (nothing_behind access.tensor (sum_read s formats r.flat k access at behind))

  letters : (k : ℕ) → k < length s.accesses
      → map meaning.kind ((operands_in s store).levels k) ≡ letters_of (levels_of formats (slice_get s.accesses k))
  letters k h = by (real_or_sum k)
    where
      by : (k < first_sum s) ⊎ (first_sum s ≤ k)
          → map meaning.kind ((operands_in s store).levels k) ≡ letters_of (levels_of formats (slice_get s.accesses k))
      by (inl real) =
          let x = got s.accesses k h in
          let i = is_read k x.0 x.1 real in
          subst (λ o. map meaning.kind (levels_stored (operand_of store) o) ≡ letters_of (levels_of formats o)) (sym x.1)
          (i.operand.storage.letters ∙ ap letters_of i.operand.format_is)
      by (inr sum) =
          let n = k - first_sum s in
          let number : first_sum s + n ≡ k = omega (arith, sum) in
          let few = (flat_sums s formats r.flat).count in
          let below : n < length s.sums = omega (arith, h, sum, few) in
          ap (map meaning.kind) (no_levels k sum)
          ∙ sym (ap letters_of (subst (λ j. levels_of formats (slice_get s.accesses j) ≡ []) number
          ((flat_sums s formats r.flat).levels n below)))

  module _ (nothing : ℕ) (arrays : Arrays) (given : IsGiven nothing store arrays) where
    held_at : (access : Access) → ReadsOperand access → IsHeld (operand_of store access.tensor) access.tensor arrays
    held_at access i =
        let one_more : 1 + i.number ≡ suc i.number = omega arith in
        subst (λ t. IsHeld (operand_of store t) t arrays) (sym i.tensor)
        (subst (λ t. IsHeld (slice_index_or store.operands i.number (storage_of [] [] [])) t arrays) one_more
        (operand_held store.operands 1 i.number arrays given.operands i.inside))

    module _ (accesses : List AccessPlace) (are : ArePlacesOf s accesses) where
      held : (k : ℕ) (p : AccessPlace) → slice_get accesses k ≡ Some p → stores.AreHeld ((operands_in s store).levels k) p.tensor 1 arrays
      held k p is = by (real_or_sum k)
        where
          by : (k < first_sum s) ⊎ (first_sum s ≤ k) → stores.AreHeld ((operands_in s store).levels k) p.tensor 1 arrays
          by (inl real) =
              let x = are k p is in
              subst (λ o. stores.AreHeld (levels_stored (operand_of store) o) p.tensor 1 arrays) (sym x.1)
              (subst (λ t. stores.AreHeld (operand_of store x.0.tensor).levels t 1 arrays) (sym x.2)
              (held_at x.0 (is_read k x.0 x.1 real)).levels)
          by (inr sum) = subst (λ levels. stores.AreHeld levels p.tensor 1 arrays) (sym (no_levels k sum)) tt

      values : (k : ℕ) (p : AccessPlace) → slice_get accesses k ≡ Some p → nat_lt k (first_sum s) ≡ true
          → arrays (Values p.tensor) ≡ Some ((operands_in s store).words k)
      values k p is real =
          let x = are k p is in
          ap (λ t. arrays (Values t)) x.2 ∙ (held_at x.0 (is_read k x.0 x.1 (real_by k real))).values
          ∙ ap (λ o. Some (values_at (operand_of store) o)) (sym x.1)

      sums : (k : ℕ) (p : AccessPlace) → slice_get accesses k ≡ Some p → p.is_sum ≡ not (nat_lt k (first_sum s))
      sums k p is = let x = are k p is in x.3 ∙ place_tells s formats r.flat k x.0 x.1

      operands : (k : ℕ) (p : AccessPlace) → slice_get accesses k ≡ Some p → 0 < p.tensor
      operands k p is =
          let x = are k p is in
          let some = is_unread k x.0 x.1 in
          let same = x.2 in
          omega (arith, some, same)

  -- before all loops each access of a tensor may be asked from its top
  opened : (k : ℕ) (span : Span) → nat_lt k (first_sum s) ≡ true → Some (one 0) ≡ Some span
      → IsOpen meaning (drop 0 ((operands_in s store).levels k)) (length ((operands_in s store).words k)) span
  opened k span real is =
      let same : one 0 ≡ span = cc in
      subst (IsOpen meaning ((operands_in s store).levels k) (length ((operands_in s store).words k))) same
      (by (slice_get s.accesses k) refl)
    where
      by : (o : Option Access) → slice_get s.accesses k ≡ o
          → IsOpen meaning (levels_stored (operand_of store) o) (length (values_at (operand_of store) o)) (one 0)
      by None e = (refl, omega arith)
      by (Some access) e = (is_read k access e (real_by k real)).operand.storage.opened

  has_ranges : (nothing : ℕ) (arrays : Arrays) → IsGiven nothing store arrays → HasRanges s (slice_index store.ranges) arrays
  has_ranges nothing arrays given = record {
    words = store.ranges;
    held = given.ranges;
    each = λ v h. let many = r.is.each in range_got store.ranges v (omega (arith, h, many));
    small = λ v h. ranges_small (slice_index store.ranges v) (index_most store.ranges v greatest_position_count r.is.small);
  }

  -- the value at a position, or zero; and of a sum the position
  word_same : (b : Bool) (o : Option Access) (position : ℕ)
      → word_at b (values_at (operand_of store) o) position ≡ word_at b (values_stored (operand_of store) o) position
  word_same true None zero = refl
  word_same true None (suc p) = refl
  word_same true (Some access) p = refl
  word_same false o p = refl

  stored_same : stored_in (operands_in s store) ≡ stored_of s (operand_of store)
  stored_same = λ i. record {
    entries = (stored_of s (operand_of store)).entries;
    word = λ k position. word_same (nat_lt k (first_sum s)) (slice_get s.accesses k) position i;
  }

  -- all values are words
  words_small : (tensor pos : ℕ) → slice_index (operand_of store tensor).values pos < 2 ^ 64
  words_small zero pos = omega arith
  words_small (suc n) pos = of_operands store.operands 1 n r.is.operands_keep
    where
      of_operands : (operands : List Storage) (first n : ℕ) → AreOperands s formats (slice_index store.ranges) first operands
          → slice_index (slice_index_or operands n (storage_of [] [] [])).values pos < 2 ^ 64
      of_operands [] first n are = omega arith
      of_operands (o ∷ operands) first zero are = index_below o.values pos (2 ^ 64) (omega arith) are.0.words
      of_operands (o ∷ operands) first (suc n) are = of_operands operands (suc first) n are.1

  pub word_small : (k position : ℕ) → slice_index ((operands_in s store).words k) position < 2 ^ 64
  word_small k position = by (slice_get s.accesses k) position
    where
      by : (o : Option Access) (p : ℕ) → slice_index (values_at (operand_of store) o) p < 2 ^ 64
      by None zero = omega arith
      by None (suc p) = omega arith
      by (Some access) p = words_small access.tensor p

  pub stored_small : (k position : ℕ) → nat_lt k (first_sum s) ≡ true → (stored_in (operands_in s store)).word k position < 2 ^ 64
  stored_small k position is =
      subst (λ b. word_at b ((operands_in s store).words k) position < 2 ^ 64) (sym is) (word_small k position)

  pub sum_plain : (k position : ℕ) → nat_lt k (first_sum s) ≡ false → (stored_in (operands_in s store)).word k position ≡ position
  sum_plain k position is = ap (λ b. word_at b ((operands_in s store).words k) position) is

  pub none_stored : (k level : ℕ) (span : Span) → nat_lt k (first_sum s) ≡ false
      → (stored_in (operands_in s store)).entries k level span ≡ []
  none_stored k level span is = ap (λ levels. entries_at levels level span) (no_levels k (sum_by k is)) ∙ no_entries level
    where
      no_entries : (level : ℕ) → entries_at [] level span ≡ []
      no_entries zero = refl
      no_entries (suc level) = refl

  pub has_storages : (a : Arithmetic) (k : ℕ) → k < first_sum s
      → (access : Access) × (slice_get s.accesses k ≡ Some access) × HasStorage a formats (operand_of store) (told_by a s store) access
  has_storages a k real =
      let x = got s.accesses k (omega (arith, real)) in
      let i = is_read k x.0 x.1 real in
      let below = access_told s formats r.flat k x.0 x.1 real in (
        x.0,
        x.1,
        record {
          format = i.operand.format_is;
          order = (each_get (HasFormat formats) (take (first_sum s) s.accesses) k x.0 r.read
              (get_taken s.accesses (first_sum s) k real ∙ x.1)).order;
          storage = i.operand.storage;
          told = λ coords long. kept x.0.tensor coords below
              (storages_tell a (operand_of store) (slice_index store.ranges) x.0.tensor i.operand.storage coords);
        },
      )
    where
      -- what is told of a tensor is told beside the sums
      kept : (tensor : ℕ) (coords : List ℕ) → tensor < first_summed s
          → IsToldBy a (told_alone a store) (operand_of store tensor) tensor coords
          → IsToldBy a (told_by a s store) (operand_of store tensor) tensor coords
      kept tensor coords below h =
          let paths = path_told a s (told_alone a store) tensor coords below in
          let values = value_told a s (told_alone a store) tensor coords below in
          record {
            path = λ pos ends. let t = h.path pos ends in (paths ∙ t.0, t.1 ∙ sym values);
            none = λ no. let t = h.none no in (paths ∙ t.0, values ∙ t.1);
          }

  pub told : (a : Arithmetic) → Laws a → AreTold a s formats store
  told a laws = record {
    stored = stored_same;
    held = subst (λ stored. AreHeld a (layout_of s formats) stored s (told_by a s store)) (sym stored_same)
        (storages_held a s formats (operand_of store) (told_by a s store)
        (words_told a laws s (told_alone a store) (storages_words a laws (operand_of store) (slice_index store.ranges) words_small))
        (sums_told a laws s formats r.flat (told_alone a store) zeros) (has_storages a));
    elsewhere = zero_told a laws s formats r.flat (told_alone a store) zeros;
  }
    where
      zeros : AreZeroElsewhere a (told_alone a store).paths (told_alone a store).values
      zeros = storages_zero a (operand_of store) (slice_index store.ranges)

pub arrays_stand : ArraysStandForOperands
arrays_stand s formats store r nothing arrays given accesses are = record {
  ready = record {
    letters = letters s formats store r;
    held = held s formats store r nothing arrays given accesses are;
    values = values s formats store r nothing arrays given accesses are;
    stored = λ k. refl;
    none = λ k is. no_levels s formats store r k (sum_by s formats store r k is);
    sums = sums s formats store r nothing arrays given accesses are;
  };
  operands = operands s formats store r nothing arrays given accesses are;
  opened = opened s formats store r;
  ranges = has_ranges s formats store r nothing arrays given;
}

pub operands_told : OperandsAreTold
operands_told a laws s formats store r = told s formats store r a laws
