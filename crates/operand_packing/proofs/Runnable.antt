-- A statement can be computed over the operands that were read for it.
use Rattle.std.specs.Prelude.{◌≡◌, ◌≢◌, ℕ, zero, suc, ◌+◌, ◌-◌, ◌<◌, ◌≤◌, Bool, List, [], ◌∷◌}
use Rattle.std.specs.Prelude.{length, map, take}
use Rattle.std.specs.Prelude.{Option, None, Some, All, Vec, slice_get, refl}
use Rattle.std.specs.declared.alloc.Global.{Global}
use Rattle.std.specs.List.{range_with_len}
use Rattle.std.proofs.Common.{◌∙◌, sym, ap, subst, arith}
use Rattle.std.proofs.lemmas.List.{length-map}
use Rattle.std.proofs.lemmas.List.FromFn.{length-map-range_with_len}
use Rattle.lists.specs.Each.{Each}
use Rattle.lists.proofs.Each.{each_get, each_from}
use Rattle.limits.specs.Limits.{greatest_position_count}
use Rattle.numbers.specs.Arithmetic.{Arithmetic}
use Rattle.outside.specs.Folder.{FolderState}
use Rattle.outside.specs.Told.{Told}
use Rattle.tensor_map.specs.Entries.{Entries}
use Rattle.format_spec.specs.declared.format.FormatLevel.{FormatLevel}
use Rattle.index_notation.specs.declared.syntax.Access.{Access}
use Rattle.index_notation.specs.declared.syntax.Statement.{Statement}
use Rattle.index_notation.specs.Statement.{IsAccess, IsNumberedWithSums, IsWellNamed}
use Rattle.expr_terms.specs.Operands.{entries_of, list_or_none}
use Rattle.expr_terms.specs.Told.{given_at, bound_at, bound_or_none, modes_of, modes_or_none}
use Rattle.expr_terms.specs.declared.bound.Bound.{Bound}
use Rattle.bindings.specs.Bindings.{order_of}
use Rattle.bindings.specs.Outcome.{Binds}
use Rattle.operand_files.specs.Decoded.{Operand, IsReadable, AreReadable}
use Rattle.operand_files.specs.Decoded as decoded
use Rattle.operand_files.specs.Reads.{Given, paths_of, HaveRead}
use Rattle.operand_files.specs.Reads as reads
use Rattle.operand_packing.specs.Operands.{limit_of, operand_of, HasOrder, ReadsOperand, IsBounded, ReadsBounded, AreBounded, IsRead}
use Rattle.operand_packing.proofs.RangesAbove.{ranges_long, bounded_below}
use Rattle.operand_packing.specs.Orders.{operand_orders}
use Rattle.operand_packing.specs.Runnable.{IsRunnable}
use Rattle.operand_packing.proofs.FileEntries.{bound_in, IsKept, file_kept}
use Rattle.operand_packing.proofs.FormatsBound.{formats_fit, order_is}
use Rattle.operand_packing.proofs.RangesSmall.{ranges_small, given_small}

-- ---- lists
mapped_at : {A B : Type 0} (f : A → B) (xs : List A) (n : ℕ) (x : A) → slice_get xs n ≡ Some x → slice_get (map f xs) n ≡ Some (f x)
mapped_at f [] n x is = absurd cc
mapped_at f (y ∷ xs) zero x is = let same : y ≡ x = cc in ap (λ v. Some (f v)) same
mapped_at f (y ∷ xs) (suc n) x is = mapped_at f xs n x is

unmapped_at : {A B : Type 0} (f : A → B) (xs : List A) (n : ℕ) (y : B) → slice_get (map f xs) n ≡ Some y → (x : A) ×
    (slice_get xs n ≡ Some x) × (f x ≡ y)
unmapped_at f [] n y is = absurd cc
unmapped_at f (x ∷ xs) zero y is = (x, refl, cc)
unmapped_at f (x ∷ xs) (suc n) y is = unmapped_at f xs n y is

some_at : {A : Type 0} (xs : List A) (n : ℕ) → n < length xs → (x : A) × (slice_get xs n ≡ Some x)
some_at [] n h = absurd (omega arith)
some_at (x ∷ xs) zero h = (x, refl)
some_at (x ∷ xs) (suc n) h = some_at xs n (omega arith)

range_at : (f : ℕ → ℕ) (from count n x : ℕ) → slice_get (map f (range_with_len from count)) n ≡ Some x → x ≡ f (from + n)
range_at f from zero n x is = absurd cc
range_at f from (suc count) zero x is = let same : f from ≡ x = cc in let here : from ≡ from + 0 = omega arith in sym same ∙ ap f here
range_at f from (suc count) (suc n) x is =
    let next : (from + 1) + n ≡ from + suc n = omega arith in range_at f (from + 1) count n x is ∙ ap f next

-- ---- the operands as they were read
-- the operand at a place keeps to its order there
record IsKeptAt (orders : List ℕ) (n : ℕ) (operand : Operand) : Type 0 where
  order : ℕ
  order_at : slice_get orders n ≡ Some order
  kept : IsKept order operand

operand_at : (a : Arithmetic) (has_minus signed : Bool) (holds : List ℕ → Told) (orders : List ℕ) (paths : List (List ℕ))
    (operands : List Operand) (files : List Given) (n : ℕ) (operand : Operand)
    → reads.AreOperands (decoded.operand_of a has_minus signed) holds orders operands files
    → paths_of files ≡ take (length files) paths → AreReadable orders paths → slice_get operands n ≡ Some operand
    → IsKeptAt orders n operand
operand_at a m signed holds orders paths [] files n operand are along readable is = absurd cc
operand_at a m signed holds orders paths (first ∷ operands) [] n operand are along readable is = absurd are
operand_at a m signed holds [] paths (first ∷ operands) (file ∷ files) n operand are along readable is = absurd are
operand_at a m signed holds (order ∷ orders) [] (first ∷ operands) (file ∷ files) n operand are along readable is = absurd readable
operand_at a m signed holds (order ∷ orders) (path ∷ paths) (first ∷ operands) (file ∷ files) zero operand are along readable is =
    let same : first ≡ operand = cc in
    let at : file.0 ≡ path = cc in
    record {
      order = order;
      order_at = refl;
      kept = subst (IsKept order) same
          (file_kept a m signed order file.0 file.1 first (subst (IsReadable order) (sym at) readable.0) are.0.stands_for);
    }
operand_at a m signed holds (order ∷ orders) (path ∷ paths) (first ∷ operands) (file ∷ files) (suc n) operand are along readable is =
    let behind : paths_of files ≡ take (length files) paths = cc in
    let rest = operand_at a m signed holds orders paths operands files n operand are.1 behind readable.1 is in
    record { order = rest.order; order_at = rest.order_at; kept = rest.kept }

readable_long : (orders : List ℕ) (paths : List (List ℕ)) → AreReadable orders paths → length orders ≡ length paths
readable_long [] [] are = refl
readable_long [] (path ∷ paths) are = absurd are
readable_long (order ∷ orders) [] are = absurd are
readable_long (order ∷ orders) (path ∷ paths) are = let rest = readable_long orders paths are.1 in omega (arith, rest)

-- ---- what an access reads
record IsReadBy (entries : List Entries) (bounds : List (Vec Bound Global)) (access : Access) : Type 0 where
  operand : Operand
  entries_are : operand_of entries access.tensor ≡ Some operand.entries
  bounds_are : modes_of bounds access.tensor ≡ operand.bounds
  kept : IsKept (length access.vars) operand

entries_there : (entries : List Entries) (tensor : ℕ) → entries_of entries tensor ≡ list_or_none (operand_of entries tensor)
entries_there entries zero = refl
entries_there entries (suc n) = refl

module _ (a : Arithmetic) (has_minus signed : Bool) (s : Statement) (old new : FolderState) (paths : List (List ℕ)) (count : ℕ)
    (entries : List Entries) (bounds : List (Vec Bound Global)) (readable : AreReadable (operand_orders s) paths)
    (all : count ≡ length paths)
    (read : HaveRead (decoded.operand_of a has_minus signed) old new (operand_orders s) paths count entries
    (map (λ b. b.items) bounds)) where
  many : length entries ≡ length s.tensors - 1
  many =
      let orders : length (operand_orders s) ≡ length s.tensors - 1 = length-map-range_with_len (order_of s) 1 (length s.tensors - 1) in
      let ordered = readable_long (operand_orders s) paths readable in
      ap (λ (xs : List Entries). length xs) read.entries_are
      ∙ length-map read.operands (λ (operand : Operand). operand.entries)
      ∙ read.count_is
      ∙ all
      ∙ sym ordered ∙ orders

  kept_at : (n : ℕ) (operand : Operand) → slice_get read.operands n ≡ Some operand → IsKept (order_of s (n + 1)) operand
  kept_at n operand is =
      let there = operand_at a has_minus signed old.holds (operand_orders s) paths read.operands read.read.files n operand read.read.are
      read.read.in_order readable is in
      let order : there.order ≡ order_of s (1 + n) = range_at (order_of s) 1 (length s.tensors - 1) n there.order there.order_at in
      let next : 1 + n ≡ n + 1 = omega arith in
      subst (λ k. IsKept k operand) (order ∙ ap (order_of s) next) there.kept

  bounds_at : (n : ℕ) (operand : Operand) → slice_get read.operands n ≡ Some operand → modes_or_none (slice_get bounds n) ≡ operand.bounds
  bounds_at n operand is =
      let mapped : slice_get (map (λ b. b.items) bounds) n ≡ Some operand.bounds =
      ap (λ (xs : List (List Bound)). slice_get xs n) read.bounds_are
      ∙ mapped_at (λ (operand : Operand). operand.bounds) read.operands n operand is in
      let there = unmapped_at (λ (b : Vec Bound Global). b.items) bounds n operand.bounds mapped in
      ap modes_or_none there.1 ∙ there.2

  -- no bound is too large
  bounds_small : (tensor mode : ℕ) → limit_of (bound_at bounds tensor mode) ≤ greatest_position_count
  bounds_small zero mode = omega arith
  bounds_small (suc n) mode = by (slice_get bounds n) refl
    where
      by : (o : Option (Vec Bound Global)) → slice_get bounds n ≡ o → limit_of (bound_or_none (slice_get (modes_or_none o) mode)) ≤
          greatest_position_count
      by None is = omega arith
      by (Some modes) is =
          let mapped : slice_get (map (λ (operand : Operand). operand.bounds) read.operands) n ≡ Some modes.items =
          ap (λ (xs : List (List Bound)). slice_get xs n) (sym read.bounds_are)
          ∙ mapped_at (λ (b : Vec Bound Global). b.items) bounds n modes is in
          let there = unmapped_at (λ (operand : Operand). operand.bounds) read.operands n modes.items mapped in
          subst (λ (bs : List Bound). limit_of (bound_in bs mode) ≤ greatest_position_count) there.2
          ((kept_at n there.0 there.1).small mode)

  module _ (numbered : IsNumberedWithSums s) (named : IsWellNamed s) where
    -- each access reads an operand that keeps to its order
    read_by : (j : ℕ) (access : Access) → slice_get s.accesses j ≡ Some access → IsReadBy entries bounds access
    read_by j access is = by access.tensor refl
      where
        order : order_of s access.tensor ≡ length access.vars
        order = order_is (s.left ∷ s.accesses) (suc j) access named.orders is

        below : access.tensor < length s.tensors
        below = (each_get (IsAccess (length s.tensors) (length s.vars)) s.accesses j access numbered.right is).tensor

        by : (tensor : ℕ) → access.tensor ≡ tensor → IsReadBy entries bounds access
        by zero t = absurd (each_get (λ (access : Access). access.tensor ≢ 0) s.accesses j access named.unread is t)
        by (suc n) t =
            let there : (e : Entries) × (slice_get entries n ≡ Some e) = some_at entries n (omega (arith, many, below, t)) in
            let mapped : slice_get (map (λ (operand : Operand). operand.entries) read.operands) n ≡ Some there.0 =
            ap (λ (xs : List Entries). slice_get xs n) (sym read.entries_are) ∙ there.1 in
            let from = unmapped_at (λ (operand : Operand). operand.entries) read.operands n there.0 mapped in
            let next : n + 1 ≡ access.tensor = omega (arith, t) in
            record {
              operand = from.0;
              entries_are = ap (operand_of entries) t ∙ there.1 ∙ ap (λ (e : Entries). Some e) (sym from.2);
              bounds_are = ap (modes_of bounds) t ∙ bounds_at n from.0 from.1;
              kept = subst (λ k. IsKept k from.0) (ap (order_of s) next ∙ order) (kept_at n from.0 from.1);
            }

    pub each_reads : Each (ReadsOperand entries) s.accesses
    each_reads = each_from (ReadsOperand entries) s.accesses (λ j access is.
        let there = read_by j access is in
        subst (HasOrder (length access.vars)) (sym there.entries_are) there.kept.order_is)

    pub are_bounded : AreBounded s entries (bound_at bounds)
    are_bounded = each_from (ReadsBounded entries (bound_at bounds)) s.accesses (λ j access is.
        let there = read_by j access is in
        let listed = entries_there entries access.tensor ∙ ap list_or_none there.entries_are in
        subst (λ list. All (λ entry. IsBounded (bound_at bounds access.tensor) (length access.vars) entry.coords) list) (sym listed)
        (subst (λ modes. All (λ entry. IsBounded (bound_in modes) (length access.vars) entry.coords) there.operand.entries.list)
        (sym there.bounds_are)
        there.kept.bounded))

-- each tensor but the result is read
abbrev pub EachIsRead : Statement → Type 0
EachIsRead s = (n : ℕ) → n + 1 < length s.tensors → IsRead s.accesses (n + 1)

-- a statement each of whose tensors but the result is read, over the operands that were read for it
pub read_is_runnable : (a : Arithmetic) (has_minus signed : Bool) (s : Statement) → IsNumberedWithSums s → IsWellNamed s → EachIsRead s
    → (words : List (List ℕ)) (need : Bool) (formats : List (List FormatLevel))
    (files : List (ℕ × List ℕ)) (given : List (Option ℕ)) → Binds s words need formats files given
    → (old new : FolderState) (paths : List (List ℕ)) (count : ℕ) (entries : List Entries) (bounds : List (Vec Bound Global))
    → AreReadable (operand_orders s) paths → count ≡ length paths
    → HaveRead (decoded.operand_of a has_minus signed) old new (operand_orders s) paths count entries (map (λ b. b.items) bounds)
    → IsRunnable s formats given entries bounds
read_is_runnable a has_minus signed s numbered named each_read words need formats files given binds old new paths count entries
    bounds readable all read =
    let long = many a has_minus signed s old new paths count entries bounds readable all read in
    let fit = formats_fit s words need formats files given binds numbered named in
    record {
      operands_are = record {
        numbered = numbered;
        named = named;
        many = omega (arith, long, numbered.left.tensor);
        formats_many = binds.formats_are.tensors;
        result_format = fit.0;
        formats_fit = fit.1;
        reads = each_reads a has_minus signed s old new paths count entries bounds readable all read numbered named;
        read = λ n h. each_read n (omega (arith, long, h));
      };
      ranges_fit = λ ranges found. record {
        long = ranges_long s (given_at given) (bound_at bounds) ranges found;
        small = ranges_small s (given_at given) (bound_at bounds) ranges (given_small s words need formats files given binds)
            (bounds_small a has_minus signed s old new paths count entries bounds readable all read) found;
        below = bounded_below s numbered entries (given_at given) (bound_at bounds) ranges found
            (are_bounded a has_minus signed s old new paths count entries bounds readable all read numbered named);
      };
    }
