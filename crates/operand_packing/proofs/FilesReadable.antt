-- The files that words bind to a statement's operands may be read at their orders.
use Rattle.std.specs.Prelude.{◌≡◌, ℕ, zero, suc, ◌+◌, ◌-◌, ◌<◌, ◌≤◌, Bool, true, false, ◌==◌, ◌||◌, not, nat_lt, if◌then◌else◌}
use Rattle.std.specs.Prelude.{List, [], ◌∷◌, map, take, length, Option, None, Some, slice_get, slice_index_or, refl}
use Rattle.std.specs.List.{range_with_len}
use Rattle.std.proofs.Common.{◌∙◌, ap, subst, arith, inl, inr}
use Rattle.std.proofs.lemmas.Bool.{eqb-true}
use Rattle.lists.specs.Each.{Each}
use Rattle.limits.specs.Limits.{greatest_order}
use Rattle.format_spec.specs.declared.format.FormatLevel.{FormatLevel}
use Rattle.index_notation.specs.declared.syntax.Access.{Access}
use Rattle.index_notation.specs.declared.syntax.Statement.{Statement}
use Rattle.index_notation.specs.Numbering.{place_of}
use Rattle.index_notation.specs.Statement.{IsAccess, IsNumberedWithSums}
use Rattle.bindings.specs.Words.{Said, SaysFormat, SaysFile, SaysRange, said_of, is_mtx}
use Rattle.bindings.specs.Bindings.{first_in, path_in, number_in, names_for, is_bound, is_no_matrix, fault_of, order_in, order_of}
use Rattle.bindings.specs.Outcome.{Binds, first_named}
use Rattle.bindings.specs.declared.fault.WordFault.{WordFault}
use Rattle.bindings.specs.declared.fault.WordFault.TheVariants.{UnknownName, Twice, NotMatrix}
use Rattle.mtx_io.specs.Progress.{IsMatrixOrder}
use Rattle.operand_files.specs.Decoded.{IsReadable, AreReadable}
use Rattle.operand_packing.specs.Orders.{operand_orders}
use Rattle.operand_packing.proofs.RangesSmall.{first_found}

-- no access has too many variables
order_small : (tensors vars : ℕ) (accesses : List Access) (tensor : ℕ) → Each (IsAccess tensors vars) accesses
    → order_in accesses tensor ≤ greatest_order
order_small tensors vars [] tensor each = omega arith
order_small tensors vars (access ∷ accesses) tensor each =
    by (access.tensor == tensor) (order_small tensors vars accesses tensor each.1)
  where
    by : (b : Bool) → order_in accesses tensor ≤ greatest_order
        → (if b then length access.vars else order_in accesses tensor) ≤ greatest_order
    by true rest = each.0.order
    by false rest = rest

-- a matrix's tensor has such an order
either_order : (order : ℕ) (one two : Bool) → (order == 1) ≡ one → (order == 2) ≡ two → not (one || two) ≡ false → IsMatrixOrder order
either_order order true two o t is = inl (eqb-true order 1 o)
either_order order false true o t is = inr (eqb-true order 2 t)
either_order order false false o t is = absurd cc

matrix_order : (order : ℕ) (matrix : Bool) → (if matrix then not ((order == 1) || (order == 2)) else false) ≡ false → matrix ≡ true
    → IsMatrixOrder order
matrix_order order true is e = either_order order (order == 1) (order == 2) refl refl is
matrix_order order false is e = absurd cc

-- a word without a fault tells no matrix of another order
no_matrix_fault : (unknown bound wrong : Bool) (rest : Option WordFault)
    → (if unknown then Some UnknownName else (if bound then Some Twice else (if wrong then Some NotMatrix else rest))) ≡ None
    → wrong ≡ false
no_matrix_fault true bound wrong rest none = absurd cc
no_matrix_fault false true wrong rest none = absurd cc
no_matrix_fault false false true rest none = absurd cc
no_matrix_fault false false false rest none = refl

pub file_readable : (s : Statement) (before : List (List ℕ)) (said : Option Said) (tensor : ℕ) (path : List ℕ)
    → fault_of s before said ≡ None
    → path_in s tensor said ≡ Some path → is_mtx path ≡ true → IsMatrixOrder (order_of s tensor)
file_readable s before None tensor path none is e = absurd cc
file_readable s before (Some (SaysFormat name text)) tensor path none is e = absurd cc
file_readable s before (Some (SaysRange name digits)) tensor path none is e = absurd cc
file_readable s before (Some (SaysFile name at)) tensor path none is e =
    by (place_of s.tensors (record { bytes = name }) == tensor) refl is
  where
    good : is_no_matrix s (SaysFile name at) ≡ false
    good = no_matrix_fault (not (nat_lt (number_in s (SaysFile name at)) (length (names_for s (SaysFile name at)))))
        (is_bound s before (SaysFile name at)) (is_no_matrix s (SaysFile name at)) None none

    by : (b : Bool) → (place_of s.tensors (record { bytes = name }) == tensor) ≡ b → (if b then Some at else None) ≡ Some path
        → IsMatrixOrder (order_of s tensor)
    by true t is =
        let same : at ≡ path = cc in
        subst (λ n. IsMatrixOrder (order_of s n)) (eqb-true (place_of s.tensors (record { bytes = name })) tensor t)
        (matrix_order (order_of s (place_of s.tensors (record { bytes = name }))) (is_mtx at) good (ap is_mtx same ∙ e))
    by false t is = absurd cc

get_below : {A : Type 0} (xs : List A) (n : ℕ) (x : A) → slice_get xs n ≡ Some x → n < length xs
get_below [] n x is = absurd cc
get_below (y ∷ xs) zero x is = omega arith
get_below (y ∷ xs) (suc n) x is = let rest = get_below xs n x is in omega (arith, rest)

readable_from : (order : ℕ → ℕ) (from count : ℕ) (paths : List (List ℕ)) → length paths ≡ count
    → ((n : ℕ) (path : List ℕ) → slice_get paths n ≡ Some path → IsReadable (order (from + n)) path)
    → AreReadable (map order (range_with_len from count)) paths
readable_from order from zero [] long each = tt
readable_from order from zero (path ∷ paths) long each = absurd (omega arith)
readable_from order from (suc count) [] long each = absurd (omega arith)
readable_from order from (suc count) (path ∷ paths) long each =
    let here : from + 0 ≡ from = omega arith in (
      subst (λ n. IsReadable (order n) path) here (each 0 path refl),
      readable_from order (from + 1) count paths (omega arith) (λ n at is.
          let next : from + suc n ≡ (from + 1) + n = omega arith in subst (λ k. IsReadable (order k) at) next (each (suc n) at is)),
    )

-- tensors of one name have one order
abbrev pub KeepOrders : Statement → Type 0
KeepOrders s = (tensor : ℕ) → tensor < length s.tensors → order_of s (first_named s.tensors tensor) ≡ order_of s tensor

-- the paths that words bind to tensor 1 and on
pub files_readable : (s : Statement) (words : List (List ℕ)) (need : Bool) (formats : List (List FormatLevel))
    (files : List (ℕ × List ℕ)) (given : List (Option ℕ)) → Binds s words need formats files given → IsNumberedWithSums s → KeepOrders s
    → (paths : List (List ℕ)) → length paths ≡ length s.tensors - 1
    → ((n : ℕ) (path : List ℕ) → slice_get paths n ≡ Some path
    → first_in (path_in s (first_named s.tensors (n + 1))) words ≡ Some path)
    → AreReadable (operand_orders s) paths
files_readable s words need formats files given binds numbered keep paths long each =
    readable_from (order_of s) 1 (length s.tensors - 1) paths long (λ n path is.
    let found = first_found (path_in s (first_named s.tensors (n + 1))) words path (each n path is) in
    let below = get_below paths n path is in
    let within : n + 1 < length s.tensors = omega (arith, below, long) in
    let next : n + 1 ≡ 1 + n = omega arith in
    subst (λ k. IsReadable (order_of s k) path) next (record {
      small = order_small (length s.tensors) (length s.vars) (s.left ∷ s.accesses) (n + 1) (numbered.left, numbered.right);
      matrix = λ matrix. subst IsMatrixOrder (keep (n + 1) within)
          (file_readable s (take found.0 words) (said_of (slice_index_or words found.0 [])) (first_named s.tensors (n + 1)) path
          (binds.sound found.0 found.1) found.2 matrix);
    }))
