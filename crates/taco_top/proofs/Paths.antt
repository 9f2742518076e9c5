-- The paths of a statement's tensors, as words bind them.
use Rattle.std.specs.Prelude.{◌≡◌, ℕ, zero, suc, ◌+◌, ◌-◌, ◌<◌, ◌==◌, Bool, true, false, cond, if◌then◌else◌, List, [], ◌∷◌, length, map}
use Rattle.std.specs.Prelude.{Option, Some, None, is_some, unwrap_or, slice_get, slice_index_or, take, refl}
use Rattle.std.specs.List.{range_with_len}
use Rattle.std_collections.specs.Map.{lookup}
use Rattle.std.proofs.Common.{◌∙◌, sym, ap, subst, arith}
use Rattle.std.proofs.lemmas.List.FromFn.{length-map-range_with_len}
use Rattle.format_spec.specs.declared.format.FormatLevel.{FormatLevel}
use Rattle.index_notation.specs.declared.syntax.Statement.{Statement}
use Rattle.index_notation.specs.Numbering.{place_of}
use Rattle.index_notation.specs.Statement.{IsNumberedWithSums}
use Rattle.bindings.specs.Words.{Said, SaysFormat, SaysFile, SaysRange, said_of}
use Rattle.mtx_io.specs.Progress.{IsMatrixOrder}
use Rattle.bindings.specs.Bindings.{first_in, path_in, order_in, order_of, or_later}
use Rattle.bindings.specs.Outcome.{files_in, with_file, Binds, first_named}
use Rattle.bindings.specs.Tables.{file_in, path_to}
use Rattle.bindings.specs.declared.tensor_file.TensorFile.{TensorFile}
use Rattle.bindings.proofs.Tables.{eq_turned}
use Rattle.operand_files.specs.Decoded.{AreReadable}
use Rattle.operand_packing.specs.Orders.{operand_orders}
use Rattle.operand_packing.proofs.FilesReadable.{KeepOrders, files_readable, file_readable}
use Rattle.operand_packing.proofs.RangesSmall.{first_found}
use Rattle.result_files.specs.ResultText.{asks_matrix}
use Rattle.taco_top.specs.Run.{operand_path, path_of, paths_of}

-- the path of a file that is looked up among those that are kept
pub path_in_view : (n : ℕ) (files : List (ℕ × TensorFile)) → path_to (lookup (λ k. n == k) files) ≡ path_of (map file_in files) n
path_in_view n [] = refl
path_in_view n (file ∷ files) = by_key (n == file.0) (path_in_view n files)
  where
    by_key : (b : Bool) → path_to (lookup (λ k. n == k) files) ≡ path_of (map file_in files) n
        → path_to (cond b (Some file.1) (lookup (λ k. n == k) files)) ≡ cond b (Some file.1.path.now) (path_of (map file_in files) n)
    by_key true later = refl
    by_key false later = later

-- the path that is looked up is that of the first word
pub path_found : (s : Statement) (n : ℕ) (words : List (List ℕ)) → path_of (files_in s words) n ≡ first_in (path_in s n) words
path_found s n [] = refl
path_found s n (word ∷ words) = by_said (said_of word) (path_found s n words)
  where
    by_said : (said : Option Said) → path_of (files_in s words) n ≡ first_in (path_in s n) words
        → path_of (with_file s said (files_in s words)) n ≡ or_later (path_in s n said) (first_in (path_in s n) words)
    by_said None later = later
    by_said (Some (SaysFormat name text)) later = later
    by_said (Some (SaysRange name digits)) later = later
    by_said (Some (SaysFile name path)) later =
        let place : ℕ = place_of s.tensors (record { bytes = name }) in
        ap (λ b. cond b (Some path) (path_of (files_in s words) n)) (eq_turned n place) ∙ by_place (place == n)
      where
        by_place : (b : Bool) → cond b (Some path) (path_of (files_in s words) n)
            ≡ or_later (if b then Some path else None) (first_in (path_in s n) words)
        by_place true = refl
        by_place false = later

range_there : {A : Type 0} (f : ℕ → A) (from count n : ℕ) (x : A) → slice_get (map f (range_with_len from count)) n ≡ Some x
    → (x ≡ f (from + n)) × (n < count)
range_there f from zero n x is = absurd cc
range_there f from (suc count) zero x is =
    let here : x ≡ f from = cc in
    let same : from + 0 ≡ from = omega arith in (here ∙ ap f (sym same), omega arith)
range_there f from (suc count) (suc n) x is =
    let there = range_there f (from + 1) count n x is in
    let same : from + suc n ≡ (from + 1) + n = omega arith in
    (there.0 ∙ ap f (sym same), omega (arith, there.1))

unwrapped : (o : Option (List ℕ)) → is_some o ≡ true → o ≡ Some (unwrap_or o [])
unwrapped None some = cc
unwrapped (Some x) some = refl

-- one path for each operand
pub paths_long : (s : Statement) (files : List (ℕ × List ℕ)) → length (paths_of s files) ≡ length s.tensors - 1
paths_long s files = length-map-range_with_len (operand_path s files) 1 (length s.tensors - 1)

-- the paths that words bind may be read at the orders of their accesses
pub paths_readable : (s : Statement) (words : List (List ℕ)) (need : Bool) → need ≡ true → (formats : List (List FormatLevel))
    (files : List (ℕ × List ℕ)) (given : List (Option ℕ)) → Binds s words need formats files given → IsNumberedWithSums s → KeepOrders s
    → AreReadable (operand_orders s) (paths_of s files)
paths_readable s words need needed formats files given binds numbered keep =
    files_readable s words need formats files given binds numbered keep (paths_of s files) (paths_long s files) (λ n path is.
    let there = range_there (operand_path s files) 1 (length s.tensors - 1) n path is in
    let first : ℕ = first_named s.tensors (1 + n) in
    let named : path_of files first ≡ first_in (path_in s first) words = ap (λ fs. path_of fs first) binds.files_are
    ∙ path_found s first words in
    let within : 1 + n < length s.tensors = omega (arith, there.1) in
    let some = binds.all_read needed (1 + n) (omega arith) within in
    let path_is : path ≡ unwrap_or (first_in (path_in s first) words) [] = there.0 ∙ ap (λ o. unwrap_or o []) named in
    let turned : n + 1 ≡ 1 + n = omega arith in
    subst (λ k. first_in (path_in s (first_named s.tensors k)) words ≡ Some path) (sym turned)
    (unwrapped (first_in (path_in s first) words) some ∙ ap (λ p. Some p) (sym path_is)))

-- a result that goes to a matrix has the order of one
pub result_is_matrix : (s : Statement) (words : List (List ℕ)) (need : Bool) (formats : List (List FormatLevel))
    (files : List (ℕ × List ℕ)) (given : List (Option ℕ)) → Binds s words need formats files given → s.left.tensor ≡ 0
    → asks_matrix (path_of files 0) ≡ true → IsMatrixOrder (length s.left.vars)
result_is_matrix s words need formats files given binds left matrix = by_path (path_of files 0) refl matrix
  where
    order : order_of s 0 ≡ length s.left.vars
    order = ap (λ b. if b then length s.left.vars else order_in s.accesses 0) (ap (λ n. n == 0) left)

    by_path : (path : Option (List ℕ)) → path_of files 0 ≡ path → asks_matrix path ≡ true → IsMatrixOrder (length s.left.vars)
    by_path None is m = absurd cc
    by_path (Some path) is m =
        let named : first_in (path_in s 0) words ≡ Some path =
        sym (path_found s 0 words) ∙ ap (λ fs. path_of fs 0) (sym binds.files_are) ∙ is in
        let found = first_found (path_in s 0) words path named in
        subst IsMatrixOrder order
        (file_readable s (take found.0 words) (said_of (slice_index_or words found.0 [])) 0 path (binds.sound found.0 found.1) found.2 m)
