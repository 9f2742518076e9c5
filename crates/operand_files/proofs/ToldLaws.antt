-- Where a folder tells its files, the answer is one.
use Rattle.std.proofs.Common.{◌≡◌, ℕ, zero, suc, Bool, true, false, List, [], ◌∷◌, length, take, Some, Result, Ok, Err, refl, sym, ap}
use Rattle.std.proofs.Common.{◌∙◌, subst, arith, inl, inr, length-append}
use Rattle.std.specs.Prelude.{slice_get}
use Rattle.std.proofs.lemmas.List.{take_all}
use Rattle.std.proofs.lemmas.List.FromFn.{length-map-range_with_len}
use Rattle.numbers.specs.Arithmetic.{Arithmetic}
use Rattle.outside.specs.Count.{Rose}
use Rattle.outside.specs.Folder.{FolderState}
use Rattle.outside.specs.Told.{Told, Untold, NoFile, Bytes}
use Rattle.tensor_map.specs.Entries.{Entry, Entries}
use Rattle.expr_terms.specs.Ranges.{reach}
use Rattle.expr_terms.specs.declared.bound.Bound.{Bound}
use Rattle.expr_terms.specs.declared.bound.Bound.TheVariants.{AtLeast}
use Rattle.bindings.specs.Words.{is_mtx}
use Rattle.tns_io.specs.Reading.{BadLine as BadEntry, entries_of_text}
use Rattle.mtx_io.specs.Matrix.{BadLine, Matrix, matrix_of_text}
use Rattle.mtx_io.specs.Progress.{IsMatrixOrder}
use Rattle.text_lines.specs.declared.line_kind.LineKind.{LineKind}
use Rattle.operand_files.specs.Decoded.{Operand, IsReadable, reached, sizes, of_entries, of_matrix, operand_of}
use Rattle.operand_files.specs.Laws.{IsTold, AreTold, bytes_in, before_others, told_operands, IsBadFileOrWant}
use Rattle.operand_files.specs.Reads.{Decoding, Given, IsToldText, IsTooLong, IsOperand, AreOperands, paths_of, HaveRead, IsReadFault}
use Rattle.operand_files.specs.Reads.{IsRefused, RefusedAtLine}
use Rattle.operand_files.specs.declared.fault.OperandFault.{OperandFault}
use Rattle.operand_files.specs.declared.fault.OperandFault.TheVariants.{ReadFault, FileBytes, BadFile, Memory}
use Rattle.operand_files.proofs.RowLaws.{as_many}
use Rattle.operand_files.proofs.FileLaws.{of_matrix_path, of_entries_path}

-- what the told bytes stand for
told_means : (means : Decoding) (order : ℕ) (told : Told) (path bytes : List ℕ) (what : Result Operand BadLine) → IsTold told
    → IsToldText told bytes → means order path bytes ≡ what → means order path (bytes_in told) ≡ what
told_means means order Untold path bytes what is text e = absurd is
told_means means order NoFile path bytes what is text e = absurd is
told_means means order (Bytes all) path bytes what is text e = ap (means order path) text ∙ e

told_at : (holds : List ℕ → Told) (paths : List (List ℕ)) (n : ℕ) (path : List ℕ) → AreTold holds paths → slice_get paths n ≡ Some path
    → IsTold (holds path)
told_at holds [] n path are is = absurd (cc)
told_at holds (first ∷ paths) zero path are is = let same : first ≡ path = cc in subst (λ p. IsTold (holds p)) same are.0
told_at holds (first ∷ paths) (suc n) path are is = told_at holds paths n path are.1 is

-- the first file's operand
first_means : (means : Decoding) (holds : List ℕ → Told) (order : ℕ) (path : List ℕ) (file : Given) (operand : Operand)
    → IsTold (holds path) → file.0 ≡ path → IsOperand means order (holds file.0) file.0 file.1 operand
    → means order path (bytes_in (holds path)) ≡ Ok operand
first_means means holds order path file operand is name first =
    let here : IsOperand means order (holds path) path file.1 operand = subst (λ p. IsOperand means order
    (holds p) p file.1 operand) name first in
    told_means means order (holds path) path file.1 (Ok operand) is here.whole.told_text here.stands_for

all_told : (means : Decoding) (holds : List ℕ → Told) (orders : List ℕ) (paths : List (List ℕ)) (operands : List Operand)
    (files : List Given) → AreTold holds paths → length orders ≡ length paths
    → paths_of files ≡ paths → AreOperands means holds orders operands files → told_operands means holds orders paths ≡ Ok operands
all_told means holds [] [] [] [] are long names is = refl
all_told means holds [] [] [] (file ∷ files) are long names is = absurd is
all_told means holds [] [] (operand ∷ operands) [] are long names is = absurd is
all_told means holds [] [] (operand ∷ operands) (file ∷ files) are long names is = absurd is
all_told means holds [] (path ∷ paths) operands files are long names is = absurd (cc)
all_told means holds (order ∷ orders) [] operands files are long names is = absurd (cc)
all_told means holds (order ∷ orders) (path ∷ paths) [] [] are long names is = absurd (cc)
all_told means holds (order ∷ orders) (path ∷ paths) [] (file ∷ files) are long names is = absurd is
all_told means holds (order ∷ orders) (path ∷ paths) (operand ∷ operands) [] are long names is = absurd is
all_told means holds (order ∷ orders) (path ∷ paths) (operand ∷ operands) (file ∷ files) are long names is =
    let name : file.0 ≡ path = cc in
    let behind : paths_of files ≡ paths = cc in
    let shorter : length orders ≡ length paths = cc in
    let first = first_means means holds order path file operand are.0 name is.0 in
    let rest = all_told means holds orders paths operands files are.1 shorter behind is.1 in
    ap (λ w. before_others path w (told_operands means holds orders paths)) first ∙ ap (before_others path (Ok operand)) rest

pub told_answer : (means : Decoding) (old new : FolderState) (orders : List ℕ) (paths : List (List ℕ)) (entries : List Entries)
    (bounds : List (List Bound)) → AreTold old.holds paths → length orders ≡ length paths
    → (have : HaveRead means old new orders paths (length paths) entries bounds)
    → told_operands means old.holds orders paths ≡ Ok have.operands
told_answer means old new orders paths entries bounds are long have =
    let many : length have.operands ≡ length have.read.files = as_many means old.holds orders have.operands have.read.files have.read.are in
    let names : paths_of have.read.files ≡ paths = have.read.in_order ∙ take_all (length have.read.files) paths (omega
    (arith, many, have.count_is)) in
    all_told means old.holds orders paths have.operands have.read.files are long names have.read.are

bad_told : (means : Decoding) (holds : List ℕ → Told) (orders : List ℕ) (paths : List (List ℕ)) (operands : List Operand)
    (files : List Given) (order : ℕ) (path : List ℕ) (bad : BadLine) → AreTold holds paths
    → paths_of files ≡ take (length files) paths → AreOperands means holds orders operands files
    → slice_get orders (length operands) ≡ Some order → slice_get paths (length operands) ≡ Some path
    → means order path (bytes_in (holds path)) ≡ Err bad → told_operands means holds orders paths ≡ Err
    (record { path = path; number = bad.number; kind = bad.kind })
bad_told means holds [] paths [] [] order path bad are names is o p e = absurd (cc)
bad_told means holds (first ∷ orders) [] [] [] order path bad are names is o p e = absurd (cc)
bad_told means holds (first ∷ orders) (at ∷ paths) [] [] order path bad are names is o p e =
    let same : first ≡ order = cc in
    let here : at ≡ path = cc in
    let what : means first at (bytes_in (holds at)) ≡ Err bad = ap (λ n. means n at (bytes_in (holds at))) same ∙ ap (λ q. means order q
    (bytes_in (holds q))) here ∙ e in
    ap (λ w. before_others at w (told_operands means holds orders paths)) what ∙ (λ i. Err
    (record { path = here i; number = bad.number; kind = bad.kind }))
bad_told means holds orders paths [] (file ∷ files) order path bad are names is o p e = absurd is
bad_told means holds orders paths (operand ∷ operands) [] order path bad are names is o p e = absurd is
bad_told means holds [] paths (operand ∷ operands) (file ∷ files) order path bad are names is o p e = absurd is
bad_told means holds (first ∷ orders) [] (operand ∷ operands) (file ∷ files) order path bad are names is o p e = absurd (cc)
bad_told means holds (first ∷ orders) (at ∷ paths) (operand ∷ operands) (file ∷ files) order path bad are names is o p e =
    let name : file.0 ≡ at = cc in
    let behind : paths_of files ≡ take (length files) paths = cc in
    let what = first_means means holds first at file operand are.0 name is.0 in
    let rest = bad_told means holds orders paths operands files order path bad are.1 behind is.1 o p e in
    ap (λ w. before_others at w (told_operands means holds orders paths)) what ∙ ap (before_others at (Ok operand)) rest

pub told_bad_line : (means : Decoding) (old new : FolderState) (orders : List ℕ) (paths : List (List ℕ)) (path : List ℕ) (line : ℕ)
    (kind : LineKind) → AreTold old.holds paths
    → (stops : RefusedAtLine means old new orders paths path line kind)
    → told_operands means old.holds orders paths ≡ Err (record { path = path; number = stops.bad.number; kind = kind })
told_bad_line means old new orders paths path line kind are stops =
    let next = stops.next in
    let is : IsTold (old.holds path) = told_at old.holds paths (length next.operands) path are next.next_path in
    let what = told_means means stops.order (old.holds path) path stops.bytes (Err
    (record { number = stops.bad.number; kind = kind })) is stops.whole.told_text stops.bad.bad in
    bad_told means old.holds orders paths next.operands next.read.files stops.order path
    (record { number = stops.bad.number; kind = kind }) are next.read.in_order next.read.are next.next_order next.next_path what

told_is_there : (told : Told) → IsTold told → told ≡ NoFile → ⊥
told_is_there Untold is none = is
told_is_there NoFile is none = is
told_is_there (Bytes text) is none = cc

no_fault : (old new : FolderState) (path : List ℕ) → IsTold (old.holds path) → (Rose old.read_faults new.read_faults → ⊥)
    → IsReadFault old new path → ⊥
no_fault old new path is calm (inl rose) = calm rose.0
no_fault old new path is calm (inr none) = told_is_there (old.holds path) is none

not_too_long : (told : Told) (bytes : List ℕ) → IsTold told → IsTooLong told bytes → ⊥
not_too_long Untold bytes is long = is
not_too_long NoFile bytes is long = is
not_too_long (Bytes text) bytes is long = omega (arith, is, long.long, ap length long.told_front.1, length-append bytes long.told_front.0)

pub told_others : (means : Decoding) (old new : FolderState) (orders : List ℕ) (paths : List (List ℕ)) (fault : OperandFault)
    → AreTold old.holds paths → (Rose old.read_faults new.read_faults → ⊥)
    → IsRefused means old new orders paths fault → IsBadFileOrWant fault
told_others means old new orders paths (ReadFault at) are calm why =
    no_fault old new at.now (told_at old.holds paths (length why.next.operands) at.now are why.next.next_path) calm why.fault
told_others means old new orders paths (FileBytes at) are calm why =
    not_too_long (old.holds at.now) why.bytes (told_at old.holds paths
    (length why.next.operands) at.now are why.next.next_path) why.too_long
told_others means old new orders paths (BadFile at line kind) are calm why = tt
told_others means old new orders paths Memory are calm why = tt

-- the order and the bounds of an operand
record IsOfOrder (order : ℕ) (operand : Operand) : Type 0 where
  order_is : operand.entries.order ≡ order
  bounds_are : length operand.bounds ≡ order

entries_order : (order : ℕ) (what : Result (List Entry) BadEntry) (operand : Operand) → of_entries order what ≡ Ok operand
    → IsOfOrder order operand
entries_order order (Err bad) operand e = absurd (cc)
entries_order order (Ok list) operand e =
    let one : Operand = record { entries = record { order = order; list = list }; bounds = reached order list } in
    let same : one ≡ operand = cc in
    subst (IsOfOrder order) same (record {
      order_is = refl;
      bounds_are = length-map-range_with_len (λ (mode : ℕ). AtLeast
          (reach list mode)) 0 order;
    })

sizes_order : (order rows columns : ℕ) → IsMatrixOrder order → length (sizes order rows columns) ≡ order
sizes_order order rows columns (inl one) = ap (λ n. length (sizes n rows columns)) one ∙ sym one
sizes_order order rows columns (inr two) = ap (λ n. length (sizes n rows columns)) two ∙ sym two

matrix_order : (order : ℕ) (what : Result Matrix BadLine) (operand : Operand) → IsMatrixOrder order → of_matrix order what ≡ Ok operand
    → IsOfOrder order operand
matrix_order order (Err bad) operand small e = absurd (cc)
matrix_order order (Ok matrix) operand small e =
    let one : Operand = record {
      entries = record { order = order; list = matrix.entries };
      bounds = sizes order matrix.rows
          matrix.columns;
    } in
    let same : one ≡ operand = cc in
    subst (IsOfOrder order) same (record { order_is = refl; bounds_are = sizes_order order matrix.rows matrix.columns small })

pub operand_order : (a : Arithmetic) (has_minus signed : Bool) (order : ℕ) (path bytes : List ℕ) (operand : Operand) → IsReadable order path
    → operand_of a has_minus signed order path bytes ≡ Ok operand
    → (operand.entries.order ≡ order) × (length operand.bounds ≡ order)
operand_order a has_minus signed order path bytes operand readable e = by (is_mtx path) refl
  where
    pair : IsOfOrder order operand → (operand.entries.order ≡ order) × (length operand.bounds ≡ order)
    pair is = (is.order_is, is.bounds_are)

    by : (b : Bool) → is_mtx path ≡ b → (operand.entries.order ≡ order) × (length operand.bounds ≡ order)
    by true ending = pair (matrix_order order (matrix_of_text a has_minus signed order bytes) operand (readable.matrix ending)
        (of_matrix_path a has_minus signed order path bytes ending ∙ e))
    by false ending = pair (entries_order order (entries_of_text signed order bytes) operand
        (of_entries_path a has_minus signed order path bytes ending ∙ e))
