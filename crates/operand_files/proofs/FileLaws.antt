-- What one file that was fed whole stands for.
use Rattle.std.proofs.Common.{◌≡◌, ℕ, Bool, true, false, List, [], ◌∷◌, ◌++◌, Result, Ok, Err, IfOk, IfErr, refl, sym, ap, ◌∙◌, subst}
use Rattle.std.proofs.Common.{inr, append-nil}
use Rattle.std.specs.Prelude.{Vec, if◌then◌else◌}
use Rattle.std.specs.declared.alloc.Global.{Global}
use Rattle.numbers.specs.Arithmetic.{Arithmetic}
use Rattle.outside.specs.Folder.{FolderState}
use Rattle.outside.specs.Told.{Told, Untold, NoFile, Bytes}
use Rattle.tensor_map.specs.Entries.{Entries}
use Rattle.expr_terms.specs.declared.bound.Bound.{Bound}
use Rattle.bindings.specs.Words.{is_mtx}
use Rattle.tns_io.specs.Reading.{entries_of_text}
use Rattle.mtx_io.specs.Matrix.{BadLine, Matrix, matrix_of_text}
use Rattle.mtx_io.specs.Progress.{counted}
use Rattle.text_lines.specs.declared.line_kind.LineKind.{LineKind}
use Rattle.operand_files.specs.Decoded.{Operand, of_entries, of_matrix, operand_of}
use Rattle.operand_files.specs.Reads.{Decoding, IsToldText, IsFront, IsWholeFile, CountsNothing, HasBadLine, ReadsOperand, FeedsFile}
use Rattle.operand_files.specs.Reads.{FileRefused, DecodesTo, MayOpen, WantsMemory}
use Rattle.operand_files.specs.declared.fault.OperandFault.{OperandFault}
use Rattle.operand_files.specs.declared.fault.OperandFault.TheVariants.{ReadFault, FileBytes, BadFile, Memory}

-- a matrix's first bad line, as it is counted
pub told_bad : (order : ℕ) (what : Result Matrix BadLine) (line number : ℕ) (kind : LineKind) → line ≡ counted number
    → what ≡ Err (record { number = number; kind = kind }) → HasBadLine (of_matrix order what) line kind
told_bad order what line number kind is bad = record { number = number; line_is = is; bad = ap (of_matrix order) bad }

whole_is_front : (told : Told) (bytes : List ℕ) → IsToldText told bytes → IsFront told bytes
whole_is_front Untold bytes is = tt
whole_is_front NoFile bytes is = tt
whole_is_front (Bytes text) bytes is = ([], is ∙ sym (append-nil bytes))

-- memory was wanted behind a file that was read whole
pub wants_behind : (path bytes : List ℕ) (old new : FolderState) → new.given ≡ old.given ++ (path, bytes) ∷ []
    → IsWholeFile (old.holds path) bytes → CountsNothing old new → WantsMemory path old new
wants_behind path bytes old new given whole quiet =
    let may : MayOpen path old new = record {
      last = (path, bytes) ∷ [];
      given_is = given;
      last_is = inr (bytes, refl, whole_is_front (old.holds path) bytes whole.told_text);
    } in
    (may, record { read_faults_are = quiet.read_faults_are; faulted_is = quiet.faulted_is })

-- a file that was read whole is an operand, or is refused
pub file_read : (means : Decoding) (order : ℕ) (path bytes : List ℕ) (old new : FolderState) (result : Result
    (Entries × Vec Bound Global) OperandFault)
    → new.given ≡ old.given ++ (path, bytes) ∷ [] → IsWholeFile (old.holds path) bytes → CountsNothing old new
    → DecodesTo (means order path bytes) path result
    → IfOk result (λ operand. ReadsOperand means order path old new (record { entries = operand.0; bounds = operand.1.items }))
    × IfErr result (FileRefused means order path old new)
file_read means order path bytes old new (Ok operand) given whole quiet decodes =
    (record { bytes = bytes; given_is = given; operand_is = record { whole = whole; stands_for = decodes }; quiet = quiet }, tt)
file_read means order path bytes old new (Err (ReadFault at)) given whole quiet decodes = absurd decodes
file_read means order path bytes old new (Err (FileBytes at)) given whole quiet decodes = absurd decodes
file_read means order path bytes old new (Err (BadFile at line kind)) given whole quiet decodes =
    (tt, (decodes.0, record { bytes = bytes; given_is = given; whole = whole; bad = decodes.1; quiet = quiet }))
file_read means order path bytes old new (Err Memory) given whole quiet decodes = (tt, wants_behind path bytes old new given whole quiet)

pub of_matrix_path : (a : Arithmetic) (has_minus signed : Bool) (order : ℕ) (path bytes : List ℕ) → is_mtx path ≡ true
    → of_matrix order (matrix_of_text a has_minus signed order bytes) ≡ operand_of a has_minus signed order path bytes
unfolding operand_of
of_matrix_path a has_minus signed order path bytes e =
    sym (ap (λ (b : Bool). if b then of_matrix order (matrix_of_text a has_minus signed order bytes) else of_entries order
    (entries_of_text signed order bytes)) e)

pub of_entries_path : (a : Arithmetic) (has_minus signed : Bool) (order : ℕ) (path bytes : List ℕ) → is_mtx path ≡ false
    → of_entries order (entries_of_text signed order bytes) ≡ operand_of a has_minus signed order path bytes
unfolding operand_of
of_entries_path a has_minus signed order path bytes e =
    sym (ap (λ (b : Bool). if b then of_matrix order (matrix_of_text a has_minus signed order bytes) else of_entries order
    (entries_of_text signed order bytes)) e)

-- what a reader was fed that knew its order
record IsFed (order : ℕ) (bytes : List ℕ) (order' : ℕ) (text' : List ℕ) : Type 0 where
  same_order : order' ≡ order
  same_text : text' ≡ bytes

fed : (order first : ℕ) (text bytes : List ℕ) (order' : ℕ) (text' : List ℕ) → first ≡ order → text ≡ []
    → order' ∷ text' ≡ (first ∷ text) ++ bytes → IsFed order bytes order' text'
fed order first text bytes order' text' o t e =
    let all : order' ∷ text' ≡ order ∷ bytes = e ∙ ap (λ n. n ∷ (text ++ bytes)) o ∙ ap (λ w. order ∷ (w ++ bytes)) t in
    record { same_order = cc; same_text = cc }

-- the answer for a reader that was fed a file
answer_of_fed : (means : Decoding) (meaning : ℕ → List ℕ → Result Operand BadLine) (order : ℕ) (path : List ℕ) (old new : FolderState)
    (first : ℕ) (text : List ℕ) (order' : ℕ) (text' : List ℕ)
    (result : Result (Entries × Vec Bound Global) OperandFault) → ((bytes : List ℕ) → meaning order bytes ≡ means order path bytes)
    → first ≡ order → text ≡ [] → FeedsFile path old new (first ∷ text) (order' ∷ text') → DecodesTo (meaning order' text') path result
    → IfOk result (λ operand. ReadsOperand means order path old new (record { entries = operand.0; bounds = operand.1.items }))
    × IfErr result (FileRefused means order path old new)
answer_of_fed means meaning order path old new first text order' text' result same o t feeds decodes =
    let is : IsFed order feeds.bytes order' text' = fed order first text feeds.bytes order' text' o t feeds.eaten_is in
    let what : meaning order' text' ≡ means order path feeds.bytes = ap (λ n. meaning n text') is.same_order ∙ ap
    (λ w. meaning order w) is.same_text ∙ same feeds.bytes in
    file_read means order path feeds.bytes old new result feeds.given_is feeds.whole feeds.quiet (subst
    (λ w. DecodesTo w path result) what decodes)

pub matrix_read : (a : Arithmetic) (has_minus signed : Bool) (order : ℕ) (path : List ℕ) (old new : FolderState) (first : ℕ) (text : List ℕ)
    (order' : ℕ) (text' : List ℕ)
    (result : Result (Entries × Vec Bound Global) OperandFault) → is_mtx path ≡ true → first ≡ order → text ≡ []
    → FeedsFile path old new (first ∷ text) (order' ∷ text')
    → DecodesTo (of_matrix order' (matrix_of_text a has_minus signed order' text')) path result
    → IfOk result (λ operand. ReadsOperand (operand_of a has_minus signed) order path old new
    (record { entries = operand.0; bounds = operand.1.items }))
    × IfErr result (FileRefused (operand_of a has_minus signed) order path old new)
matrix_read a has_minus signed order path old new first text order' text' result ending =
    answer_of_fed (operand_of a has_minus signed)
    (λ n w. of_matrix n (matrix_of_text a has_minus signed n w)) order path old new first text order'
    text' result
    (λ bytes. of_matrix_path a has_minus signed order path bytes ending)

pub entries_read : (a : Arithmetic) (has_minus signed : Bool) (order : ℕ) (path : List ℕ) (old new : FolderState) (first : ℕ)
    (text : List ℕ)
    (order' : ℕ) (text' : List ℕ)
    (result : Result (Entries × Vec Bound Global) OperandFault) → is_mtx path ≡ false → first ≡ order → text ≡ []
    → FeedsFile path old new (first ∷ text) (order' ∷ text')
    → DecodesTo (of_entries order' (entries_of_text signed order' text')) path result
    → IfOk result (λ operand. ReadsOperand (operand_of a has_minus signed) order path old new
    (record { entries = operand.0; bounds = operand.1.items }))
    × IfErr result (FileRefused (operand_of a has_minus signed) order path old new)
entries_read a has_minus signed order path old new first text order' text' result ending =
    answer_of_fed (operand_of a has_minus signed)
    (λ n w. of_entries n (entries_of_text signed n w)) order path old new first text order' text' result
    (λ bytes. of_entries_path a has_minus signed order path bytes ending)
