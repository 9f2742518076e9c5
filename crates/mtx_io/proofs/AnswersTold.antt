-- What is told of a file is what the file says.
use Rattle.std.specs.Prelude.{◌≡◌, ℕ, Bool, false, Result, Ok, Err, MatchResult, refl}
use Rattle.std.proofs.Common.{ap, sym, ◌∙◌}
use Rattle.numbers.specs.Arithmetic.{Arithmetic}
use Rattle.tensor_map.specs.Entries.{Entries}
use Rattle.mtx_io.specs.Matrix.{BadLine, Matrix, matrix_of_text}
use Rattle.mtx_io.specs.MtxReader.{MtxReader, IsRead, Refuses}
use Rattle.mtx_io.specs.Progress.{told}
use Rattle.mtx_io.specs.Reader.{Tells}
use Rattle.mtx_io.specs.declared.file_fault.FileFault.{FileFault}
use Rattle.mtx_io.specs.declared.file_fault.FileFault.TheVariants.{Line, Memory}
use Rattle.text_lines.specs.declared.line_kind.LineKind.{LineKind}
use Rattle.text_lines.specs.declared.line_kind.LineKind.TheVariants.{Truncated}

number_of_fault : Result Matrix BadLine → ℕ
number_of_fault (Ok matrix) = 0
number_of_fault (Err bad) = bad.number

kind_of_fault : Result Matrix BadLine → LineKind
kind_of_fault (Ok matrix) = Truncated
kind_of_fault (Err bad) = bad.kind

module _ (a : Arithmetic) (has_minus signed : Bool) (reader : MtxReader) (calm : reader.wants ≡ false) where
  answer_by : (what : Result Matrix BadLine) → matrix_of_text a has_minus signed reader.order reader.text ≡ what
      → (r : Result (Entries × ℕ × ℕ) FileFault) → Tells (told what) reader.order r
      → MatchResult r (IsRead a has_minus signed reader) (Refuses a has_minus signed reader)
  unfolding number_of_fault kind_of_fault
  answer_by (Ok matrix) e (Ok read) tells = record { wants = calm; order_is = tells.1; matrix_is = e ∙ tells.0 }
  answer_by (Err bad) e (Ok read) tells = let never = tells.0 in absurd (cc)
  answer_by (Ok matrix) e (Err (Line line kind)) tells = absurd (cc)
  answer_by (Err bad) e (Err (Line line kind)) tells = (
    calm,
    record {
      number = bad.number;
      line_is = sym (ap number_of_fault tells);
      bad = e ∙ ap (λ k. Err (record { number = bad.number; kind = k })) (ap kind_of_fault tells);
    },
  )
  answer_by what e (Err (Memory error)) tells = absurd tells

  pub answer_told : (r : Result (Entries × ℕ × ℕ) FileFault)
      → Tells (told (matrix_of_text a has_minus signed reader.order reader.text)) reader.order r
      → MatchResult r (IsRead a has_minus signed reader) (Refuses a has_minus signed reader)
  answer_told r tells = answer_by (matrix_of_text a has_minus signed reader.order reader.text) refl r tells
