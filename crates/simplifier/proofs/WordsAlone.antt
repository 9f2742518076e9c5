-- Simple kernels are well formed: over the ring no sum or product of values is left in them.
use Rattle.std.specs.Prelude.{◌≡◌, ℕ, Bool, true, List, [], ◌∷◌, refl}
use Rattle.std.proofs.Common.{◌∙◌, subst, sym}
use Rattle.numbers.specs.Arithmetic.{Arithmetic}
use Rattle.numbers.specs.Names.{IsName}
use Rattle.numbers.specs.Ring.{ring}
use Rattle.kernel_code.specs.declared.syntax.Kernel.{Kernel}
use Rattle.kernel_code.specs.declared.syntax.KStmt.{KStmt, Set, Combine, Put, AddTo, Push, Extend, Cut, Sort, SortSum, If', While'}
use Rattle.kernel_code.specs.declared.syntax.KStmt.{Row_of-KStmt, end_of-KStmt, more_of-KStmt}
use Rattle.kernel_code.specs.Semirings.{semiring_of, HasName, StatementIsOfWords, RowIsOfWords, CodeIsOfWords, IsWellFormed}
use Rattle.kernel_code.proofs.SemiringNames.{has_name, is_the_ring}
use Rattle.simplifier.specs.Folded.{FoldedStep, FoldedRow, FoldedCode, SimpleCode}

mutual
  step_of_words : (s : KStmt) → FoldedStep ring s → StatementIsOfWords s
  step_of_words (Set x e) simple = tt
  step_of_words (Combine x o e f) simple = absurd (simple.0 refl)
  step_of_words (Put a i e) simple = tt
  step_of_words (AddTo a i e) simple = tt
  step_of_words (Push a e) simple = tt
  step_of_words (Extend a count e) simple = tt
  step_of_words (Cut a e) simple = tt
  step_of_words (Sort g) simple = tt
  step_of_words (SortSum w) simple = tt
  step_of_words (If' e p first q second) simple = (row_of_words first simple.1.1.0, row_of_words second simple.1.1.1)
  step_of_words (While' k e p body) simple = row_of_words body simple.1.1

  row_of_words : {m : _} (row : Row_of-KStmt m) → FoldedRow ring row → RowIsOfWords row
  row_of_words end_of-KStmt simple = tt
  row_of_words (more_of-KStmt s rest) simple = (step_of_words s simple.0, row_of_words rest simple.1)

code_of_words : (code : List KStmt) → FoldedCode ring code → CodeIsOfWords code
code_of_words [] simple = tt
code_of_words (s ∷ rest) simple = (step_of_words s simple.0, code_of_words rest simple.1)

-- a simple kernel over a semiring, which has a name, and is the ring where it is told to be
pub simple_is_well_formed : (a : Arithmetic) (is_ring : Bool) (name : List ℕ) → IsName name → (is_ring ≡ true → a ≡ ring)
    → (kernel : Kernel) → kernel.semiring ≡ semiring_of is_ring name → SimpleCode a kernel.body → IsWellFormed kernel
simple_is_well_formed a is_ring name named ring_is kernel over simple = record {
  named = subst HasName (sym over) (has_name is_ring name named);
  words = λ same. code_of_words kernel.body
      (subst (λ b. FoldedCode b kernel.body) (ring_is (is_the_ring is_ring name (sym over ∙ same))) simple.folded);
}
