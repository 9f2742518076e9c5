-- Statements of one line by cases on their forms.
use Rattle.std.specs.Prelude.{◌≡◌, ℕ, Bool, false, List, ◌++◌, codes, Option, Some, None, Result, Ok, Err, IfOk, refl}
use Rattle.std.specs.declared.alloc.AllocError.{AllocError}
use Rattle.std.specs.Fmt.{decimal}
use Rattle.kernel_code.specs.declared.syntax.Arr.{Arr}
use Rattle.kernel_code.specs.declared.syntax.KExpr.{KExpr}
use Rattle.kernel_code.specs.declared.syntax.KStmt.{KStmt, Set, Combine, Put, AddTo, Push, Extend, Cut, Sort, SortSum, If', While'}
use Rattle.kernel_code.specs.declared.syntax.ValueOp.{ValueOp}
use Rattle.kernel_code.specs.declared.syntax.ValueOp.TheVariants as value_op
use Rattle.kernel_print.specs.ArrayNames.{BeginsWithoutDigit, HasWords, IsWord}
use Rattle.kernel_print.specs.ExprTexts.{ExprHasWords}
use Rattle.kernel_print.specs.Text.{array_text, combining_text, expr_text, statement_text}
use Rattle.kernel_read.specs.Reading.{HaveWords, NoneStands, Reads}
use Rattle.kernel_read.specs.Statements.{IsAssigned, IsCalled, IsSimple, IsStored}
use Rattle.kernel_read.proofs.Bytes.{no_both}
use Rattle.kernel_read.proofs.Parts.{Found}

abbrev pub set_text : ℕ × KExpr → List ℕ
set_text s = codes "x" ++ (decimal s.0 ++ (codes " = " ++ (expr_text s.1 ++ codes ";\n")))

abbrev pub values_text : ValueOp → KExpr × KExpr → List ℕ
values_text o s = combining_text o ++ (expr_text s.0 ++ (codes ", " ++ (expr_text s.1 ++ codes ");\n")))

abbrev pub combined_text : ValueOp → ℕ × (KExpr × KExpr) → List ℕ
combined_text o s = codes "x" ++ (decimal s.0 ++ values_text o s.1)

abbrev pub pair_text : List ℕ → List ℕ → List ℕ → KExpr × KExpr → List ℕ
pair_text before between after s = before ++ (expr_text s.0 ++ (between ++ (expr_text s.1 ++ after)))

abbrev pub two_text : List ℕ → List ℕ → List ℕ → Arr × (KExpr × KExpr) → List ℕ
two_text before between after s = array_text s.0 ++ pair_text before between after s.1

abbrev pub arguments_text : Arr × KExpr → List ℕ
arguments_text s = array_text s.0 ++ (codes ", " ++ (expr_text s.1 ++ codes ");\n"))

abbrev pub SetFits : ℕ × KExpr → Type 0
SetFits s = IsWord s.0 × ExprHasWords s.1

abbrev pub CombinedFits : ℕ × (KExpr × KExpr) → Type 0
CombinedFits s = IsWord s.0 × HaveWords s.1

abbrev pub TwoFits : Arr × (KExpr × KExpr) → Type 0
TwoFits s = HasWords s.0 × HaveWords s.1

abbrev pub OneFits : Arr × KExpr → Type 0
OneFits s = HasWords s.0 × ExprHasWords s.1

pub combining_plain : (o : ValueOp) (more rest : List ℕ) → BeginsWithoutDigit ((combining_text o ++ more) ++ rest)
combining_plain value_op.Plus more rest = refl
combining_plain value_op.Times more rest = refl

pub no_assigned : (line : List ℕ) (at : ℕ) (combines : Bool) → NoneStands (ℕ × KExpr) set_text SetFits line at
    → NoneStands (ℕ × (KExpr × KExpr)) (combined_text value_op.Plus) CombinedFits line at
    → NoneStands (ℕ × (KExpr × KExpr)) (combined_text value_op.Times) CombinedFits line at
    → NoneStands KStmt (statement_text 0) (IsAssigned combines) line at
no_assigned line at combines set plus times (Set x e) behind fits plain same = set (x, e) behind fits plain same
no_assigned line at combines set plus times (Combine x value_op.Plus e f) behind fits plain same =
    plus (x, (e, f)) behind fits.1 plain same
no_assigned line at combines set plus times (Combine x value_op.Times e f) behind fits plain same =
    times (x, (e, f)) behind fits.1 plain same
no_assigned line at combines set plus times _ behind fits plain same = absurd fits

pub no_set : (line : List ℕ) (at : ℕ) (combines : Bool) → combines ≡ false → NoneStands (ℕ × KExpr) set_text SetFits line at
    → NoneStands KStmt (statement_text 0) (IsAssigned combines) line at
no_set line at combines ring set (Set x e) behind fits plain same = set (x, e) behind fits plain same
no_set line at combines ring set (Combine x o e f) behind fits plain same = no_both combines fits.0 ring
no_set line at combines ring set _ behind fits plain same = absurd fits

pub no_stored : (line : List ℕ) (at : ℕ)
    → NoneStands (Arr × (KExpr × KExpr)) (two_text (codes "[") (codes "] = ") (codes ";\n")) TwoFits line at
    → NoneStands (Arr × (KExpr × KExpr)) (two_text (codes "[") (codes "] += ") (codes ";\n")) TwoFits line at
    → NoneStands KStmt (statement_text 0) IsStored line at
no_stored line at put add (Put a i e) behind fits plain same = put (a, (i, e)) behind fits plain same
no_stored line at put add (AddTo a i e) behind fits plain same = add (a, (i, e)) behind fits plain same
no_stored line at put add _ behind fits plain same = absurd fits

-- no statement of the form of a call stands at a place
pub record NoCall (line : List ℕ) (at : ℕ) : Type 0 where
  pub sort : NoneStands ℕ (λ n. codes "sort(g" ++ (decimal n ++ codes ");\n")) IsWord line at
  pub sort_sum : NoneStands ℕ (λ n. codes "sort_sum(w" ++ (decimal n ++ codes ");\n")) IsWord line at
  pub push : NoneStands (Arr × KExpr) (λ s. codes "push(" ++ arguments_text s) OneFits line at
  pub cut : NoneStands (Arr × KExpr) (λ s. codes "cut(" ++ arguments_text s) OneFits line at
  pub extend : NoneStands (Arr × (KExpr × KExpr)) (λ s. codes "extend(" ++ two_text (codes ", ") (codes ", ") (codes ");\n") s) TwoFits
      line at

pub no_called : (line : List ℕ) (at : ℕ) → NoCall line at → NoneStands KStmt (statement_text 0) IsCalled line at
no_called line at none (Push a e) behind fits plain same = none.push (a, e) behind fits plain same
no_called line at none (Extend a n e) behind fits plain same = none.extend (a, (n, e)) behind fits plain same
no_called line at none (Cut a e) behind fits plain same = none.cut (a, e) behind fits plain same
no_called line at none (Sort g) behind fits plain same = none.sort g behind fits plain same
no_called line at none (SortSum w) behind fits plain same = none.sort_sum w behind fits plain same
no_called line at none _ behind fits plain same = absurd fits

simple_assigned : (combines : Bool) (s : KStmt) → IsAssigned combines s → IsSimple combines s
simple_assigned combines (Set x e) fits = fits
simple_assigned combines (Combine x o e f) fits = fits
simple_assigned combines _ fits = absurd fits

simple_called : (combines : Bool) (s : KStmt) → IsCalled s → IsSimple combines s
simple_called combines (Push a e) fits = fits
simple_called combines (Extend a n e) fits = fits
simple_called combines (Cut a e) fits = fits
simple_called combines (Sort g) fits = fits
simple_called combines (SortSum w) fits = fits
simple_called combines _ fits = absurd fits

simple_stored : (combines : Bool) (s : KStmt) → IsStored s → IsSimple combines s
simple_stored combines (Put a i e) fits = fits
simple_stored combines (AddTo a i e) fits = fits
simple_stored combines _ fits = absurd fits

pub found_assigned : (line : List ℕ) (at : ℕ) (combines : Bool) (s : KStmt) (next : ℕ)
    → Found KStmt (statement_text 0) (IsAssigned combines) line at s next
    → Found KStmt (statement_text 0) (IsSimple combines) line at s next
found_assigned line at combines s next found = (simple_assigned combines s found.0, found.1, found.2)

pub found_called : (line : List ℕ) (at : ℕ) (combines : Bool) (s : KStmt) (next : ℕ)
    → Found KStmt (statement_text 0) IsCalled line at s next → Found KStmt (statement_text 0) (IsSimple combines) line at s next
found_called line at combines s next found = (simple_called combines s found.0, found.1, found.2)

no_statement : (line : List ℕ) (at : ℕ) (combines : Bool) → NoneStands KStmt (statement_text 0) (IsAssigned combines) line at
    → NoneStands KStmt (statement_text 0) IsCalled line at → NoneStands KStmt (statement_text 0) IsStored line at
    → NoneStands KStmt (statement_text 0) (IsSimple combines) line at
no_statement line at combines a c s (Set x e) behind fits plain same = a (Set x e) behind fits plain same
no_statement line at combines a c s (Combine x o e f) behind fits plain same = a (Combine x o e f) behind fits plain same
no_statement line at combines a c s (Put x i e) behind fits plain same = s (Put x i e) behind fits plain same
no_statement line at combines a c s (AddTo x i e) behind fits plain same = s (AddTo x i e) behind fits plain same
no_statement line at combines a c s (Push x e) behind fits plain same = c (Push x e) behind fits plain same
no_statement line at combines a c s (Extend x n e) behind fits plain same = c (Extend x n e) behind fits plain same
no_statement line at combines a c s (Cut x e) behind fits plain same = c (Cut x e) behind fits plain same
no_statement line at combines a c s (Sort g) behind fits plain same = c (Sort g) behind fits plain same
no_statement line at combines a c s (SortSum w) behind fits plain same = c (SortSum w) behind fits plain same
no_statement line at combines a c s (If' e p first q second) behind fits plain same = absurd fits
no_statement line at combines a c s (While' k e p body) behind fits plain same = absurd fits

pub ok_statement : (line : List ℕ) (at : ℕ) (combines : Bool) (answer : Result (Option (KStmt × ℕ)) AllocError)
    → IfOk answer (Reads KStmt (statement_text 0) IsStored line at)
    → NoneStands KStmt (statement_text 0) (IsAssigned combines) line at → NoneStands KStmt (statement_text 0) IsCalled line at
    → IfOk answer (Reads KStmt (statement_text 0) (IsSimple combines) line at)
ok_statement line at combines (Ok None) none a c = no_statement line at combines a c none
ok_statement line at combines (Ok (Some f)) found a c = (simple_stored combines f.0 found.0, found.1, found.2)
ok_statement line at combines (Err e) reads a c = tt
