-- What a reader finds at a place of a line.
use Rattle.std.specs.Prelude.{◌≡◌, ℕ, ◌≤◌, ◌==◌, false, if◌then◌else◌, List, [], ◌∷◌, ◌++◌, length, drop}
use Rattle.std.specs.Prelude.{Option, Some, None, MatchOption}
use Rattle.std.specs.Char.{is_ascii_digit}
use Rattle.kernel_code.specs.declared.syntax.Arr.{Arr}
use Rattle.kernel_code.specs.declared.syntax.Arr.TheVariants as array
use Rattle.kernel_code.specs.declared.syntax.KExpr.{KExpr, Num, Var, Len}
use Rattle.kernel_code.specs.declared.syntax.Op.{Op}
use Rattle.kernel_code.specs.declared.syntax.Op.TheVariants as op
use Rattle.kernel_print.specs.ArrayNames.{BeginsWithoutDigit, HasWords, IsWord}
use Rattle.kernel_print.specs.ExprTexts.{ExprHasWords}

-- at a place of a line stands this, and behind it the line goes on at another place
pub record Stands (line : List ℕ) (at : ℕ) (text : List ℕ) (next : ℕ) : Type 0 where
  pub behind : at ≤ next
  pub within : next ≤ length line
  pub goes_on : drop at line ≡ text ++ drop next line

-- nothing that may stand at a place of a line stands there; no digit stands behind what may
abbrev pub NoneStands : (A : Type 0) → (A → List ℕ) → (A → Type 0) → List ℕ → ℕ → Type 0
NoneStands A text Fits line at =
    (x : A) (behind : List ℕ) → Fits x → BeginsWithoutDigit behind → drop at line ≡ text x ++ behind → ⊥

-- what a reader answers at a place of a line: what stands there, and the place behind it; or nothing, and nothing stands there
abbrev pub Reads : (A : Type 0) → (A → List ℕ) → (A → Type 0) → List ℕ → ℕ → Option (A × ℕ) → Type 0
Reads A text Fits line at answer =
    MatchOption answer (NoneStands A text Fits line at)
    (λ found. Fits found.0 × Stands line at (text found.0) found.1 × BeginsWithoutDigit (drop found.1 line))

-- no digit stands first, and something does
abbrev pub BeginsPlain : List ℕ → Type 0
BeginsPlain [] = ⊥
BeginsPlain (byte ∷ text) = is_ascii_digit byte ≡ false

-- both numbers are words
abbrev pub AreWordsBoth : ℕ × ℕ → Type 0
AreWordsBoth n = IsWord n.0 × IsWord n.1

-- the numbers in both expressions are words
abbrev pub HaveWords : KExpr × KExpr → Type 0
HaveWords e = ExprHasWords e.0 × ExprHasWords e.1

-- an array of a level of a tensor, and its numbers are words
abbrev pub IsOfLevel : Arr → Type 0
IsOfLevel (array.Dimension n level) = IsWord n × IsWord level
IsOfLevel (array.Ends n level) = IsWord n × IsWord level
IsOfLevel (array.Coordinates n level) = IsWord n × IsWord level
IsOfLevel (array.Width n level) = IsWord n × IsWord level
IsOfLevel _ = ⊥

-- an expression without expressions in it, and its numbers are words
abbrev pub IsLeaf : KExpr → Type 0
IsLeaf (Num n) = IsWord n
IsLeaf (Var x) = IsWord x
IsLeaf (Len a) = HasWords a
IsLeaf _ = ⊥

-- the operator of two words that its bytes behind the first blank tell, if any
abbrev pub operator_told : ℕ → ℕ → Option Op
operator_told sign next =
    if sign == 43 then Some op.Add else (if sign == 45 then Some op.Sub else (if sign == 42 then Some op.Mul
    else (if sign == 60 then Some op.Less else (if sign == 61 then Some op.Equal else (if sign == 33 then Some op.NotEqual
    else (if sign == 124 then Some op.Or else (if sign == 38 then (if next == 38 then Some op.And else Some op.BitAnd)
    else None)))))))
