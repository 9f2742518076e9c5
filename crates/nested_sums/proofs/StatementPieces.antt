-- The pieces of expressions of a statement: sums that aren't inner are opened, and no other is left.
use Rattle.std.specs.Prelude.{◌≡◌, ℕ, ◌+◌, true, List, [], ◌∷◌, length}
use Rattle.std.specs.List.{list_any}
use Rattle.std.proofs.Common.{subst, arith}
use Rattle.lists.specs.Each.{Each}
use Rattle.index_notation.specs.Statement.{AccessesUnder, IsNumberedWithSums}
use Rattle.index_notation.specs.declared.syntax.Expr.{Expr}
use Rattle.index_notation.specs.declared.syntax.NestedSum.{NestedSum}
use Rattle.index_notation.specs.declared.syntax.Statement.{Statement}
use Rattle.expr_terms.specs.Minus.{has_minus}
use Rattle.nested_sums.specs.Bound.{IsClearSum, bounds, HasNoBadSum}
use Rattle.nested_sums.specs.Inner.{is_inner}
use Rattle.nested_sums.specs.Pieces.{Piece, Opened, pieces, opened_sums, has_minus_with_sums}
use Rattle.nested_sums.proofs.AddedPieces.{IsOpened, or_first, or_second}
use Rattle.nested_sums.proofs.BoundVariables.{inside_under}
use Rattle.nested_sums.proofs.InnerPieces.{IsGood, AreCovered, AreInnerPieces, all_inner, pieces_inner}
use Rattle.nested_sums.proofs.Leaves.{EachLeaf}
use Rattle.nested_sums.proofs.Meaning.{Meaning}
use Rattle.nested_sums.proofs.OpenedSums.{IsReadBy, CanBeOpened, all_opened}
use Rattle.nested_sums.proofs.PieceValues.{Squares}
use Rattle.nested_sums.proofs.Tellings.{Telling, Tells, meaning_at}

each_can : (m : Meaning) (told : List (List ℕ)) (sums : List NestedSum) → Each (IsClearSum m.accesses told) sums
    → (list_any (λ (sum : NestedSum). has_minus sum.inside) sums ≡ true → Squares m.a) → Each (CanBeOpened m told) sums
each_can m told [] clear square = tt
each_can m told (sum ∷ sums) clear square = (
  record {
    clear = clear.0;
    square = λ h. square (or_first (has_minus sum.inside) (list_any (λ (other : NestedSum). has_minus other.inside) sums) h);
  },
  each_can m told sums clear.1
      (λ h. square (or_second (has_minus sum.inside) (list_any (λ (other : NestedSum). has_minus other.inside) sums) h)),
)

-- the sums of a statement that aren't inner, opened
abbrev pub all_opened_sums : Statement → List ℕ → List Opened
all_opened_sums s order = opened_sums (is_inner s order) (length s.accesses) 0 [] s.sums

-- have their pieces
pub opened_are : (s : Statement) (order : List ℕ) → IsNumberedWithSums s → HasNoBadSum s → (T : Telling) → Tells T
    → (has_minus_with_sums s ≡ true → Squares T.a) → Each (IsOpened (meaning_at T s) (bounds s)) (all_opened_sums s order)
opened_are s order h clear T tells square =
    let m : Meaning = meaning_at T s in
    let inside = list_any (λ (sum : NestedSum). has_minus sum.inside) s.sums in
    all_opened m (bounds s) (is_inner s order) (length s.accesses) 0 [] s.sums tt
    (λ i sum at. let here : i ≡ 0 + i = omega arith in
    subst (λ j. IsReadBy m (bounds s) (length s.accesses + j) sum) here (tells.sums s h i sum at))
    (each_can m (bounds s) s.sums clear.inside (λ g. square (or_second (has_minus s.expr) inside g)))

-- which accesses and sums are left in pieces
abbrev pub IsLeft : Statement → List ℕ → ℕ → Type 0
IsLeft s order = IsGood (is_inner s order) (length s.accesses) (length s.accesses + length s.sums)

pub opened_covered : (s : Statement) (order : List ℕ) → IsNumberedWithSums s
    → AreCovered (is_inner s order) (length s.accesses) (length s.accesses + length s.sums) (0 + length s.sums) (all_opened_sums s order)
    × Each (AreInnerPieces (is_inner s order) (length s.accesses) (length s.accesses + length s.sums)) (all_opened_sums s order)
opened_covered s order h =
    all_inner (is_inner s order) (length s.accesses) (length s.accesses + length s.sums) 0 [] s.sums (omega arith)
    (λ i below outer. absurd (omega (arith, below))) tt
    (λ i sum at. let here : i ≡ 0 + i = omega arith in
    subst (λ j. AccessesUnder (length s.accesses + j) sum.inside) here
    (inside_under (length s.vars) (length s.accesses) s.sums i sum h.sums at))

-- of an expression of the statement
pub pieces_left : (s : Statement) (order : List ℕ) → IsNumberedWithSums s → (e : Expr) → AccessesUnder (length s.accesses + length s.sums) e
    → Each (λ (piece : Piece). EachLeaf (IsLeft s order) piece.factors) (pieces (all_opened_sums s order) e)
pieces_left s order h e under =
    let made = opened_covered s order h in
    let all : length s.sums ≡ 0 + length s.sums = omega arith in
    pieces_inner (is_inner s order) (length s.accesses) (length s.accesses + length s.sums) (0 + length s.sums) (all_opened_sums s order)
    (omega arith) made.0 made.1 e (subst (λ k. AccessesUnder (length s.accesses + k) e) all under)
