-- A statement multiplied out: the terms of its right side are cut from its pieces, each with what it is summed over as own variables.
use Rattle.std.specs.Prelude.{◌≡◌, ℕ, suc, ◌+◌, ◌<◌, nat_eq, Bool, true, false}
use Rattle.std.specs.Prelude.{not, ◌&&◌, if◌then◌else◌, List, [], ◌∷◌, ◌++◌, length, map, filter}
use Rattle.std.specs.List.{list_any, list_all}
use Rattle.numbers.specs.Arithmetic.{Arithmetic, Laws, MinusLaws}
use Rattle.index_notation.specs.Statement.{numbers_from}
use Rattle.index_notation.specs.declared.operator.Operator.TheVariants as op
use Rattle.index_notation.specs.declared.syntax.Access.{Access}
use Rattle.index_notation.specs.declared.syntax.Expr.{Expr, Num, Access as AccessOf, Binary, Neg, Binary', Neg'}
use Rattle.index_notation.specs.declared.syntax.NestedSum.{NestedSum}
use Rattle.index_notation.specs.declared.syntax.Statement.{Statement}
use Rattle.expr_terms.specs.Nested.{flat, nested_value}
use Rattle.expr_terms.specs.declared.term.Term.{Term}
use Rattle.expr_terms.specs.Terms.{terms, own_variables, stands_in, contains}
use Rattle.nested_sums.specs.Inner.{is_inner}
use Rattle.nested_sums.specs.Pieces.{Piece, Opened, pieces, opened_sums, differ, has_minus_with_sums}

-- a term of a piece's factors, summed over these variables too
abbrev pub cut_piece : Bool → List ℕ → Piece → Term → Piece
cut_piece negated own piece t = record {
  negated = differ (differ negated piece.negated) t.negated;
  factors = t.expr;
  over = own ++ piece.over;
}

abbrev pub cut_pieces : Bool → List ℕ → List Piece → List Piece
cut_pieces negated own [] = []
cut_pieces negated own (piece ∷ ps) = map (cut_piece negated own piece) (terms piece.factors) ++ cut_pieces negated own ps

-- the pieces of terms, each cut into terms and summed over the own variables of its own
abbrev pub pieces_of_terms : Statement → List Opened → List Term → List Piece
pieces_of_terms s opened [] = []
pieces_of_terms s opened (t ∷ ts) =
    cut_pieces t.negated (own_variables (flat s) t) (pieces opened t.expr) ++ pieces_of_terms s opened ts

-- the sum of a one for each coordinate of a variable
abbrev pub unit_sum : ℕ → ℕ → NestedSum
unit_sum one v = record { var = v; inside = Num one }

abbrev pub is_number : ℕ → Expr → Bool
is_number n (Num k) = nat_eq k n
is_number n (AccessOf k) = false
is_number n (Binary' o p e q f) = false
is_number n (Neg' p e) = false

abbrev pub is_unit : ℕ → ℕ → NestedSum → Bool
is_unit one v sum = nat_eq sum.var v && is_number one sum.inside

-- the n-th sum and those behind it: each that isn't inner gives its place to a one for each coordinate of its variable
abbrev pub kept_sums : (ℕ → Bool) → ℕ → ℕ → List NestedSum → List NestedSum
kept_sums is_inner one n [] = []
kept_sums is_inner one n (sum ∷ sums) =
    (if is_inner n then sum else unit_sum one sum.var) ∷ kept_sums is_inner one (n + 1) sums

-- over which of its variables a piece is summed though they don't stand in it
abbrev pub lacking : List Access → Piece → List ℕ
lacking accesses piece = filter (λ v. not (stands_in accesses v piece.factors)) piece.over

-- those of so many variables that some piece lacks, where no sum is a one for each of their coordinates
abbrev pub missing : ℕ → List Access → ℕ → List NestedSum → List Piece → List ℕ
missing vars accesses one kept ps =
    filter (λ v. list_any (λ piece. contains (lacking accesses piece) v) ps && not (list_any (is_unit one v) kept)) (numbers_from 0 vars)

-- the place of the first sum that is a one for each coordinate of a variable
abbrev pub place_of_unit : ℕ → ℕ → List NestedSum → ℕ
place_of_unit one v [] = 0
place_of_unit one v (sum ∷ sums) = if is_unit one v sum then 0 else suc (place_of_unit one v sums)

-- an expression by units of variables, which stand in expressions as such numbers
abbrev pub with_units : (ℕ → ℕ) → Expr → List ℕ → Expr
with_units unit e [] = e
with_units unit e (v ∷ vs) = Binary op.Mul (with_units unit e vs) (AccessOf (unit v))

-- terms one after another, added or taken away
abbrev pub added : Expr → List Term → Expr
added e [] = e
added e (t ∷ ts) = added (Binary (if t.negated then op.Sub else op.Add) e t.expr) ts

abbrev pub sum_of_terms : List Term → Expr
sum_of_terms [] = Num 0
sum_of_terms (t ∷ ts) = added (if t.negated then Neg t.expr else t.expr) ts

-- the statement with other sums and another expression
abbrev pub with_sums : Statement → List NestedSum → Expr → Statement
with_sums s sums expr = record {
  tensors = s.tensors;
  vars = s.vars;
  left = s.left;
  accumulate = s.accumulate;
  accesses = s.accesses;
  sums = sums;
  expr = expr;
}

-- a piece as a term, with a unit for each variable that it lacks
abbrev pub final_term : Statement → (ℕ → ℕ) → Piece → Term
final_term s unit piece = record {
  negated = piece.negated;
  expr = with_units unit piece.factors (lacking (flat s).accesses piece);
}

-- the pieces of a statement's terms
abbrev pub term_pieces : Statement → List ℕ → List Piece
term_pieces s order = pieces_of_terms s (opened_sums (is_inner s order) (length s.accesses) 0 [] s.sums) (terms s.expr)

-- the sums in their places, and behind them the units that are missing
abbrev pub all_sums : ℕ → Statement → List ℕ → List NestedSum
all_sums one s order =
    let kept : List NestedSum = kept_sums (is_inner s order) one 0 s.sums in
    kept ++ map (unit_sum one) (missing (length s.vars) (flat s).accesses one kept (term_pieces s order))

-- the number at which the unit of a variable stands in expressions
abbrev pub unit_leaf : ℕ → Statement → List NestedSum → ℕ → ℕ
unit_leaf one s sums v = length s.accesses + place_of_unit one v sums

-- the statement whose terms are those pieces
abbrev pub multiplied_out : ℕ → Statement → List ℕ → Statement
multiplied_out one s order =
    let sums : List NestedSum = all_sums one s order in
    with_sums s sums (sum_of_terms (map (final_term s (unit_leaf one s sums)) (term_pieces s order)))

-- where each sum is inner the statement stays as it is
abbrev pub multiplied : ℕ → Statement → List ℕ → Statement
multiplied one s order =
    if list_all (is_inner s order) (numbers_from 0 (length s.sums)) then s else multiplied_out one s order

-- at every point both have the same value, whatever the values of their tensors and the ranges of their variables, over every
-- arithmetic that keeps the laws and has this one; where a minus stands it has one that keeps the laws of a minus
abbrev pub KeepsValue : ℕ → Statement → Statement → Type 0
KeepsValue one s out = (a : Arithmetic) → Laws a → a.one ≡ one → (has_minus_with_sums s ≡ true → MinusLaws a)
    → (values : ℕ → List ℕ → ℕ) (ranges : ℕ → ℕ) (coords : List ℕ)
    → nested_value a out values ranges coords ≡ nested_value a s values ranges coords

-- and all else but sums and expression
pub record KeepsRest (s out : Statement) : Type 0 where
  pub tensors : out.tensors ≡ s.tensors
  pub vars : out.vars ≡ s.vars
  pub left : out.left ≡ s.left
  pub accumulate : out.accumulate ≡ s.accumulate
  pub accesses : out.accesses ≡ s.accesses

-- each sum of a statement is inner for an order
abbrev pub HasInnerSums : List ℕ → Statement → Type 0
HasInnerSums order s = (n : ℕ) → n < length s.sums → is_inner s order n ≡ true

-- no minus stands where none stood
abbrev pub KeepsNoMinus : Statement → Statement → Type 0
KeepsNoMinus s out = has_minus_with_sums s ≡ false → has_minus_with_sums out ≡ false
