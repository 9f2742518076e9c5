-- The accesses that have been read at a place in the grammar, the left one first.
use Rattle.std.specs.Prelude.{◌≡◌, List, [], ◌∷◌, ◌++◌}
use Rattle.index_notation.specs.declared.syntax.Name.{Name}
use Rattle.index_notation.specs.declared.token.Token.TheVariants.{Name as NameToken}
use Rattle.index_notation.specs.declared.token.WrittenAccess.{WrittenAccess}
use Rattle.notation_grammar.specs.declared.symbol.Symbol.{Symbol}
use Rattle.notation_grammar.specs.declared.symbol.Symbol.TheVariants.{Lexeme}
use Rattle.notation_grammar.specs.TreeStatement.{accesses_of_product, accesses_of_sum, accesses_of_tree}
use Rattle.notation_reader.specs.declared.position.Lead.{Lead}
use Rattle.notation_reader.specs.declared.position.Lead.TheVariants as lead
use Rattle.notation_reader.specs.Machine.{SumPlace, OnTheRight, InBrackets, InSum, ProductPlace, First, BehindPlus, BehindMinus}
use Rattle.notation_reader.specs.Machine.{FactorPlace, FirstFactor, BehindTimes, BehindSign, Side, Left, Right, State, Start, Named}
use Rattle.notation_reader.specs.Machine.{WantsVariable, BehindVariable, BehindLeft, WantsFactor, NamedSum, WantsBound, BehindBound}
use Rattle.notation_reader.specs.Machine.{Behind, Ended}

abbrev mutual
  pub accesses_to_sum : SumPlace → List WrittenAccess
  accesses_to_sum (OnTheRight left) = left.access ∷ []
  accesses_to_sum (InBrackets place) = accesses_to place
  accesses_to_sum (InSum place var) = accesses_to place

  pub accesses_to_product : ProductPlace → List WrittenAccess
  accesses_to_product (First place) = accesses_to_sum place
  accesses_to_product (BehindPlus place sum) = accesses_to_sum place ++ accesses_of_sum sum
  accesses_to_product (BehindMinus place sum) = accesses_to_sum place ++ accesses_of_sum sum

  pub accesses_to : FactorPlace → List WrittenAccess
  accesses_to (FirstFactor place) = accesses_to_product place
  accesses_to (BehindTimes place product) = accesses_to_product place ++ accesses_of_product product
  accesses_to (BehindSign place) = accesses_to place

-- the accesses before one on this side
abbrev pub accesses_before : Side → List WrittenAccess
accesses_before Left = []
accesses_before (Right place) = accesses_to place

abbrev pub access_to : Name → List Name → WrittenAccess
access_to name vars = record { name = name; vars = vars }

abbrev pub accesses_so_far : State → List WrittenAccess
accesses_so_far Start = []
accesses_so_far (Named side name) = accesses_before side ++ (access_to name [] ∷ [])
accesses_so_far (WantsVariable side name vars) = accesses_before side ++ (access_to name vars ∷ [])
accesses_so_far (BehindVariable side name vars var) = accesses_before side ++ (access_to name (vars ++ (var ∷ [])) ∷ [])
accesses_so_far (BehindLeft access) = access ∷ []
accesses_so_far (WantsFactor place) = accesses_to place
accesses_so_far (NamedSum place) = accesses_to place
accesses_so_far (WantsBound place) = accesses_to place
accesses_so_far (BehindBound place var) = accesses_to place
accesses_so_far (Behind place product) = accesses_to_product place ++ accesses_of_product product
accesses_so_far (Ended tree) = accesses_of_tree tree

-- the last access gets one variable more
abbrev pub Extends : Name → List WrittenAccess → List WrittenAccess → Type 0
Extends var old new =
    (front : List WrittenAccess) (last : WrittenAccess) → old ≡ front ++ (last ∷ []) →
    new ≡ front ++ (access_to last.name (last.vars ++ (var ∷ [])) ∷ [])

-- what a symbol that leads so does to the accesses
abbrev pub Mentions : Symbol → Lead → List WrittenAccess → List WrittenAccess → Type 0
Mentions (Lexeme (NameToken var)) (lead.Variable at) old new = Extends var old new
Mentions (Lexeme (NameToken name)) lead.Sum old new = new ≡ old
Mentions (Lexeme (NameToken name)) lead.Bound old new = new ≡ old
Mentions (Lexeme (NameToken name)) _ old new = new ≡ old ++ (access_to name [] ∷ [])
Mentions _ _ old new = new ≡ old
