-- Where a reader stands in a sentence: what it has read, as places in the grammar, and where each symbol leads.
use Rattle.std.specs.Prelude.{ℕ, suc, Bool, true, false, Option, Some, None, option_and_then, List, [], ◌∷◌, ◌++◌}
use Rattle.index_notation.specs.declared.syntax.Name.{Name}
use Rattle.index_notation.specs.declared.token.Mark.TheVariants.{Equals, PlusEquals, Plus, Minus, Times, Open, Close, Comma}
use Rattle.index_notation.specs.declared.token.Token.TheVariants.{Name as NameToken, Number as NumberToken, Mark as MarkToken}
use Rattle.index_notation.specs.declared.token.WrittenAccess.{WrittenAccess}
use Rattle.notation_grammar.specs.declared.symbol.Symbol.{Symbol}
use Rattle.notation_grammar.specs.declared.symbol.Symbol.TheVariants.{Lexeme, End}
use Rattle.notation_grammar.specs.Grammar.{Factor, Digits, Read, Bracketed, Negated, Summed, Product, Lone, Multiplied, Sum, Alone, Added}
use Rattle.notation_grammar.specs.Grammar.{Taken, sum_name, is_sum, LeftSide, Tree, Role, NamesLeft, NamesRight}
use Rattle.notation_grammar.specs.Grammar.{IsVariable, Binds, IsNumber}
use Rattle.notation_grammar.specs.Grammar.{Opens, Plain, Written, written, plain, access_of, product_of, sum_of, left_of, sentence_of}

-- a place where a sum, a product or a factor is wanted, with all that stands before it
mutual
  pub data SumPlace : Type 0 where
    OnTheRight : LeftSide → SumPlace
    InBrackets : FactorPlace → SumPlace
    InSum : FactorPlace → Name → SumPlace

  pub data ProductPlace : Type 0 where
    First : SumPlace → ProductPlace
    BehindPlus : SumPlace → Sum → ProductPlace
    BehindMinus : SumPlace → Sum → ProductPlace

  pub data FactorPlace : Type 0 where
    FirstFactor : ProductPlace → FactorPlace
    BehindTimes : ProductPlace → Product → FactorPlace
    BehindSign : FactorPlace → FactorPlace

abbrev mutual
  pub sum_levels : SumPlace → ℕ
  sum_levels (OnTheRight left) = 0
  sum_levels (InBrackets place) = suc (levels place)
  sum_levels (InSum place var) = suc (levels place)

  pub product_levels : ProductPlace → ℕ
  product_levels (First place) = sum_levels place
  product_levels (BehindPlus place sum) = sum_levels place
  product_levels (BehindMinus place sum) = sum_levels place

  -- the levels that are open at a place
  pub levels : FactorPlace → ℕ
  levels (FirstFactor place) = product_levels place
  levels (BehindTimes place product) = product_levels place
  levels (BehindSign place) = suc (levels place)

-- the name with which a nested sum begins, and the bracket and the variable behind it
abbrev pub sum_begins : Written
sum_begins = written (NameToken sum_name) Plain

abbrev pub opens_at : ℕ → Written
opens_at n = written (MarkToken Open) (Opens (suc n))

abbrev pub binds : Name → Written
binds var = written (NameToken var) Binds

-- what stands before a place
abbrev mutual
  pub before_sum : SumPlace → List Written
  before_sum (OnTheRight left) = left_of left
  before_sum (InBrackets place) = before_factor place ++ (opens_at (levels place) ∷ [])
  before_sum (InSum place var) =
      (((before_factor place ++ (sum_begins ∷ [])) ++ (opens_at (levels place) ∷ [])) ++ (binds var ∷ [])) ++ (plain Comma ∷ [])

  pub before_product : ProductPlace → List Written
  before_product (First place) = before_sum place
  before_product (BehindPlus place sum) = (before_sum place ++ sum_of (sum_levels place) sum) ++ (plain Plus ∷ [])
  before_product (BehindMinus place sum) = (before_sum place ++ sum_of (sum_levels place) sum) ++ (plain Minus ∷ [])

  pub before_factor : FactorPlace → List Written
  before_factor (FirstFactor place) = before_product place
  before_factor (BehindTimes place product) = (before_product place ++ product_of (product_levels place) product) ++ (plain Times ∷ [])
  before_factor (BehindSign place) = before_factor place ++ (written (MarkToken Minus) (Opens (suc (levels place))) ∷ [])

-- the product of which a factor at this place is the last, and the sum of which a product is the last
abbrev pub its_product : FactorPlace → ProductPlace
its_product (FirstFactor place) = place
its_product (BehindTimes place product) = place
its_product (BehindSign place) = its_product place

abbrev pub product_with : FactorPlace → Factor → Product
product_with (FirstFactor place) factor = Lone factor
product_with (BehindTimes place product) factor = Multiplied product factor
product_with (BehindSign place) factor = product_with place (Negated factor)

abbrev pub its_sum : ProductPlace → SumPlace
its_sum (First place) = place
its_sum (BehindPlus place sum) = place
its_sum (BehindMinus place sum) = place

abbrev pub sum_with : ProductPlace → Product → Sum
sum_with (First place) product = Alone product
sum_with (BehindPlus place sum) product = Added sum product
sum_with (BehindMinus place sum) product = Taken sum product

-- the side that an access stands on
pub data Side : Type 0 where
  Left : Side
  Right : FactorPlace → Side

pub data State : Type 0 where
  Start : State
  Named : Side → Name → State
  WantsVariable : Side → Name → List Name → State
  BehindVariable : Side → Name → List Name → Name → State
  BehindLeft : WrittenAccess → State
  WantsFactor : FactorPlace → State
  NamedSum : FactorPlace → State
  WantsBound : FactorPlace → State
  BehindBound : FactorPlace → Name → State
  Behind : ProductPlace → Product → State
  Ended : Tree → State

abbrev pub behind_factor : FactorPlace → Factor → State
behind_factor place factor = Behind (its_product place) (product_with place factor)

abbrev pub behind_access : Side → WrittenAccess → State
behind_access Left access = BehindLeft access
behind_access (Right place) access = behind_factor place (Read access)

-- where a factor's bracket closes, and where a text ends
abbrev pub closed : SumPlace → Sum → Option State
closed (OnTheRight left) sum = None
closed (InBrackets place) sum = Some (behind_factor place (Bracketed sum))
closed (InSum place var) sum = Some (behind_factor place (Summed var sum))

abbrev pub ended : SumPlace → Sum → Option State
ended (OnTheRight left) sum = Some (Ended (record { left = left; right = sum }))
ended (InBrackets place) sum = None
ended (InSum place var) sum = None

-- behind the left side's mark
abbrev pub behind_mark : WrittenAccess → Bool → State
behind_mark access accumulate = WantsFactor (FirstFactor (First (OnTheRight (record { access = access; accumulate = accumulate }))))

abbrev pub step_behind_left : WrittenAccess → Symbol → Option State
step_behind_left access (Lexeme (MarkToken Equals)) = Some (behind_mark access false)
step_behind_left access (Lexeme (MarkToken PlusEquals)) = Some (behind_mark access true)
step_behind_left access _ = None

abbrev pub step_behind : ProductPlace → Product → Symbol → Option State
step_behind place product (Lexeme (MarkToken Times)) = Some (WantsFactor (BehindTimes place product))
step_behind place product (Lexeme (MarkToken Plus)) = Some (WantsFactor (FirstFactor (BehindPlus (its_sum place) (sum_with place product))))
step_behind place product (Lexeme (MarkToken Minus)) =
    Some (WantsFactor (FirstFactor (BehindMinus (its_sum place) (sum_with place product))))
step_behind place product (Lexeme (MarkToken Close)) = closed (its_sum place) (sum_with place product)
step_behind place product End = ended (its_sum place) (sum_with place product)
step_behind place product _ = None

abbrev pub step_scalar : Side → Name → Symbol → Option State
step_scalar Left name symbol = step_behind_left (record { name = name; vars = [] }) symbol
step_scalar (Right place) name symbol =
    step_behind (its_product place) (product_with place (Read (record { name = name; vars = [] }))) symbol

abbrev pub step_named : Side → Name → Symbol → Option State
step_named side name (Lexeme (MarkToken Open)) = Some (WantsVariable side name [])
step_named side name symbol = step_scalar side name symbol

-- behind a name that is `sum` or another one: of the left side, and where a factor is wanted
abbrev pub left_named : Name → Bool → Option State
left_named name true = None
left_named name false = Some (Named Left name)

abbrev pub factor_named : FactorPlace → Name → Bool → State
factor_named place name true = NamedSum place
factor_named place name false = Named (Right place) name

abbrev pub step_start : Symbol → Option State
step_start (Lexeme (NameToken name)) = left_named name (is_sum name)
step_start _ = None

abbrev pub step_wants_variable : Side → Name → List Name → Symbol → Option State
step_wants_variable side name vars (Lexeme (NameToken var)) = Some (BehindVariable side name vars var)
step_wants_variable side name vars _ = None

abbrev pub step_behind_variable : Side → Name → List Name → Name → Symbol → Option State
step_behind_variable side name vars var (Lexeme (MarkToken Comma)) = Some (WantsVariable side name (vars ++ (var ∷ [])))
step_behind_variable side name vars var (Lexeme (MarkToken Close)) =
    Some (behind_access side (record { name = name; vars = vars ++ (var ∷ []) }))
step_behind_variable side name vars var _ = None

abbrev pub step_wants_factor : FactorPlace → Symbol → Option State
step_wants_factor place (Lexeme (NumberToken digits)) = Some (behind_factor place (Digits digits))
step_wants_factor place (Lexeme (NameToken name)) = Some (factor_named place name (is_sum name))
step_wants_factor place (Lexeme (MarkToken Open)) = Some (WantsFactor (FirstFactor (First (InBrackets place))))
step_wants_factor place (Lexeme (MarkToken Minus)) = Some (WantsFactor (BehindSign place))
step_wants_factor place _ = None

abbrev pub step_named_sum : FactorPlace → Symbol → Option State
step_named_sum place (Lexeme (MarkToken Open)) = Some (WantsBound place)
step_named_sum place _ = None

abbrev pub step_wants_bound : FactorPlace → Symbol → Option State
step_wants_bound place (Lexeme (NameToken var)) = Some (BehindBound place var)
step_wants_bound place _ = None

abbrev pub step_behind_bound : FactorPlace → Name → Symbol → Option State
step_behind_bound place var (Lexeme (MarkToken Comma)) = Some (WantsFactor (FirstFactor (First (InSum place var))))
step_behind_bound place var _ = None

-- where a symbol leads
abbrev pub step : State → Symbol → Option State
step Start symbol = step_start symbol
step (Named side name) symbol = step_named side name symbol
step (WantsVariable side name vars) symbol = step_wants_variable side name vars symbol
step (BehindVariable side name vars var) symbol = step_behind_variable side name vars var symbol
step (BehindLeft access) symbol = step_behind_left access symbol
step (WantsFactor place) symbol = step_wants_factor place symbol
step (NamedSum place) symbol = step_named_sum place symbol
step (WantsBound place) symbol = step_wants_bound place symbol
step (BehindBound place var) symbol = step_behind_bound place var symbol
step (Behind place product) symbol = step_behind place product symbol
step (Ended tree) symbol = None

abbrev pub run : State → List Symbol → Option State
run state [] = Some state
run state (symbol ∷ symbols) = option_and_then (λ next. run next symbols) (step state symbol)

-- the number of the variable behind these, the first of them being the n-th
abbrev pub count_on : ℕ → List Name → ℕ
count_on n [] = n
count_on n (var ∷ vars) = count_on (suc n) vars

-- variables, each with its comma
abbrev pub with_commas : ℕ → List Name → List Written
with_commas n [] = []
with_commas n (var ∷ vars) = written (NameToken var) (IsVariable n) ∷ plain Comma ∷ with_commas (suc n) vars

-- an access's name behind what stands before it
abbrev pub named : Side → Name → List Written
named Left name = written (NameToken name) NamesLeft ∷ []
named (Right place) name = before_factor place ++ (written (NameToken name) NamesRight ∷ [])

abbrev pub variables_so_far : Side → Name → List Name → List Written
variables_so_far side name vars = (named side name ++ (plain Open ∷ [])) ++ with_commas 1 vars

-- what has been read
abbrev pub before : State → List Written
before Start = []
before (Named side name) = named side name
before (WantsVariable side name vars) = variables_so_far side name vars
before (BehindVariable side name vars var) =
    variables_so_far side name vars ++ (written (NameToken var) (IsVariable (count_on 1 vars)) ∷ [])
before (BehindLeft access) = access_of NamesLeft access
before (WantsFactor place) = before_factor place
before (NamedSum place) = before_factor place ++ (sum_begins ∷ [])
before (WantsBound place) = (before_factor place ++ (sum_begins ∷ [])) ++ (opens_at (levels place) ∷ [])
before (BehindBound place var) =
    ((before_factor place ++ (sum_begins ∷ [])) ++ (opens_at (levels place) ∷ [])) ++ (binds var ∷ [])
before (Behind place product) = before_product place ++ product_of (product_levels place) product
before (Ended tree) = sentence_of tree

abbrev pub role_of_name : Side → Role
role_of_name Left = NamesLeft
role_of_name (Right place) = NamesRight

abbrev pub role_of_named : Bool → Role
role_of_named true = Plain
role_of_named false = NamesRight

abbrev pub role_of_factor : FactorPlace → Symbol → Role
role_of_factor place (Lexeme (NumberToken digits)) = IsNumber
role_of_factor place (Lexeme (NameToken name)) = role_of_named (is_sum name)
role_of_factor place _ = Opens (suc (levels place))

-- the role of a symbol that leads on
abbrev pub role : State → Symbol → Role
role Start symbol = NamesLeft
role (WantsVariable side name vars) symbol = IsVariable (count_on 1 vars)
role (WantsFactor place) symbol = role_of_factor place symbol
role (NamedSum place) symbol = Opens (suc (levels place))
role (WantsBound place) symbol = Binds
role _ symbol = Plain

abbrev pub read : State → Symbol → Written
read state symbol = record { symbol = symbol; role = role state symbol }
