-- What the reader of the code keeps of a place in the grammar.
use Rattle.std.specs.Prelude.{ℕ, ◌+◌, ◌-◌, List, [], ◌∷◌, ◌++◌}
use Rattle.notation_reader.specs.declared.position.Stand.{Stand}
use Rattle.notation_reader.specs.declared.position.Stand.TheVariants as stand
use Rattle.notation_reader.specs.declared.position.Position.{Position}
use Rattle.notation_reader.specs.Machine.{SumPlace, OnTheRight, InBrackets, InSum, ProductPlace, First, BehindPlus, BehindMinus}
use Rattle.notation_reader.specs.Machine.{FactorPlace, FirstFactor, BehindTimes, BehindSign, product_levels, levels, Side, Left, Right}
use Rattle.notation_reader.specs.Machine.{State, Start, Named, WantsVariable, BehindVariable, BehindLeft, WantsFactor, NamedSum}
use Rattle.notation_reader.specs.Machine.{WantsBound, BehindBound, Behind, Ended}

-- the prefix minuses right before a place
abbrev pub minuses_of : FactorPlace → ℕ
minuses_of (FirstFactor place) = 0
minuses_of (BehindTimes place product) = 0
minuses_of (BehindSign place) = minuses_of place + 1

-- for each bracket that is open the prefix minuses right before it, the outermost first
abbrev mutual
  pub outer_of_sum : SumPlace → List ℕ
  outer_of_sum (OnTheRight left) = []
  outer_of_sum (InBrackets place) = outer_of place ++ (minuses_of place ∷ [])
  outer_of_sum (InSum place var) = outer_of place ++ (minuses_of place ∷ [])

  pub outer_of_product : ProductPlace → List ℕ
  outer_of_product (First place) = outer_of_sum place
  outer_of_product (BehindPlus place sum) = outer_of_sum place
  outer_of_product (BehindMinus place sum) = outer_of_sum place

  pub outer_of : FactorPlace → List ℕ
  outer_of (FirstFactor place) = outer_of_product place
  outer_of (BehindTimes place product) = outer_of_product place
  outer_of (BehindSign place) = outer_of place

abbrev pub on_the_left : Stand → Position
on_the_left at = record { stand = at; levels = 0; minuses = 0; outer = [] }

abbrev pub at_place : Stand → FactorPlace → Position
at_place at place = record { stand = at; levels = levels place; minuses = minuses_of place; outer = outer_of place }

abbrev pub at_side : Stand → Stand → Side → Position
at_side left right Left = on_the_left left
at_side left right (Right place) = at_place right place

-- behind the bracket of a nested sum
abbrev pub at_bound : Stand → FactorPlace → Position
at_bound at place = record { stand = at; levels = levels place + 1; minuses = 0; outer = outer_of place ++ (minuses_of place ∷ []) }

abbrev pub show : State → Position
show Start = on_the_left stand.Nothing
show (Named side name) = at_side stand.LeftName stand.Name side
show (WantsVariable side name vars) = at_side stand.LeftOpen stand.Open side
show (BehindVariable side name vars var) = at_side stand.LeftVariable stand.Variable side
show (BehindLeft access) = on_the_left stand.LeftAccess
show (WantsFactor place) = at_place stand.Operator place
show (NamedSum place) = at_place stand.SumName place
show (WantsBound place) = at_bound stand.SumOpen place
show (BehindBound place var) = at_bound stand.SumVariable place
show (Behind place product) = record { stand = stand.Factor; levels = product_levels place; minuses = 0; outer = outer_of_product place }
show (Ended tree) = on_the_left stand.End

-- a reader behind the whole factor
abbrev pub finished : Position → Position
finished r = record { stand = stand.Factor; levels = r.levels - r.minuses; minuses = 0; outer = r.outer }

abbrev pub with_stand : Stand → Position → Position
with_stand at r = record { stand = at; levels = r.levels; minuses = r.minuses; outer = r.outer }

abbrev pub in_bracket : Stand → Position → Position
in_bracket at r = record { stand = at; levels = r.levels + 1; minuses = 0; outer = r.outer ++ (r.minuses ∷ []) }

abbrev pub behind_sign : Position → Position
behind_sign r = record { stand = stand.Operator; levels = r.levels + 1; minuses = r.minuses + 1; outer = r.outer }

abbrev pub out_of_bracket : Position → List ℕ → ℕ → Position
out_of_bracket r front m = finished (record { stand = stand.Factor; levels = (r.levels - r.minuses) - 1; minuses = m; outer = front })
