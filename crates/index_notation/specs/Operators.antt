-- In what the operators of two sides differ.
use Rattle.std.specs.Prelude.{Bool, true, false, ◌||◌, ◌&&◌}
use Rattle.index_notation.specs.declared.operator.Operator.{Operator}
use Rattle.index_notation.specs.declared.operator.Operator.TheVariants as op

-- whether it takes its second side away
abbrev pub is_minus : Operator → Bool
is_minus op.Add = false
is_minus op.Sub = true
is_minus op.Mul = false

-- whether it multiplies its sides
abbrev pub is_product : Operator → Bool
is_product op.Add = false
is_product op.Sub = false
is_product op.Mul = true

-- whether the whole is there, by its sides: a product where both are, a sum or a difference where one is
abbrev pub is_there : Operator → Bool → Bool → Bool
is_there op.Add first second = first || second
is_there op.Sub first second = first || second
is_there op.Mul first second = first && second
