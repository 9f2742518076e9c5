-- What a symbol does at a stand of the reader.
use Rattle.std.specs.Prelude.{Bool, true, false}
use Rattle.index_notation.specs.declared.token.Mark.{Mark}
use Rattle.index_notation.specs.declared.token.Mark.TheVariants.{Equals, PlusEquals, Plus, Minus, Times, Open, Close, Comma}
use Rattle.index_notation.specs.declared.token.Token.TheVariants.{Name as NameToken, Number as NumberToken, Mark as MarkToken}
use Rattle.notation_grammar.specs.declared.symbol.Symbol.{Symbol}
use Rattle.notation_grammar.specs.declared.symbol.Symbol.TheVariants.{Lexeme, End, Stray}
use Rattle.notation_grammar.specs.Grammar.{is_sum}
use Rattle.notation_reader.specs.declared.position.Stand.{Stand}
use Rattle.notation_reader.specs.declared.position.Stand.TheVariants as stand
use Rattle.notation_reader.specs.declared.position.Lead.{Lead}
use Rattle.notation_reader.specs.declared.position.Lead.TheVariants as lead

abbrev pub left_name_leads : Mark → Lead
left_name_leads Open = lead.To stand.LeftOpen
left_name_leads Equals = lead.To stand.Operator
left_name_leads PlusEquals = lead.To stand.Operator
left_name_leads _ = lead.Nowhere

abbrev pub left_variable_leads : Mark → Lead
left_variable_leads Comma = lead.To stand.LeftOpen
left_variable_leads Close = lead.To stand.LeftAccess
left_variable_leads _ = lead.Nowhere

abbrev pub left_access_leads : Mark → Lead
left_access_leads Equals = lead.To stand.Operator
left_access_leads PlusEquals = lead.To stand.Operator
left_access_leads _ = lead.Nowhere

abbrev pub operator_leads : Mark → Lead
operator_leads Open = lead.Bracket stand.Operator
operator_leads Minus = lead.Minus
operator_leads _ = lead.Nowhere

abbrev pub factor_leads : Mark → Lead
factor_leads Times = lead.Operator
factor_leads Plus = lead.Operator
factor_leads Minus = lead.Operator
factor_leads Close = lead.Close
factor_leads _ = lead.Nowhere

abbrev pub name_leads : Mark → Lead
name_leads Open = lead.To stand.Open
name_leads Times = lead.Operator
name_leads Plus = lead.Operator
name_leads Minus = lead.Operator
name_leads Close = lead.Close
name_leads _ = lead.Nowhere

abbrev pub variable_leads : Mark → Lead
variable_leads Comma = lead.To stand.Open
variable_leads Close = lead.Access
variable_leads _ = lead.Nowhere

abbrev pub sum_name_leads : Mark → Lead
sum_name_leads Open = lead.Bracket stand.SumOpen
sum_name_leads _ = lead.Nowhere

abbrev pub sum_variable_leads : Mark → Lead
sum_variable_leads Comma = lead.To stand.Operator
sum_variable_leads _ = lead.Nowhere

abbrev pub mark_leads : Stand → Mark → Lead
mark_leads stand.LeftName mark = left_name_leads mark
mark_leads stand.LeftVariable mark = left_variable_leads mark
mark_leads stand.LeftAccess mark = left_access_leads mark
mark_leads stand.Operator mark = operator_leads mark
mark_leads stand.Name mark = name_leads mark
mark_leads stand.Variable mark = variable_leads mark
mark_leads stand.Factor mark = factor_leads mark
mark_leads stand.SumName mark = sum_name_leads mark
mark_leads stand.SumVariable mark = sum_variable_leads mark
mark_leads _ mark = lead.Nowhere

-- a name that is `sum` or another one
abbrev pub left_named_leads : Bool → Lead
left_named_leads true = lead.Nowhere
left_named_leads false = lead.To stand.LeftName

abbrev pub factor_named_leads : Bool → Lead
factor_named_leads true = lead.Sum
factor_named_leads false = lead.Name

abbrev pub name_token_leads : Stand → Bool → Lead
name_token_leads stand.Nothing sum = left_named_leads sum
name_token_leads stand.LeftOpen sum = lead.Variable stand.LeftVariable
name_token_leads stand.Operator sum = factor_named_leads sum
name_token_leads stand.Open sum = lead.Variable stand.Variable
name_token_leads stand.SumOpen sum = lead.Bound
name_token_leads _ sum = lead.Nowhere

abbrev pub number_leads : Stand → Lead
number_leads stand.Operator = lead.Number
number_leads _ = lead.Nowhere

abbrev pub end_leads : Stand → Lead
end_leads stand.Name = lead.End
end_leads stand.Factor = lead.End
end_leads _ = lead.Nowhere

abbrev pub lead_of : Stand → Symbol → Lead
lead_of at (Lexeme (NameToken name)) = name_token_leads at (is_sum name)
lead_of at (Lexeme (NumberToken digits)) = number_leads at
lead_of at (Lexeme (MarkToken mark)) = mark_leads at mark
lead_of at End = end_leads at
lead_of at Stray = lead.Nowhere
