-- What the reader of the code counts.
use Rattle.std.specs.Prelude.{◌≡◌, ℕ, ◌+◌, Option, None, length}
use Rattle.limits.specs.Limits.{greatest_nesting, greatest_order, greatest_variables, greatest_accesses, greatest_operands}
use Rattle.limits.specs.Limits.{greatest_literal}
use Rattle.index_notation.specs.Numbering.{distinct}
use Rattle.index_notation.specs.declared.syntax.Name.{Name}
use Rattle.index_notation.specs.declared.token.Token.TheVariants.{Name as NameToken}
use Rattle.notation_grammar.specs.declared.symbol.Symbol.{Symbol}
use Rattle.notation_grammar.specs.declared.symbol.Symbol.TheVariants.{Lexeme}
use Rattle.notation_grammar.specs.declared.fault.Counted.TheVariants.{Order, Variables, Accesses, Operands}
use Rattle.notation_grammar.specs.declared.fault.SymbolFault.{SymbolFault}
use Rattle.notation_grammar.specs.declared.fault.SymbolFault.TheVariants.{TooDeep, TooMany, LiteralRange}
use Rattle.notation_reader.specs.declared.position.Lead.{Lead}
use Rattle.notation_reader.specs.declared.position.Lead.TheVariants as lead
use Rattle.notation_reader.specs.declared.counts.Counts.{Counts}
use Rattle.notation_reader.specs.Machine.{State, Start, Named, WantsVariable, BehindVariable, BehindLeft, WantsFactor, NamedSum}
use Rattle.notation_reader.specs.Machine.{WantsBound, BehindBound, Behind, Ended, before}
use Rattle.notation_grammar.specs.Faults.{above, number_of, variables_in, accesses_in, operands_in}
use Rattle.notation_reader.specs.Added.{with_name}

-- so many variables of the access that is read
abbrev pub OrderIs : State → ℕ → Type 0
OrderIs Start n = n ≡ 0
OrderIs (Named side name) n = n ≡ 0
OrderIs (WantsVariable side name vars) n = n ≡ length vars
OrderIs (BehindVariable side name vars var) n = n ≡ length vars + 1
OrderIs (BehindLeft access) n = Unit {0}
OrderIs (WantsFactor place) n = Unit {0}
OrderIs (NamedSum place) n = Unit {0}
OrderIs (WantsBound place) n = Unit {0}
OrderIs (BehindBound place var) n = Unit {0}
OrderIs (Behind place p) n = Unit {0}
OrderIs (Ended tree) n = Unit {0}

pub record IsCounted (s : State) (c : Counts) : Type 0 where
  pub order : OrderIs s c.order
  pub vars : c.vars ≡ distinct (variables_in (before s))
  pub accesses : c.accesses ≡ accesses_in (before s)
  pub operands : c.operands ≡ operands_in (before s)

abbrev pub with_variable : Name → Counts → Counts
with_variable name c = record { order = c.order + 1; vars = with_name c.vars name; accesses = c.accesses; operands = c.operands }

abbrev pub with_bound : Name → Counts → Counts
with_bound name c = record { order = c.order; vars = with_name c.vars name; accesses = c.accesses; operands = c.operands }

abbrev pub with_access : Counts → Counts
with_access c = record { order = 0; vars = c.vars; accesses = c.accesses + 1; operands = c.operands + 1 }

abbrev pub with_number : Counts → Counts
with_number c = record { order = c.order; vars = c.vars; accesses = c.accesses; operands = c.operands + 1 }

abbrev pub variable_fault : Counts → Name → Option SymbolFault
variable_fault c name =
    above greatest_order (c.order + 1) (TooMany Order)
    (above greatest_variables (length (with_name c.vars name)) (TooMany Variables) None)

abbrev pub bound_fault : Counts → Name → Option SymbolFault
bound_fault c name = above greatest_variables (length (with_name c.vars name)) (TooMany Variables) None

abbrev pub access_fault : Counts → Option SymbolFault
access_fault c =
    above greatest_accesses (c.accesses + 1) (TooMany Accesses)
    (above greatest_operands (c.operands + 1) (TooMany Operands) None)

abbrev pub number_fault : Counts → Symbol → Option SymbolFault
number_fault c symbol =
    above greatest_operands (c.operands + 1) (TooMany Operands)
    (above greatest_literal (number_of symbol) LiteralRange None)

abbrev pub level_fault : ℕ → Option SymbolFault
level_fault levels = above greatest_nesting (levels + 1) TooDeep None

-- a fault, or the counts after a symbol
abbrev pub CountsAs : Option SymbolFault → Counts → Option SymbolFault → Counts → Type 0
CountsAs due after fault new = (fault ≡ due) × (due ≡ None → new ≡ after)

abbrev pub CountsSymbol : Counts → ℕ → Symbol → Lead → Option SymbolFault → Counts → Type 0
CountsSymbol c levels symbol (lead.Bracket at) fault new = CountsAs (level_fault levels) c fault new
CountsSymbol c levels symbol lead.Minus fault new = CountsAs (level_fault levels) c fault new
CountsSymbol c levels symbol (lead.Variable at) fault new =
    (name : Name) → symbol ≡ Lexeme (NameToken name) → CountsAs (variable_fault c name) (with_variable name c) fault new
CountsSymbol c levels symbol lead.Bound fault new =
    (name : Name) → symbol ≡ Lexeme (NameToken name) → CountsAs (bound_fault c name) (with_bound name c) fault new
CountsSymbol c levels symbol lead.Name fault new = CountsAs (access_fault c) (with_access c) fault new
CountsSymbol c levels symbol lead.Number fault new = CountsAs (number_fault c symbol) (with_number c) fault new
CountsSymbol c levels symbol _ fault new = CountsAs None c fault new
