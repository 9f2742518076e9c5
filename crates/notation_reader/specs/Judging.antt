-- What a judgement of a symbol tells.
use Rattle.std.specs.Prelude.{◌≡◌, Option, Some, None, List, [], ◌∷◌, ◌++◌}
use Rattle.notation_grammar.specs.declared.symbol.Symbol.{Symbol}
use Rattle.notation_grammar.specs.declared.symbol.Symbol.TheVariants.{Lexeme, End, Stray}
use Rattle.notation_grammar.specs.declared.fault.SymbolFault.{SymbolFault}
use Rattle.notation_grammar.specs.declared.fault.SymbolFault.TheVariants.{BadNotation}
use Rattle.notation_grammar.specs.Faults.{limit_passed}
use Rattle.notation_reader.specs.declared.position.Position.{Position}
use Rattle.notation_reader.specs.declared.counts.Counts.{Counts}
use Rattle.notation_reader.specs.Machine.{State, step, before, role, read}
use Rattle.notation_reader.specs.Shown.{show}
use Rattle.notation_reader.specs.Counting.{IsCounted}

-- a symbol is refused at a state
pub data IsRefused (s : State) (t : Symbol) (f : SymbolFault) : Type 0 where
  nowhere : f ≡ BadNotation → step s t ≡ None → IsRefused s t f
  passes : (next : State) → step s t ≡ Some next →
      limit_passed (role s t) t (before s ++ (read s t ∷ [])) ≡ Some f → IsRefused s t f

-- a symbol is taken at a state, and leads to one that the reader shows
pub record IsTaken (s : State) (t : Symbol) (r : Position) (c : Counts) : Type 0 where
  pub next : State
  pub steps : step s t ≡ Some next
  pub within : limit_passed (role s t) t (before s ++ (read s t ∷ [])) ≡ None
  pub shows : show next ≡ r
  pub counted : IsCounted next c

abbrev pub Judges : State → Symbol → Option SymbolFault → Position → Counts → Type 0
Judges s t None r c = IsTaken s t r c
Judges s t (Some f) r c = IsRefused s t f

-- the end of a text, or a byte that begins no token
abbrev pub IsLast : Symbol → Type 0
IsLast End = Unit {0}
IsLast Stray = Unit {0}
IsLast (Lexeme token) = ⊥

pub record HasLast (ts : List Symbol) : Type 0 where
  pub front : List Symbol
  pub last : Symbol
  pub is : ts ≡ front ++ (last ∷ [])
  pub ends : IsLast last
