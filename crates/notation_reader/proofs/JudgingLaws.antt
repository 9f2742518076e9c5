-- How a reader judges a symbol, and how far it has come.
use Rattle.std.specs.Prelude.{◌≡◌, ℕ, Bool, true, false, MatchBool, Option, Some, None, List, [], ◌∷◌, ◌++◌, refl}
use Rattle.std.proofs.Common.{sym, ◌∙◌, ap, subst}
use Rattle.notation_grammar.specs.declared.symbol.Symbol.{Symbol}
use Rattle.notation_grammar.specs.declared.symbol.Symbol.TheVariants.{Lexeme, End, Stray}
use Rattle.notation_grammar.specs.Grammar.{Read, Sum, Tree, Role, symbols}
use Rattle.notation_reader.specs.Machine.{SumPlace, OnTheRight, InBrackets, InSum, its_product, product_with, its_sum, sum_with, Left}
use Rattle.notation_reader.specs.Machine.{Right, State, Start, Named, WantsVariable, BehindVariable, BehindLeft, WantsFactor, NamedSum}
use Rattle.notation_reader.specs.Machine.{WantsBound, BehindBound, Behind, Ended, ended, step, run, before, role}
use Rattle.notation_grammar.specs.declared.fault.SymbolFault.{SymbolFault}
use Rattle.notation_grammar.specs.declared.fault.SymbolFault.TheVariants.{BadNotation}
use Rattle.notation_reader.specs.declared.position.Lead.{Lead}
use Rattle.notation_reader.specs.declared.position.Lead.TheVariants as lead
use Rattle.notation_reader.specs.declared.position.Stand.TheVariants as stand
use Rattle.notation_reader.specs.declared.position.Position.{Position}
use Rattle.notation_reader.specs.declared.counts.Counts.{Counts}
use Rattle.notation_reader.proofs.MachineLaws.{some_is, nothing_leads}
use Rattle.notation_reader.proofs.NameLaws.{AreNamed, tree_names}
use Rattle.notation_reader.proofs.ReadingLaws.{run_parts, run_is_named, first_step, stands_begins}
use Rattle.notation_grammar.specs.Faults.{FaultAt, no_sentence, past_limit, HaveNoFault, IsTreeOf}
use Rattle.notation_reader.proofs.FaultLaws.{nowhere_is_bad, passed_is_fault, taken_has_no_fault, faultless_on, run_on}
use Rattle.notation_reader.specs.Leads.{lead_of}
use Rattle.notation_reader.specs.Shown.{on_the_left, show}
use Rattle.notation_reader.proofs.Doing.{Does}
use Rattle.notation_reader.specs.Judging.{IsRefused, nowhere, passes, IsTaken, IsLast, HasLast}
use Rattle.notation_reader.proofs.ShownLaws.{does}
use Rattle.notation_reader.specs.Moves.{Moves}
use Rattle.notation_reader.proofs.MoveLaws.{Tells, move_tells}
use Rattle.notation_reader.specs.Counting.{IsCounted, CountsSymbol}
use Rattle.notation_reader.proofs.CountLaws.{symbol_judged}

no_fault_due : {A : Type 0} (f : SymbolFault) → ◌≡◌ {A = Option SymbolFault} (Some f) None → A
no_fault_due f e = absurd (let no = e in cc)

refused_by : (at : Lead) (s : State) (t : Symbol) (c d : Counts) (f : SymbolFault) → (next : State) × (step s t ≡ Some next)
    → IsCounted s c → CountsSymbol c (show s).levels t (lead_of (show s).stand t) (Some f) d → IsRefused s t f
refused_by at s t c d f w h k = passes w.0 w.1 (symbol_judged s t w.0 c d (Some f) w.1 h k).fault_is

leads_on : (at : Lead) (o : Option State) (r : Position) (role : Role) (c d : Counts) (l : ℕ) (t : Symbol) (f : SymbolFault)
    → Does o r role at → CountsSymbol c l t at (Some f) d → (next : State) × (o ≡ Some next)
leads_on lead.Nowhere o r role c d l t f w k = no_fault_due f k.0
leads_on (lead.To at) o r role c d l t f w k = (w.0.0, w.0.1)
leads_on (lead.Variable at) o r role c d l t f w k = (w.0.0, w.0.1)
leads_on lead.Number o r role c d l t f w k = (w.0.0, w.0.1)
leads_on lead.Name o r role c d l t f w k = (w.0.0, w.0.1)
leads_on lead.Sum o r role c d l t f w k = no_fault_due f k.0
leads_on lead.Bound o r role c d l t f w k = (w.0.0, w.0.1)
leads_on (lead.Bracket at) o r role c d l t f w k = (w.0.0, w.0.1)
leads_on lead.Minus o r role c d l t f w k = (w.0.0, w.0.1)
leads_on lead.Operator o r role c d l t f w k = (w.0.0, w.0.1)
leads_on lead.Access o r role c d l t f w k = (w.0.0, w.0.1)
leads_on lead.Close o r role c d l t f w k = no_fault_due f k.0
leads_on lead.End o r role c d l t f w k = no_fault_due f k.0

pub counted_refused : (s : State) (r : Position) (t : Symbol) (c d : Counts) (f : SymbolFault) → show s ≡ r → IsCounted s c
    → CountsSymbol c r.levels t (lead_of r.stand t) (Some f) d → IsRefused s t f
counted_refused s r t c d f e h k =
    let at = lead_of (show s).stand t in
    let counts : CountsSymbol c (show s).levels t at (Some f) d =
    subst (λ (x : Position). CountsSymbol c x.levels t (lead_of x.stand t) (Some f) d) (sym e) k in
    refused_by at s t c d f (leads_on at (step s t) (show s) (role s t) c d (show s).levels t f (does s t) counts) h counts

moved_judged : (s : State) (t : Symbol) (c d : Counts) (q : Position) (b : Bool) → IsCounted s c
    → CountsSymbol c (show s).levels t (lead_of (show s).stand t) None d → Tells b (step s t) q
    → MatchBool b (IsTaken s t q d) (IsRefused s t BadNotation)
moved_judged s t c d q true h k w =
    let j = symbol_judged s t w.0 c d None w.1 h k in
    record { next = w.0; steps = w.1; within = j.fault_is; shows = w.2; counted = j.counted refl }
moved_judged s t c d q false h k w = nowhere refl w

pub moved : (s : State) (r : Position) (t : Symbol) (c d : Counts) (q : Position) (b : Bool) → show s ≡ r → IsCounted s c
    → CountsSymbol c r.levels t (lead_of r.stand t) None d → Moves r (lead_of r.stand t) b q
    → MatchBool b (IsTaken s t q d) (IsRefused s t BadNotation)
moved s r t c d q b e h k m =
    let counts = subst (λ (x : Position). CountsSymbol c x.levels t (lead_of x.stand t) None d) (sym e) k in
    let moves = subst (λ (x : Position). Moves x (lead_of x.stand t) b q) (sym e) m in
    moved_judged s t c d q b h counts (move_tells (lead_of (show s).stand t) (step s t) (role s t) (show s) q b moves (does s t))

-- a reader has come behind these symbols, of which none has a fault
pub record Comes (ts : List Symbol) (r : Position) (c : Counts) : Type 0 where
  pub state : State
  pub runs : run Start ts ≡ Some state
  pub shows : show state ≡ r
  pub counted : IsCounted state c
  pub faultless : HaveNoFault [] ts

pub comes_first : Comes [] (on_the_left stand.Nothing) (record { order = 0; vars = []; accesses = 0; operands = 0 })
comes_first = record {
  state = Start;
  runs = refl;
  shows = refl;
  counted =
      record { order = refl; vars = refl; accesses = refl; operands = refl };
  faultless = tt;
}

pub comes_on : (ts : List Symbol) (t : Symbol) (r q : Position) (c d : Counts) → Comes ts r c
    → ((s : State) → show s ≡ r → IsCounted s c → IsTaken s t q d) → Comes (ts ++ (t ∷ [])) q d
comes_on ts t r q c d h j =
    let k = j h.state h.shows h.counted in
    record {
      state = k.next;
      runs = run_on ts t Start h.state k.next h.runs k.steps;
      shows = k.shows;
      counted = k.counted;
      faultless = faultless_on [] ts t h.faultless (taken_has_no_fault ts t h.state k.next h.runs k.steps k.within);
    }

pub fault_of : (ts : List Symbol) (t : Symbol) (s : State) (f : SymbolFault) → run Start ts ≡ Some s → IsRefused s t f → FaultAt ts t f
fault_of ts t s f e h = elim h [
  | nowhere is none ↦ no_sentence is (nowhere_is_bad ts t s e none)
  | passes next steps passed ↦ past_limit (passed_is_fault ts t s next f e steps passed)
]

ended_so : (at : SumPlace) (s : Sum) (next : State) → ended at s ≡ Some next → (w : Tree) × (next ≡ Ended w)
ended_so (OnTheRight left) s next e = (record { left = left; right = s }, sym (some_is (Ended (record { left = left; right = s })) next e))
ended_so (InBrackets place) s next e = nothing_leads next e
ended_so (InSum place var) s next e = nothing_leads next e

end_so : (s next : State) → step s End ≡ Some next → (w : Tree) × (next ≡ Ended w)
end_so Start next e = nothing_leads next e
end_so (Named Left name) next e = nothing_leads next e
end_so (Named (Right place) name) next e =
    ended_so (its_sum (its_product place))
    (sum_with (its_product place) (product_with place (Read (record { name = name; vars = [] })))) next e
end_so (WantsVariable side name vars) next e = nothing_leads next e
end_so (BehindVariable side name vars var) next e = nothing_leads next e
end_so (BehindLeft access) next e = nothing_leads next e
end_so (WantsFactor place) next e = nothing_leads next e
end_so (NamedSum place) next e = nothing_leads next e
end_so (WantsBound place) next e = nothing_leads next e
end_so (BehindBound place var) next e = nothing_leads next e
end_so (Behind place p) next e = ended_so (its_sum place) (sum_with place p) next e
end_so (Ended tree) next e = nothing_leads next e

stray_so : {A : Type 0} (s next : State) → step s Stray ≡ Some next → A
stray_so Start next e = nothing_leads next e
stray_so (Named Left name) next e = nothing_leads next e
stray_so (Named (Right place) name) next e = nothing_leads next e
stray_so (WantsVariable side name vars) next e = nothing_leads next e
stray_so (BehindVariable side name vars var) next e = nothing_leads next e
stray_so (BehindLeft access) next e = nothing_leads next e
stray_so (WantsFactor place) next e = nothing_leads next e
stray_so (NamedSum place) next e = nothing_leads next e
stray_so (WantsBound place) next e = nothing_leads next e
stray_so (BehindBound place var) next e = nothing_leads next e
stray_so (Behind place p) next e = nothing_leads next e
stray_so (Ended tree) next e = nothing_leads next e

last_so : (t : Symbol) (s next : State) → IsLast t → step s t ≡ Some next → (w : Tree) × (next ≡ Ended w)
last_so End s next h e = end_so s next e
last_so Stray s next h e = stray_so s next e
last_so (Lexeme token) s next h e = absurd h

pub tree_found : (ts : List Symbol) (r : Position) (c : Counts) → HasLast ts → Comes ts r c → (w : Tree) × IsTreeOf ts w
tree_found ts r c l h =
    let ran : run Start (l.front ++ (l.last ∷ [])) ≡ Some h.state = ap (run Start) (sym l.is) ∙ h.runs in
    let p = run_parts l.front (l.last ∷ []) Start h.state ran in
    let f = first_step (step p.0 l.last) [] h.state p.2 in
    let same : f.0 ≡ h.state = some_is f.0 h.state f.2 in
    let w = last_so l.last p.0 f.0 l.ends f.1 in
    let there : h.state ≡ Ended w.0 = sym same ∙ w.1 in
    let b = stands_begins ts h.state h.runs in (
      w.0,
      record {
        is = sym b.1 ∙ ap (λ (s : State). symbols (before s)) there;
        names = tree_names w.0
            (subst (λ (s : State). AreNamed (before s)) there (run_is_named ts Start h.state h.runs tt));
        within = h.faultless;
      },
    )
