-- Signs have one answer: a tree within the limits, or the place and the fault of the first faulty symbol.
use Rattle.std.specs.Prelude.{◌≡◌, ℕ, Option, Some, List, [], ◌∷◌, ◌++◌, refl}
use Rattle.std.proofs.Common.{sym, ◌∙◌, ap, subst, append_assoc}
use Rattle.notation_grammar.specs.declared.symbol.PlacedSymbol.{PlacedSymbol}
use Rattle.notation_grammar.specs.declared.symbol.Symbol.{Symbol}
use Rattle.notation_grammar.specs.declared.fault.SymbolFault.{SymbolFault}
use Rattle.notation_grammar.specs.Grammar.{Tree}
use Rattle.notation_reader.proofs.ReadingLaws.{one_reading, append_none}
use Rattle.notation_reader.proofs.FaultLaws.{last_once}
use Rattle.notation_grammar.specs.Faults.{limit_passed, PastLimit, BeginsNone, FaultAt, no_sentence, past_limit, HasNoFault, HaveNoFault}
use Rattle.notation_grammar.specs.Faults.{symbols_of, IsFirstFault, IsTreeOf}

pub symbols_append : (ps qs : List PlacedSymbol) → symbols_of (ps ++ qs) ≡ symbols_of ps ++ symbols_of qs
symbols_append [] qs = refl
symbols_append (p ∷ ps) qs = ap (λ (ts : List Symbol). p.symbol ∷ ts) (symbols_append ps qs)

-- how two places in a list stand to each other
pub data Places (a b : List PlacedSymbol) (t u : PlacedSymbol) : Type 0 where
  same : a ≡ b → t ≡ u → Places a b t u
  before : (c : List PlacedSymbol) → b ≡ a ++ (t ∷ c) → Places a b t u
  behind : (c : List PlacedSymbol) → a ≡ b ++ (u ∷ c) → Places a b t u

one_on : (x : PlacedSymbol) (a b : List PlacedSymbol) (t u : PlacedSymbol) → Places a b t u → Places (x ∷ a) (x ∷ b) t u
one_on x a b t u p = elim p [
  | same e f ↦ same (ap (λ (l : List PlacedSymbol). x ∷ l) e) f
  | before c e ↦ before c (ap (λ (l : List PlacedSymbol). x ∷ l) e)
  | behind c e ↦ behind c (ap (λ (l : List PlacedSymbol). x ∷ l) e)
]

places : (a b : List PlacedSymbol) (t u : PlacedSymbol) (r q : List PlacedSymbol) → a ++ (t ∷ r) ≡ b ++ (u ∷ q) → Places a b t u
places [] [] t u r q e = same refl (let h : t ≡ u = cc in h)
places [] (y ∷ b) t u r q e = before b (let h : t ≡ y = cc in ap (λ (z : PlacedSymbol). z ∷ b) (sym h))
places (x ∷ a) [] t u r q e = behind a (let h : x ≡ u = cc in ap (λ (z : PlacedSymbol). z ∷ a) h)
places (x ∷ a) (y ∷ b) t u r q e =
    let first : x ≡ y = cc in
    let others : a ++ (t ∷ r) ≡ b ++ (u ∷ q) = cc in
    subst (λ (z : PlacedSymbol). Places (x ∷ a) (z ∷ b) t u) first (one_on x a b t u (places a b t u r q others))

pub none_at : (e a : List Symbol) (t : Symbol) (r : List Symbol) → HaveNoFault e (a ++ (t ∷ r)) → HasNoFault (e ++ a) t
none_at e [] t r h = subst (λ (x : List Symbol). HasNoFault x t) (sym (append_none e)) h.0
none_at e (x ∷ a) t r h = subst (λ (z : List Symbol). HasNoFault z t) (append_assoc e (x ∷ []) a) (none_at (e ++ (x ∷ [])) a t r h.1)

past_once : (a : List Symbol) (t : Symbol) (f g : SymbolFault) → PastLimit a t f → PastLimit a t g → f ≡ g
past_once a t f g p q =
    let whole : p.front ++ (p.last ∷ []) ≡ q.front
    ++ (q.last ∷ []) = one_reading (p.front ++ (p.last ∷ [])) (q.front ++ (q.last ∷ [])) p.begins q.begins (p.symbols_are
    ∙ sym q.symbols_are) in
    let last : p.last ≡ q.last = (last_once p.front q.front p.last q.last whole).1 in
    let limits : limit_passed p.last.role p.last.symbol (p.front ++ (p.last ∷ [])) ≡ limit_passed q.last.role q.last.symbol (q.front
    ++ (q.last ∷ [])) = λ i. limit_passed (last i).role (last i).symbol (whole i) in
    let both : ◌≡◌ {A = Option SymbolFault} (Some f) (Some g) = sym p.passed ∙ limits ∙ q.passed in
    cc

never_both : {A : Type 0} (a : List Symbol) (t : Symbol) (f : SymbolFault) → BeginsNone (a ++ (t ∷ [])) → PastLimit a t f → A
never_both a t f none p = absurd (none (p.front ++ (p.last ∷ [])) p.begins p.symbols_are)

fault_once : (a : List Symbol) (t : Symbol) (f g : SymbolFault) → FaultAt a t f → FaultAt a t g → f ≡ g
fault_once a t f g (no_sentence e n) (no_sentence k m) = e ∙ sym k
fault_once a t f g (no_sentence e n) (past_limit q) = never_both a t g n q
fault_once a t f g (past_limit p) (no_sentence k m) = never_both a t f m p
fault_once a t f g (past_limit p) (past_limit q) = past_once a t f g p q

-- where the first faulty symbol stands earlier, there is a fault before the other
never_earlier : {A : Type 0} (a b c : List PlacedSymbol) (t : PlacedSymbol) (f : SymbolFault) → b ≡ a ++ (t ∷ c)
    → FaultAt (symbols_of a) t.symbol f → HaveNoFault [] (symbols_of b) → A
never_earlier a b c t f e h k =
    let parts : symbols_of b ≡ symbols_of a ++ (t.symbol ∷ symbols_of c) = ap symbols_of e ∙ symbols_append a (t ∷ c) in
    absurd (none_at [] (symbols_of a) t.symbol (symbols_of c) (subst (λ (l : List Symbol). HaveNoFault [] l) parts k) f h)

-- symbols have one first fault
pub first_once : (ps : List PlacedSymbol) (at by : ℕ) (f g : SymbolFault) → IsFirstFault ps at f → IsFirstFault ps by g
    → (at ≡ by) × (f ≡ g)
first_once ps at by f g h k = elim (places h.earlier k.earlier h.faulty k.faulty h.later k.later (sym h.all_are ∙ k.all_are)) [
  | same e s ↦ (
    sym h.place ∙ ap (λ (p : PlacedSymbol). p.at) s ∙ k.place,
    fault_once (symbols_of k.earlier) k.faulty.symbol f g
        (subst (λ (x : PlacedSymbol). FaultAt (symbols_of k.earlier) x.symbol f) s
        (subst (λ (l : List PlacedSymbol). FaultAt (symbols_of l) h.faulty.symbol f) e h.is)) k.is,
  )
  | before c e ↦ never_earlier h.earlier k.earlier c h.faulty f e h.is k.none_before
  | behind c e ↦ never_earlier k.earlier h.earlier c k.faulty g e k.is h.none_before
]

-- and no tree within the limits beside it
pub tree_or_fault : (ps : List PlacedSymbol) (w : Tree) (at : ℕ) (f : SymbolFault) → IsTreeOf (symbols_of ps) w → IsFirstFault ps at f → ⊥
tree_or_fault ps w at f h k = never_earlier k.earlier ps k.later k.faulty f k.all_are k.is h.within
