-- A reader's next step decides the fault of a symbol.
use Rattle.std.specs.Prelude.{◌≡◌, Option, Some, None, List, [], ◌∷◌, ◌++◌, refl}
use Rattle.std.proofs.Common.{sym, ◌∙◌, ap, subst, append_assoc}
use Rattle.notation_grammar.specs.declared.symbol.Symbol.{Symbol}
use Rattle.notation_grammar.specs.declared.fault.SymbolFault.{SymbolFault}
use Rattle.notation_grammar.specs.Grammar.{Written, symbols, Begins}
use Rattle.notation_reader.specs.Machine.{State, Start, step, run, before, read}
use Rattle.notation_reader.proofs.MachineLaws.{grows}
use Rattle.notation_reader.proofs.ReadingLaws.{begun_stands, stands_begins, run_parts, stepped, first_step, append_none}
use Rattle.notation_grammar.specs.Faults.{limit_passed, PastLimit, BeginsNone, no_sentence, past_limit, HasNoFault, HaveNoFault}

-- a run goes on by a step
pub run_on : (earlier : List Symbol) (t : Symbol) (s last next : State) → run s earlier ≡ Some last → step last t ≡ Some next
    → run s (earlier ++ (t ∷ [])) ≡ Some next
run_on [] t s last next e h =
    let same : s ≡ last = cc in
    stepped s t (Some next) [] (ap (λ (x : State). step x t) same ∙ h)
run_on (u ∷ earlier) t s last next e h =
    let f = first_step (step s u) earlier last e in
    stepped s u (Some f.0) (earlier ++ (t ∷ [])) f.1 ∙ run_on earlier t f.0 last next f.2 h

-- the last step of a run
last_step : (earlier : List Symbol) (t : Symbol) (s last end : State) → run s earlier ≡ Some last → run s (earlier ++ (t ∷ [])) ≡ Some end
    → step last t ≡ Some end
last_step earlier t s last end e k =
    let p = run_parts earlier (t ∷ []) s end k in
    let same : last ≡ p.0 = (let both : ◌≡◌ {A = Option State} (Some last) (Some p.0) = sym e ∙ p.1 in cc) in
    let f = first_step (step p.0 t) [] end p.2 in
    let there : f.0 ≡ end = (let g = f.2 in cc) in
    ap (λ (x : State). step x t) same ∙ f.1 ∙ ap (λ (x : State). Some x) there

pub nowhere_is_bad : (earlier : List Symbol) (t : Symbol) (s : State) → run Start earlier ≡ Some s → step s t ≡ None
    → BeginsNone (earlier ++ (t ∷ []))
nowhere_is_bad earlier t s e h ms begins same =
    let b = begun_stands ms begins in
    let ran : run Start (earlier ++ (t ∷ [])) ≡ Some b.0 = ap (run Start) (sym same) ∙ b.1.0 in
    let some = last_step earlier t Start s b.0 e ran in
    let no : ◌≡◌ {A = Option State} None (Some b.0) = sym h ∙ some in
    cc

pub passed_is_fault : (earlier : List Symbol) (t : Symbol) (s next : State) (fault : SymbolFault) → run Start earlier ≡ Some s
    → step s t ≡ Some next → limit_passed (read s t).role t (before s ++ (read s t ∷ [])) ≡ Some fault → PastLimit earlier t fault
passed_is_fault earlier t s next fault e h passed =
    let b = stands_begins (earlier ++ (t ∷ [])) next (run_on earlier t Start s next e h) in
    let g = grows s t next h in
    record {
      front = before s;
      last = read s t;
      begins = subst Begins g b.0;
      symbols_are = ap symbols (sym g) ∙ b.1;
      passed = passed;
    }

-- lists with one element more are equal only where both parts are
pub last_once : {A : Type 0} (xs ys : List A) (x y : A) → xs ++ (x ∷ []) ≡ ys ++ (y ∷ []) → (xs ≡ ys) × (x ≡ y)
last_once [] [] x y e = let h : x ≡ y = cc in (refl, h)
last_once [] (b ∷ []) x y e = absurd (let no = e in cc)
last_once [] (b ∷ c ∷ ys) x y e = absurd (let no = e in cc)
last_once (a ∷ []) [] x y e = absurd (let no = e in cc)
last_once (a ∷ c ∷ xs) [] x y e = absurd (let no = e in cc)
last_once {A} (a ∷ xs) (b ∷ ys) x y e =
    let first : a ≡ b = cc in
    let others : xs ++ (x ∷ []) ≡ ys ++ (y ∷ []) = cc in
    let r = last_once xs ys x y others in
    let behind : xs ≡ ys = r.0 in
    let both : ◌≡◌ {A = List A} (a ∷ xs) (b ∷ ys) = cc in
    (both, r.1)

bad_no_more : (earlier : List Symbol) (t : Symbol) (s next : State) → run Start earlier ≡ Some s → step s t ≡ Some next
    → BeginsNone (earlier ++ (t ∷ [])) → ⊥
bad_no_more earlier t s next e h none =
    let b = stands_begins (earlier ++ (t ∷ [])) next (run_on earlier t Start s next e h) in
    none (before next) b.0 b.1

past_no_more : (earlier : List Symbol) (t : Symbol) (s next : State) (fault : SymbolFault) → run Start earlier ≡ Some s
    → step s t ≡ Some next → limit_passed (read s t).role t (before s ++ (read s t ∷ [])) ≡ None → PastLimit earlier t fault → ⊥
past_no_more earlier t s next fault e h none p =
    let b = begun_stands (p.front ++ (p.last ∷ [])) p.begins in
    let ran : run Start (earlier ++ (t ∷ [])) ≡ Some b.0 = ap (run Start) (sym p.symbols_are) ∙ b.1.0 in
    let there : next ≡ b.0 = (let both : ◌≡◌ {A = Option State} (Some next) (Some b.0) = sym h
    ∙ last_step earlier t Start s b.0 e ran in cc) in
    let whole : before s ++ (read s t ∷ []) ≡ p.front ++ (p.last ∷ []) = sym (grows s t next h) ∙ ap before there ∙ b.1.1 in
    let last : read s t ≡ p.last = (last_once (before s) p.front (read s t) p.last whole).1 in
    let same : limit_passed (read s t).role t (before s ++ (read s t ∷ [])) ≡ limit_passed p.last.role p.last.symbol (p.front
    ++ (p.last ∷ [])) =
    ap (λ (m : Written). limit_passed m.role m.symbol (before s ++ (read s t ∷ []))) last
    ∙ ap (λ (ms : List Written). limit_passed p.last.role p.last.symbol ms) whole in
    let no : ◌≡◌ {A = Option SymbolFault} None (Some fault) = sym none ∙ same ∙ p.passed in
    cc

pub taken_has_no_fault : (earlier : List Symbol) (t : Symbol) (s next : State) → run Start earlier ≡ Some s → step s t ≡ Some next
    → limit_passed (read s t).role t (before s ++ (read s t ∷ [])) ≡ None → HasNoFault earlier t
taken_has_no_fault earlier t s next e h none fault f = elim f [
  | no_sentence is bad ↦ bad_no_more earlier t s next e h bad
  | past_limit p ↦ past_no_more earlier t s next fault e h none p
]

pub faultless_on : (earlier ts : List Symbol) (t : Symbol) → HaveNoFault earlier ts → HasNoFault (earlier ++ ts) t
    → HaveNoFault earlier (ts ++ (t ∷ []))
faultless_on earlier [] t h k = (subst (λ (xs : List Symbol). HasNoFault xs t) (append_none earlier) k, tt)
faultless_on earlier (u ∷ ts) t h k = (
  h.0,
  faultless_on (earlier
      ++ (u ∷ [])) ts t h.1 (subst (λ (xs : List Symbol). HasNoFault xs t) (sym (append_assoc earlier (u ∷ []) ts)) k),
)
