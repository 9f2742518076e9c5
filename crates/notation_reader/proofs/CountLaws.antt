-- The reader's counts are those of what it has read.
use Rattle.std.specs.Prelude.{◌≡◌, Bool, true, false, ℕ, suc, ◌+◌, Option, Some, None, List, [], ◌∷◌, ◌++◌, length, refl}
use Rattle.std.proofs.Common.{sym, ◌∙◌, ap, subst, arith, append_assoc, length-append}
use Rattle.index_notation.specs.declared.syntax.Name.{Name}
use Rattle.index_notation.specs.declared.token.Mark.TheVariants.{Equals, PlusEquals, Plus, Minus, Times, Open, Close, Comma}
use Rattle.index_notation.specs.declared.token.Token.TheVariants.{Name as NameToken, Number as NumberToken, Mark as MarkToken}
use Rattle.index_notation.specs.declared.token.WrittenAccess.{WrittenAccess}
use Rattle.notation_grammar.specs.declared.symbol.Symbol.{Symbol}
use Rattle.notation_grammar.specs.declared.symbol.Symbol.TheVariants.{Lexeme, End}
use Rattle.notation_grammar.specs.Grammar.{Digits, Read, Bracketed, Summed, Product, Sum, Role, NamesLeft, NamesRight, IsVariable, Binds}
use Rattle.notation_grammar.specs.Grammar.{IsNumber, Opens, Plain, Written, is_sum}
use Rattle.notation_reader.specs.Machine.{SumPlace, OnTheRight, InBrackets, InSum, ProductPlace, First, BehindPlus, BehindMinus}
use Rattle.notation_reader.specs.Machine.{FactorPlace, FirstFactor, BehindTimes, BehindSign, levels, its_product, product_with, its_sum}
use Rattle.notation_reader.specs.Machine.{sum_with, Side, Left, Right, State, Start, Named, WantsVariable, BehindVariable, BehindLeft}
use Rattle.notation_reader.specs.Machine.{WantsFactor, NamedSum, WantsBound, BehindBound, Behind, Ended, behind_factor, behind_mark}
use Rattle.notation_reader.specs.Machine.{closed, ended, left_named, factor_named, step_behind, step, count_on, before, role, read}
use Rattle.limits.specs.Limits.{greatest_order, greatest_variables, greatest_accesses, greatest_operands, greatest_literal}
use Rattle.index_notation.specs.Numbering.{distinct}
use Rattle.notation_grammar.specs.declared.fault.Counted.TheVariants.{Order, Variables, Accesses, Operands}
use Rattle.notation_grammar.specs.declared.fault.SymbolFault.{SymbolFault}
use Rattle.notation_grammar.specs.declared.fault.SymbolFault.TheVariants.{TooMany, LiteralRange}
use Rattle.notation_reader.specs.declared.position.Lead.{Lead}
use Rattle.notation_reader.specs.declared.position.Lead.TheVariants as lead
use Rattle.notation_reader.specs.declared.counts.Counts.{Counts}
use Rattle.notation_reader.proofs.MachineLaws.{grows, some_is, nothing_leads, append_none}
use Rattle.notation_grammar.specs.Faults.{above, number_of, variable_at, access_at, operand_at, variables_in, accesses_in, operands_in}
use Rattle.notation_grammar.specs.Faults.{limit_passed}
use Rattle.notation_reader.specs.Added.{with_name}
use Rattle.notation_reader.proofs.Adding.{distinct_more}
use Rattle.notation_reader.specs.Leads.{left_named_leads, factor_named_leads, lead_of}
use Rattle.notation_reader.specs.Shown.{show}
use Rattle.notation_reader.proofs.Doing.{Does, IsUncounted}
use Rattle.notation_reader.proofs.ShownLaws.{does}
use Rattle.notation_reader.specs.Counting.{OrderIs, IsCounted, with_variable, with_bound, with_access, with_number, variable_fault}
use Rattle.notation_reader.specs.Counting.{bound_fault, access_fault, number_fault, level_fault, CountsAs, CountsSymbol}

pub variables_more : (ms : List Written) (m : Written) → variables_in (ms ++ (m ∷ [])) ≡ variables_in ms ++ variable_at m.role m.symbol
variables_more [] m = append_none (variable_at m.role m.symbol)
variables_more (n ∷ ms) m = ap (λ (ns : List Name). variable_at n.role n.symbol ++ ns) (variables_more ms m)
    ∙ sym (append_assoc (variable_at n.role n.symbol) (variables_in ms) (variable_at m.role m.symbol))

accesses_more : (ms : List Written) (m : Written) → accesses_in (ms ++ (m ∷ [])) ≡ accesses_in ms + access_at m.role
accesses_more [] m = omega arith
accesses_more (n ∷ ms) m = let h = accesses_more ms m in omega (arith, h)

operands_more : (ms : List Written) (m : Written) → operands_in (ms ++ (m ∷ [])) ≡ operands_in ms + operand_at m.role
operands_more [] m = omega arith
operands_more (n ∷ ms) m = let h = operands_more ms m in omega (arith, h)

count_is : (n : ℕ) (vars : List Name) → count_on n vars ≡ n + length vars
count_is n [] = omega arith
count_is n (var ∷ vars) = let h = count_is (suc n) vars in omega (arith, h)

abbrev OrdersAs : State → Symbol → State → ℕ → Lead → Type 0
OrdersAs s t next n (lead.Variable at) = OrderIs next (n + 1) × (role s t ≡ IsVariable (n + 1))
    × ((name : Name) × (t ≡ Lexeme (NameToken name)))
OrdersAs s t next n lead.Bound = OrderIs next n × ((name : Name) × (t ≡ Lexeme (NameToken name)))
OrdersAs s t next n lead.Name = OrderIs next 0
OrdersAs s t next n _ = OrderIs next n

ordered : (s : State) (t : Symbol) (n : ℕ) (at : Lead) (x next : State) → ◌≡◌ {A = Option State} (Some x) (Some next)
    → OrdersAs s t x n at → OrdersAs s t next n at
ordered s t n at x next e h = subst (λ (y : State). OrdersAs s t y n at) (some_is x next e) h

order_to : (n : ℕ) (x next : State) → ◌≡◌ {A = Option State} (Some x) (Some next) → OrderIs x n → OrderIs next n
order_to n x next e h = subst (λ (y : State). OrderIs y n) (some_is x next e) h

closed_order : (at : SumPlace) (s : Sum) (next : State) (n : ℕ) → closed at s ≡ Some next → OrderIs next n
closed_order (OnTheRight left) s next n e = nothing_leads next e
closed_order (InBrackets place) s next n e = order_to n (behind_factor place (Bracketed s)) next e tt
closed_order (InSum place var) s next n e = order_to n (behind_factor place (Summed var s)) next e tt

ended_order : (at : SumPlace) (s : Sum) (next : State) (n : ℕ) → ended at s ≡ Some next → OrderIs next n
ended_order (OnTheRight left) s next n e = order_to n (Ended (record { left = left; right = s })) next e tt
ended_order (InBrackets place) s next n e = nothing_leads next e
ended_order (InSum place var) s next n e = nothing_leads next e

behind_order : (place : ProductPlace) (p : Product) (t : Symbol) (next : State) (n : ℕ) → step_behind place p t ≡ Some next → OrderIs next n
behind_order place p (Lexeme (MarkToken Times)) next n e = order_to n (WantsFactor (BehindTimes place p)) next e tt
behind_order place p (Lexeme (MarkToken Plus)) next n e =
    order_to n (WantsFactor (FirstFactor (BehindPlus (its_sum place) (sum_with place p)))) next e tt
behind_order place p (Lexeme (MarkToken Minus)) next n e =
    order_to n (WantsFactor (FirstFactor (BehindMinus (its_sum place) (sum_with place p)))) next e tt
behind_order place p (Lexeme (MarkToken Close)) next n e = closed_order (its_sum place) (sum_with place p) next n e
behind_order place p End next n e = ended_order (its_sum place) (sum_with place p) next n e
behind_order place p _ next n e = nothing_leads next e

abbrev Ordered : State → Type 0
Ordered s = (t : Symbol) (next : State) (n : ℕ) → step s t ≡ Some next → OrderIs s n → OrdersAs s t next n (lead_of (show s).stand t)

left_named_order : (name : Name) (b : Bool) (next : State) (n : ℕ) → left_named name b ≡ Some next → n ≡ 0
    → OrdersAs Start (Lexeme (NameToken name)) next n (left_named_leads b)
left_named_order name true next n e h = nothing_leads next e
left_named_order name false next n e h = order_to n (Named Left name) next e h

start_order : Ordered Start
start_order (Lexeme (NameToken name)) next n e h = left_named_order name (is_sum name) next n e h
start_order _ next n e h = nothing_leads next e

left_name_order : (name : Name) → Ordered (Named Left name)
left_name_order name (Lexeme (MarkToken Open)) next n e h = order_to n (WantsVariable Left name []) next e h
left_name_order name (Lexeme (MarkToken Equals)) next n e h =
    order_to n (behind_mark (record { name = name; vars = [] }) false) next e tt
left_name_order name (Lexeme (MarkToken PlusEquals)) next n e h =
    order_to n (behind_mark (record { name = name; vars = [] }) true) next e tt
left_name_order name _ next n e h = nothing_leads next e

right_name_order : (place : FactorPlace) (name : Name) → Ordered (Named (Right place) name)
right_name_order place name (Lexeme (MarkToken Open)) next n e h = order_to n (WantsVariable (Right place) name []) next e h
right_name_order place name (Lexeme (MarkToken Times)) next n e h =
    behind_order (its_product place) (product_with place (Read (record { name = name; vars = [] }))) (Lexeme (MarkToken Times)) next n e
right_name_order place name (Lexeme (MarkToken Plus)) next n e h =
    behind_order (its_product place) (product_with place (Read (record { name = name; vars = [] }))) (Lexeme (MarkToken Plus)) next n e
right_name_order place name (Lexeme (MarkToken Minus)) next n e h =
    behind_order (its_product place) (product_with place (Read (record { name = name; vars = [] }))) (Lexeme (MarkToken Minus)) next n e
right_name_order place name (Lexeme (MarkToken Close)) next n e h =
    behind_order (its_product place) (product_with place (Read (record { name = name; vars = [] }))) (Lexeme (MarkToken Close)) next n e
right_name_order place name End next n e h =
    behind_order (its_product place) (product_with place (Read (record { name = name; vars = [] }))) End next n e
right_name_order place name _ next n e h = nothing_leads next e

variable_order : (side : Side) (name : Name) (vars : List Name) (var : Name) (next : State) (n : ℕ)
    → step (WantsVariable side name vars) (Lexeme (NameToken var)) ≡ Some next → n ≡ length vars
    → OrderIs next (n + 1) × (IsVariable (count_on 1 vars) ≡ IsVariable (n + 1))
    × ((other : Name) × (◌≡◌ {A = Symbol} (Lexeme (NameToken var)) (Lexeme (NameToken other))))
variable_order side name vars var next n e h = (
  order_to (n + 1) (BehindVariable side name vars var) next e (omega (arith, h)),
  ap (λ k. IsVariable k) (let c =
      count_is 1 vars in let k : count_on 1 vars ≡ n + 1 = omega (arith, c, h) in k),
  (var, refl),
)

wants_variable_order : (side : Side) (name : Name) (vars : List Name) → Ordered (WantsVariable side name vars)
wants_variable_order Left name vars (Lexeme (NameToken var)) next n e h = variable_order Left name vars var next n e h
wants_variable_order (Right place) name vars (Lexeme (NameToken var)) next n e h = variable_order (Right place) name vars var next n e h
wants_variable_order Left name vars _ next n e h = nothing_leads next e
wants_variable_order (Right place) name vars _ next n e h = nothing_leads next e

more_order : (vars : List Name) (var : Name) (n : ℕ) → n ≡ length vars + 1 → n ≡ length (vars ++ (var ∷ []))
more_order vars var n h = let k = length-append vars (var ∷ []) in omega (arith, k, h)

behind_variable_order : (side : Side) (name : Name) (vars : List Name) (var : Name) → Ordered (BehindVariable side name vars var)
behind_variable_order Left name vars var (Lexeme (MarkToken Comma)) next n e h =
    order_to n (WantsVariable Left name (vars ++ (var ∷ []))) next e (more_order vars var n h)
behind_variable_order Left name vars var (Lexeme (MarkToken Close)) next n e h =
    order_to n (BehindLeft (record { name = name; vars = vars ++ (var ∷ []) })) next e tt
behind_variable_order Left name vars var _ next n e h = nothing_leads next e
behind_variable_order (Right place) name vars var (Lexeme (MarkToken Comma)) next n e h =
    order_to n (WantsVariable (Right place) name (vars ++ (var ∷ []))) next e (more_order vars var n h)
behind_variable_order (Right place) name vars var (Lexeme (MarkToken Close)) next n e h =
    order_to n (behind_factor place (Read (record { name = name; vars = vars ++ (var ∷ []) }))) next e tt
behind_variable_order (Right place) name vars var _ next n e h = nothing_leads next e

left_order : (access : WrittenAccess) → Ordered (BehindLeft access)
left_order access (Lexeme (MarkToken Equals)) next n e h = order_to n (behind_mark access false) next e tt
left_order access (Lexeme (MarkToken PlusEquals)) next n e h = order_to n (behind_mark access true) next e tt
left_order access _ next n e h = nothing_leads next e

factor_named_order : (place : FactorPlace) (name : Name) (b : Bool) (next : State) (n : ℕ)
    → ◌≡◌ {A = Option State} (Some (factor_named place name b)) (Some next)
    → OrdersAs (WantsFactor place) (Lexeme (NameToken name)) next n (factor_named_leads b)
factor_named_order place name true next n e = order_to n (NamedSum place) next e tt
factor_named_order place name false next n e = order_to 0 (Named (Right place) name) next e refl

wants_order : (place : FactorPlace) → Ordered (WantsFactor place)
wants_order place (Lexeme (NumberToken digits)) next n e h = order_to n (behind_factor place (Digits digits)) next e tt
wants_order place (Lexeme (NameToken name)) next n e h = factor_named_order place name (is_sum name) next n e
wants_order place (Lexeme (MarkToken Open)) next n e h = order_to n (WantsFactor (FirstFactor (First (InBrackets place)))) next e tt
wants_order place (Lexeme (MarkToken Minus)) next n e h = order_to n (WantsFactor (BehindSign place)) next e tt
wants_order place _ next n e h = nothing_leads next e

named_sum_order : (place : FactorPlace) → Ordered (NamedSum place)
named_sum_order place (Lexeme (MarkToken Open)) next n e h = order_to n (WantsBound place) next e tt
named_sum_order place _ next n e h = nothing_leads next e

wants_bound_order : (place : FactorPlace) → Ordered (WantsBound place)
wants_bound_order place (Lexeme (NameToken var)) next n e h = (order_to n (BehindBound place var) next e tt, (var, refl))
wants_bound_order place _ next n e h = nothing_leads next e

bound_order : (place : FactorPlace) (var : Name) → Ordered (BehindBound place var)
bound_order place var (Lexeme (MarkToken Comma)) next n e h =
    order_to n (WantsFactor (FirstFactor (First (InSum place var)))) next e tt
bound_order place var _ next n e h = nothing_leads next e

behind_factor_order : (place : ProductPlace) (p : Product) → Ordered (Behind place p)
behind_factor_order place p (Lexeme (MarkToken Times)) next n e h = behind_order place p (Lexeme (MarkToken Times)) next n e
behind_factor_order place p (Lexeme (MarkToken Plus)) next n e h = behind_order place p (Lexeme (MarkToken Plus)) next n e
behind_factor_order place p (Lexeme (MarkToken Minus)) next n e h = behind_order place p (Lexeme (MarkToken Minus)) next n e
behind_factor_order place p (Lexeme (MarkToken Close)) next n e h = behind_order place p (Lexeme (MarkToken Close)) next n e
behind_factor_order place p End next n e h = behind_order place p End next n e
behind_factor_order place p _ next n e h = nothing_leads next e

orders : (s : State) → Ordered s
orders Start t next n e h = start_order t next n e h
orders (Named Left name) t next n e h = left_name_order name t next n e h
orders (Named (Right place) name) t next n e h = right_name_order place name t next n e h
orders (WantsVariable side name vars) t next n e h = wants_variable_order side name vars t next n e h
orders (BehindVariable side name vars var) t next n e h = behind_variable_order side name vars var t next n e h
orders (BehindLeft access) t next n e h = left_order access t next n e h
orders (WantsFactor place) t next n e h = wants_order place t next n e h
orders (NamedSum place) t next n e h = named_sum_order place t next n e h
orders (WantsBound place) t next n e h = wants_bound_order place t next n e h
orders (BehindBound place var) t next n e h = bound_order place var t next n e h
orders (Behind place p) t next n e h = behind_factor_order place p t next n e h
orders (Ended tree) t next n e h = nothing_leads next e

-- what a symbol in a role adds
uncounted_passes : (r : Role) (t : Symbol) (all : List Written) → IsUncounted r → limit_passed r t all ≡ None
uncounted_passes NamesLeft t all h = refl
uncounted_passes Plain t all h = refl
uncounted_passes NamesRight t all h = absurd h
uncounted_passes (IsVariable n) t all h = absurd h
uncounted_passes Binds t all h = absurd h
uncounted_passes IsNumber t all h = absurd h
uncounted_passes (Opens n) t all h = absurd h

uncounted_adds : (r : Role) (t : Symbol) → IsUncounted r → (variable_at r t ≡ []) × (access_at r ≡ 0) × (operand_at r ≡ 0)
uncounted_adds NamesLeft t h = (refl, refl, refl)
uncounted_adds Plain t h = (refl, refl, refl)
uncounted_adds NamesRight t h = absurd h
uncounted_adds (IsVariable n) t h = absurd h
uncounted_adds Binds t h = absurd h
uncounted_adds IsNumber t h = absurd h
uncounted_adds (Opens n) t h = absurd h

-- the counts after a symbol
pub record Adds (s : State) (t : Symbol) (next : State) (c d : Counts) : Type 0 where
  pub order : OrderIs next d.order
  pub vars : d.vars ≡ distinct (variables_in (before s) ++ variable_at (role s t) t)
  pub accesses : d.accesses ≡ c.accesses + access_at (role s t)
  pub operands : d.operands ≡ c.operands + operand_at (role s t)

adds_counted : (s : State) (t : Symbol) (next : State) (c d : Counts) → step s t ≡ Some next → IsCounted s c → Adds s t next c d
    → IsCounted next d
adds_counted s t next c d e h a =
    let g = grows s t next e in
    record {
      order = a.order;
      vars = a.vars ∙ sym (ap (λ (ms : List Written). distinct (variables_in ms)) g ∙ ap distinct (variables_more (before s) (read s t)));
      accesses = a.accesses ∙ ap (λ n. n + access_at (role s t)) h.accesses ∙ sym (ap accesses_in g ∙ accesses_more (before s) (read s t));
      operands = a.operands ∙ ap (λ n. n + operand_at (role s t)) h.operands ∙ sym (ap operands_in g ∙ operands_more (before s) (read s t));
    }

plus_none : (n m : ℕ) → m ≡ 0 → n ≡ n + m
plus_none n m e = omega (arith, e)

-- a symbol that adds nothing
adds_none : (s : State) (t : Symbol) (next : State) (c : Counts) → IsCounted s c → OrderIs next c.order → variable_at (role s t) t ≡ []
    → access_at (role s t) ≡ 0 → operand_at (role s t) ≡ 0 → Adds s t next c c
adds_none s t next c h o v a p = record {
  order = o;
  vars = h.vars ∙ ap distinct (sym (append_none (variables_in (before s)))
      ∙ ap (λ (ns : List Name). variables_in (before s) ++ ns) (sym v));
  accesses = plus_none c.accesses (access_at (role s t)) a;
  operands = plus_none c.operands (operand_at (role s t)) p;
}

-- a symbol is judged and counted
pub record IsJudged (s : State) (t : Symbol) (next : State) (fault : Option SymbolFault) (d : Counts) : Type 0 where
  pub fault_is : limit_passed (role s t) t (before s ++ (read s t ∷ [])) ≡ fault
  pub counted : fault ≡ None → IsCounted next d

judged : (s : State) (t : Symbol) (next : State) (c after d : Counts) (due fault : Option SymbolFault) → step s t ≡ Some next
    → IsCounted s c → CountsAs due after fault d → limit_passed (role s t) t (before s ++ (read s t ∷ [])) ≡ due → Adds s t next c after
    → IsJudged s t next fault d
judged s t next c after d due fault e h k l a = record {
  fault_is = l ∙ sym k.0;
  counted = λ none. subst (IsCounted next) (sym (k.1 (sym k.0 ∙ none))) (adds_counted s t next c after e h a);
}

uncounted_judged : (s : State) (t : Symbol) (next : State) (c d : Counts) (fault : Option SymbolFault) → step s t ≡ Some next
    → IsCounted s c → CountsAs None c fault d → IsUncounted (role s t) → OrderIs next c.order → IsJudged s t next fault d
uncounted_judged s t next c d fault e h k u o =
    let a = uncounted_adds (role s t) t u in
    judged s t next c c d None fault e h k (uncounted_passes (role s t) t (before s ++ (read s t ∷ [])) u)
    (adds_none s t next c h o a.0 a.1 a.2)

level_judged : (s : State) (t : Symbol) (next : State) (c d : Counts) (fault : Option SymbolFault) (levels : ℕ) → step s t ≡ Some next
    → IsCounted s c → CountsAs (level_fault levels) c fault d → role s t ≡ Opens (levels + 1) → OrderIs next c.order
    → IsJudged s t next fault d
level_judged s t next c d fault levels e h k r o =
    judged s t next c c d (level_fault levels) fault e h k (ap (λ x. limit_passed x t (before s ++ (read s t ∷ []))) r)
    (adds_none s t next c h o (ap (λ x. variable_at x t) r) (ap access_at r) (ap operand_at r))

name_judged : (s : State) (t : Symbol) (next : State) (c d : Counts) (fault : Option SymbolFault) → step s t ≡ Some next → IsCounted s c
    → CountsAs (access_fault c) (with_access c) fault d → role s t ≡ NamesRight → OrderIs next 0 → IsJudged s t next fault d
name_judged s t next c d fault e h k r o =
    let all = before s ++ (read s t ∷ []) in
    let accesses : accesses_in all ≡ c.accesses + 1 = accesses_more (before s) (read s t) ∙ (λ i. sym h.accesses i + access_at (r i)) in
    let operands : operands_in all ≡ c.operands + 1 = operands_more (before s) (read s t) ∙ (λ i. sym h.operands i + operand_at (r i)) in
    judged s t next c (with_access c) d (access_fault c) fault e h k
    (ap (λ x. limit_passed x t all) r
    ∙ (λ i. above greatest_accesses (accesses i) (TooMany Accesses) (above greatest_operands (operands i) (TooMany Operands) None)))
    (record {
      order = o;
      vars = h.vars ∙ ap distinct (sym (append_none (variables_in (before s)))
          ∙ ap (λ x. variables_in (before s) ++ variable_at x t) (sym r));
      accesses = ap (λ x. c.accesses + access_at x) (sym r);
      operands = ap (λ x. c.operands + operand_at x) (sym r);
    })

number_judged : (s : State) (t : Symbol) (next : State) (c d : Counts) (fault : Option SymbolFault) → step s t ≡ Some next → IsCounted s c
    → CountsAs (number_fault c t) (with_number c) fault d → role s t ≡ IsNumber → OrderIs next c.order → IsJudged s t next fault d
number_judged s t next c d fault e h k r o =
    let all = before s ++ (read s t ∷ []) in
    let operands : operands_in all ≡ c.operands + 1 = operands_more (before s) (read s t) ∙ (λ i. sym h.operands i + operand_at (r i)) in
    judged s t next c (with_number c) d (number_fault c t) fault e h k
    (ap (λ x. limit_passed x t all) r
    ∙ (λ i. above greatest_operands (operands i) (TooMany Operands) (above greatest_literal (number_of t) LiteralRange None)))
    (record {
      order = o;
      vars = h.vars ∙ ap distinct (sym (append_none (variables_in (before s)))
          ∙ ap (λ x. variables_in (before s) ++ variable_at x t) (sym r));
      accesses = plus_none c.accesses (access_at (role s t)) (ap access_at r);
      operands = ap (λ x. c.operands + operand_at x) (sym r);
    })

one_more_variable : (s : State) (t : Symbol) (c : Counts) (name : Name) → IsCounted s c → variable_at (role s t) t ≡ name ∷ []
    → distinct (variables_in (before s) ++ variable_at (role s t) t) ≡ with_name c.vars name
one_more_variable s t c name h one =
    ap (λ (ns : List Name). distinct (variables_in (before s) ++ ns)) one ∙ distinct_more (variables_in (before s)) name
    ∙ ap (λ (ns : List Name). with_name ns name) (sym h.vars)

variable_judged : (s : State) (t : Symbol) (next : State) (c d : Counts) (fault : Option SymbolFault) (name : Name) → step s t ≡ Some next
    → IsCounted s c → CountsAs (variable_fault c name) (with_variable name c) fault d → role s t ≡ IsVariable (c.order + 1)
    → t ≡ Lexeme (NameToken name) → OrderIs next (c.order + 1) → IsJudged s t next fault d
variable_judged s t next c d fault name e h k r is o =
    let all = before s ++ (read s t ∷ []) in
    let vars = one_more_variable s t c name h (λ i. variable_at (r i) (is i)) in
    let whole : distinct (variables_in all) ≡ with_name c.vars name = ap distinct (variables_more (before s) (read s t)) ∙ vars in
    judged s t next c (with_variable name c) d (variable_fault c name) fault e h k
    (ap (λ x. limit_passed x t all) r
    ∙ ap (λ (ns : List Name). above greatest_order (c.order + 1) (TooMany Order)
    (above greatest_variables (length ns) (TooMany Variables) None)) whole)
    (record {
      order = o;
      vars = sym vars;
      accesses = plus_none c.accesses (access_at (role s t)) (ap access_at r);
      operands = plus_none c.operands (operand_at (role s t)) (ap operand_at r);
    })

bound_judged : (s : State) (t : Symbol) (next : State) (c d : Counts) (fault : Option SymbolFault) (name : Name) → step s t ≡ Some next
    → IsCounted s c → CountsAs (bound_fault c name) (with_bound name c) fault d → role s t ≡ Binds → t ≡ Lexeme (NameToken name)
    → OrderIs next c.order → IsJudged s t next fault d
bound_judged s t next c d fault name e h k r is o =
    let all = before s ++ (read s t ∷ []) in
    let vars = one_more_variable s t c name h (λ i. variable_at (r i) (is i)) in
    let whole : distinct (variables_in all) ≡ with_name c.vars name = ap distinct (variables_more (before s) (read s t)) ∙ vars in
    judged s t next c (with_bound name c) d (bound_fault c name) fault e h k
    (ap (λ x. limit_passed x t all) r
    ∙ ap (λ (ns : List Name). above greatest_variables (length ns) (TooMany Variables) None) whole)
    (record {
      order = o;
      vars = sym vars;
      accesses = plus_none c.accesses (access_at (role s t)) (ap access_at r);
      operands = plus_none c.operands (operand_at (role s t)) (ap operand_at r);
    })

by_lead : (at : Lead) (s : State) (t : Symbol) (next : State) (c d : Counts) (fault : Option SymbolFault) → step s t ≡ Some next
    → IsCounted s c → CountsSymbol c (show s).levels t at fault d → Does (step s t) (show s) (role s t) at → OrdersAs s t next c.order at
    → IsJudged s t next fault d
by_lead lead.Nowhere s t next c d fault e h k w o = nothing_leads next (sym w ∙ e)
by_lead (lead.To at) s t next c d fault e h k w o = uncounted_judged s t next c d fault e h k w.1 o
by_lead (lead.Variable at) s t next c d fault e h k w o = variable_judged s t next c d fault o.2.0 e h (k o.2.0 o.2.1) o.1 o.2.1 o.0
by_lead lead.Number s t next c d fault e h k w o = number_judged s t next c d fault e h k w.1 o
by_lead lead.Name s t next c d fault e h k w o = name_judged s t next c d fault e h k w.1 o
by_lead lead.Sum s t next c d fault e h k w o = uncounted_judged s t next c d fault e h k w.1 o
by_lead lead.Bound s t next c d fault e h k w o = bound_judged s t next c d fault o.1.0 e h (k o.1.0 o.1.1) w.1 o.1.1 o.0
by_lead (lead.Bracket at) s t next c d fault e h k w o = level_judged s t next c d fault (show s).levels e h k w.1 o
by_lead lead.Minus s t next c d fault e h k w o = level_judged s t next c d fault (show s).levels e h k w.1 o
by_lead lead.Operator s t next c d fault e h k w o = uncounted_judged s t next c d fault e h k w.1 o
by_lead lead.Access s t next c d fault e h k w o = uncounted_judged s t next c d fault e h k w.1 o
by_lead lead.Close s t next c d fault e h k w o = uncounted_judged s t next c d fault e h k w.2 o
by_lead lead.End s t next c d fault e h k w o = uncounted_judged s t next c d fault e h k w.2 o

-- each symbol that leads on is judged and counted
pub symbol_judged : (s : State) (t : Symbol) (next : State) (c d : Counts) (fault : Option SymbolFault) → step s t ≡ Some next
    → IsCounted s c → CountsSymbol c (show s).levels t (lead_of (show s).stand t) fault d → IsJudged s t next fault d
symbol_judged s t next c d fault e h k =
    by_lead (lead_of (show s).stand t) s t next c d fault e h k (does s t) (orders s t next c.order e h.order)
