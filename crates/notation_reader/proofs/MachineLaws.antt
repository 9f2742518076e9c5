-- What a reader has read grows by each symbol that leads on; each state can be led to an end; a sentence is read to its
-- end. So some sentence begins with the symbols exactly where a reader takes them all, and their roles are its own.
use Rattle.std.specs.Prelude.{◌≡◌, Bool, true, false, ℕ, suc, Option, Some, None, List, [], ◌∷◌, ◌++◌, refl}
use Rattle.std.proofs.Common.{sym, ◌∙◌, ap, subst, append_assoc}
use Rattle.index_notation.specs.declared.syntax.Name.{Name}
use Rattle.index_notation.specs.declared.token.Mark.TheVariants.{Equals, PlusEquals, Plus, Minus, Times, Open, Close, Comma}
use Rattle.index_notation.specs.declared.token.Token.TheVariants.{Name as NameToken, Number as NumberToken, Mark as MarkToken}
use Rattle.index_notation.specs.declared.token.WrittenAccess.{WrittenAccess}
use Rattle.notation_grammar.specs.declared.symbol.Symbol.{Symbol}
use Rattle.notation_grammar.specs.declared.symbol.Symbol.TheVariants.{Lexeme, End}
use Rattle.notation_grammar.specs.Grammar.{Factor, Digits, Read, Bracketed, Negated, Summed, Product, Sum, Role, NamesLeft, NamesRight}
use Rattle.notation_grammar.specs.Grammar.{IsVariable, Opens, Plain, Written, written, plain, the_end, access_of, factor_of, product_of}
use Rattle.notation_grammar.specs.Grammar.{sum_of, more_variables, in_brackets, sum_name, is_sum}
use Rattle.index_notation.proofs.NumberingLaws.{same_names}
use Rattle.notation_reader.specs.Machine.{SumPlace, OnTheRight, InBrackets, InSum, ProductPlace, First, BehindPlus, BehindMinus}
use Rattle.notation_reader.specs.Machine.{FactorPlace, FirstFactor, BehindTimes, BehindSign, sum_levels, product_levels, levels}
use Rattle.notation_reader.specs.Machine.{sum_begins, opens_at, binds, before_sum, before_product, before_factor, its_product}
use Rattle.notation_reader.specs.Machine.{product_with, its_sum, sum_with, Side, Left, Right, State, Start, Named, WantsVariable}
use Rattle.notation_reader.specs.Machine.{BehindVariable, BehindLeft, WantsFactor, NamedSum, WantsBound, BehindBound, Behind, Ended}
use Rattle.notation_reader.specs.Machine.{behind_factor, behind_mark, behind_access, closed, ended, left_named, factor_named}
use Rattle.notation_reader.specs.Machine.{step_behind, step, count_on, with_commas, named, role_of_named, before, read}

pub append_none : {A : Type 0} (xs : List A) → xs ++ [] ≡ xs
append_none [] = refl
append_none (x ∷ xs) = ap (λ ys. x ∷ ys) (append_none xs)

regrouped : (a b c : List Written) (m : Written) → a ++ (b ++ (m ∷ c)) ≡ ((a ++ b) ++ (m ∷ [])) ++ c
regrouped a b c m = sym (append_assoc (a ++ b) (m ∷ []) c ∙ append_assoc a b (m ∷ c))

pub some_is : (x y : State) → ◌≡◌ {A = Option State} (Some x) (Some y) → x ≡ y
some_is x y e = cc

pub nothing_leads : {A : Type 0} (y : State) → ◌≡◌ {A = Option State} None (Some y) → A
nothing_leads y e = absurd (let no = e in cc)

-- a factor behind its place
factor_behind : (place : FactorPlace) (f : Factor) → before (behind_factor place f) ≡ before_factor place ++ factor_of (levels place) f
factor_behind (FirstFactor place) f = refl
factor_behind (BehindTimes place p) f =
    regrouped (before_product place) (product_of (product_levels place) p) (factor_of (product_levels place) f) (plain Times)
factor_behind (BehindSign place) f = factor_behind place (Negated f)
    ∙ sym (append_assoc (before_factor place) (written (MarkToken Minus) (Opens (suc (levels place)))
    ∷ []) (factor_of (suc (levels place)) f))

-- a product behind its place is the last of a sum
sum_behind : (place : ProductPlace) (p : Product)
    → before_sum (its_sum place) ++ sum_of (sum_levels (its_sum place)) (sum_with place p) ≡ before_product place
    ++ product_of (product_levels place) p
sum_behind (First place) p = refl
sum_behind (BehindPlus place s) p =
    regrouped (before_sum place) (sum_of (sum_levels place) s) (product_of (sum_levels place) p) (plain Plus)
sum_behind (BehindMinus place s) p =
    regrouped (before_sum place) (sum_of (sum_levels place) s) (product_of (sum_levels place) p) (plain Minus)

commas : (n : ℕ) (vars : List Name) (var : Name)
    → with_commas n (vars ++ (var ∷ [])) ≡ with_commas n vars ++ (written (NameToken var) (IsVariable (count_on n vars)) ∷ plain Comma ∷ [])
commas n [] var = refl
commas n (v ∷ vars) var = ap (λ (ms : List Written). written (NameToken v) (IsVariable n) ∷ plain Comma ∷ ms) (commas (suc n) vars var)

more_closed : (n : ℕ) (vars : List Name) (var : Name)
    → more_variables n (vars ++ (var ∷ [])) ≡ plain Comma
    ∷ (with_commas n vars ++ (written (NameToken var) (IsVariable (count_on n vars)) ∷ plain Close ∷ []))
more_closed n [] var = refl
more_closed n (v ∷ vars) var =
    ap (λ (ms : List Written). plain Comma ∷ written (NameToken v) (IsVariable n) ∷ ms) (more_closed (suc n) vars var)

brackets_closed : (vars : List Name) (var : Name)
    → in_brackets (vars ++ (var ∷ [])) ≡ plain Open
    ∷ (with_commas 1 vars ++ (written (NameToken var) (IsVariable (count_on 1 vars)) ∷ plain Close ∷ []))
brackets_closed [] var = refl
brackets_closed (v ∷ vars) var = ap (λ (ms : List Written). plain Open ∷ written (NameToken v) (IsVariable 1) ∷ ms) (more_closed 2 vars var)

-- one after another
step_by_step : (front vars : List Written) (name opens var closes : Written)
    → front ++ (name ∷ opens ∷ (vars ++ (var ∷ closes ∷ []))) ≡ ((((front ++ (name ∷ [])) ++ (opens ∷ [])) ++ vars) ++ (var ∷ []))
    ++ (closes ∷ [])
step_by_step front vars name opens var closes = sym (
    append_assoc (((front ++ (name ∷ [])) ++ (opens ∷ [])) ++ vars) (var ∷ []) (closes ∷ [])
    ∙ append_assoc ((front ++ (name ∷ [])) ++ (opens ∷ [])) vars (var ∷ closes ∷ [])
    ∙ append_assoc (front ++ (name ∷ [])) (opens ∷ []) (vars ++ (var ∷ closes ∷ []))
    ∙ append_assoc front (name ∷ []) (opens ∷ (vars ++ (var ∷ closes ∷ []))))

step_by_step_on : (front : List Written) (name opens var comma closes : Written) (inside : List Written)
    → front ++ (name ∷ opens ∷ var ∷ comma ∷ (inside ++ (closes ∷ []))) ≡
    (((((front ++ (name ∷ [])) ++ (opens ∷ [])) ++ (var ∷ [])) ++ (comma ∷ [])) ++ inside) ++ (closes ∷ [])
step_by_step_on front name opens var comma closes inside =
    let all = inside ++ (closes ∷ []) in sym (
    append_assoc ((((front ++ (name ∷ [])) ++ (opens ∷ [])) ++ (var ∷ [])) ++ (comma ∷ [])) inside (closes ∷ [])
    ∙ append_assoc (((front ++ (name ∷ [])) ++ (opens ∷ [])) ++ (var ∷ [])) (comma ∷ []) all
    ∙ append_assoc ((front ++ (name ∷ [])) ++ (opens ∷ [])) (var ∷ []) (comma ∷ all)
    ∙ append_assoc (front ++ (name ∷ [])) (opens ∷ []) (var ∷ comma ∷ all)
    ∙ append_assoc front (name ∷ []) (opens ∷ var ∷ comma ∷ all))

access_behind : (front : List Written) (r : Role) (name : Name) (vars : List Name) (var : Name)
    → front ++ access_of r (record { name = name; vars = vars ++ (var ∷ []) }) ≡
    ((((front ++ (written (NameToken name) r ∷ [])) ++ (plain Open ∷ [])) ++ with_commas 1 vars)
    ++ (written (NameToken var) (IsVariable (count_on 1 vars)) ∷ [])) ++ (plain Close ∷ [])
access_behind front r name vars var =
    ap (λ (ms : List Written). front ++ (written (NameToken name) r ∷ ms)) (brackets_closed vars var)
    ∙ step_by_step front (with_commas 1 vars) (written (NameToken name) r) (plain Open)
    (written (NameToken var) (IsVariable (count_on 1 vars))) (plain Close)

-- a state is led to by a symbol
abbrev pub Grows : State → Symbol → State → Type 0
Grows s t next = before next ≡ before s ++ (read s t ∷ [])

leads : (s : State) (t : Symbol) (x y : State) → ◌≡◌ {A = Option State} (Some x) (Some y) → Grows s t x → Grows s t y
leads s t x y e h = subst (Grows s t) (some_is x y e) h

closed_grows : (place : SumPlace) (s : Sum) (next : State) → closed place s ≡ Some next
    → before next ≡ (before_sum place ++ sum_of (sum_levels place) s) ++ (plain Close ∷ [])
closed_grows (OnTheRight left) s next e = nothing_leads next e
closed_grows (InBrackets place) s next e =
    let opens = opens_at (levels place) in
    ap before (sym (some_is (behind_factor place (Bracketed s)) next e))
    ∙ factor_behind place (Bracketed s)
    ∙ sym (append_assoc (before_factor place ++ (opens ∷ [])) (sum_of (suc (levels place)) s) (plain Close ∷ [])
    ∙ append_assoc (before_factor place) (opens ∷ []) (sum_of (suc (levels place)) s ++ (plain Close ∷ [])))
closed_grows (InSum place var) s next e =
    ap before (sym (some_is (behind_factor place (Summed var s)) next e))
    ∙ factor_behind place (Summed var s)
    ∙ step_by_step_on (before_factor place) sum_begins (opens_at (levels place)) (binds var) (plain Comma) (plain Close)
    (sum_of (suc (levels place)) s)

ended_grows : (place : SumPlace) (s : Sum) (next : State) → ended place s ≡ Some next
    → before next ≡ (before_sum place ++ sum_of (sum_levels place) s) ++ (the_end ∷ [])
ended_grows (OnTheRight left) s next e = ap before (sym (some_is (Ended (record { left = left; right = s })) next e))
ended_grows (InBrackets place) s next e = nothing_leads next e
ended_grows (InSum place var) s next e = nothing_leads next e

behind_grows : (place : ProductPlace) (p : Product) (t : Symbol) (next : State) → step_behind place p t ≡ Some next
    → Grows (Behind place p) t next
behind_grows place p (Lexeme (MarkToken Times)) next e =
    leads (Behind place p) (Lexeme (MarkToken Times)) (WantsFactor (BehindTimes place p)) next e refl
behind_grows place p (Lexeme (MarkToken Plus)) next e =
    leads (Behind place p) (Lexeme (MarkToken Plus)) (WantsFactor (FirstFactor (BehindPlus (its_sum place) (sum_with place p)))) next e
    (ap (λ (ms : List Written). ms ++ (plain Plus ∷ [])) (sum_behind place p))
behind_grows place p (Lexeme (MarkToken Minus)) next e =
    leads (Behind place p) (Lexeme (MarkToken Minus)) (WantsFactor (FirstFactor (BehindMinus (its_sum place) (sum_with place p)))) next e
    (ap (λ (ms : List Written). ms ++ (plain Minus ∷ [])) (sum_behind place p))
behind_grows place p (Lexeme (MarkToken Close)) next e = closed_grows (its_sum place) (sum_with place p) next e
    ∙ ap (λ (ms : List Written). ms ++ (plain Close ∷ [])) (sum_behind place p)
behind_grows place p End next e = ended_grows (its_sum place) (sum_with place p) next e
    ∙ ap (λ (ms : List Written). ms ++ (the_end ∷ [])) (sum_behind place p)
behind_grows place p _ next e = nothing_leads next e

left_grows : (access : WrittenAccess) (t : Symbol) (next : State) → step (BehindLeft access) t ≡ Some next
    → Grows (BehindLeft access) t next
left_grows access (Lexeme (MarkToken Equals)) next e =
    leads (BehindLeft access) (Lexeme (MarkToken Equals)) (behind_mark access false) next e refl
left_grows access (Lexeme (MarkToken PlusEquals)) next e =
    leads (BehindLeft access) (Lexeme (MarkToken PlusEquals)) (behind_mark access true) next e refl
left_grows access _ next e = nothing_leads next e

abbrev scalar : Name → WrittenAccess
scalar name = record { name = name; vars = [] }

scalar_grows : (place : FactorPlace) (name : Name) (t : Symbol) (next : State)
    → step_behind (its_product place) (product_with place (Read (scalar name))) t ≡ Some next
    → before next ≡ before (Named (Right place) name) ++ (record { symbol = t; role = Plain } ∷ [])
scalar_grows place name t next e =
    behind_grows (its_product place) (product_with place (Read (scalar name))) t next e
    ∙ ap (λ (ms : List Written). ms ++ (record { symbol = t; role = Plain } ∷ [])) (factor_behind place (Read (scalar name)))

named_opens : (side : Side) (name : Name) → Grows (Named side name) (Lexeme (MarkToken Open)) (WantsVariable side name [])
named_opens side name = append_none (named side name ++ (plain Open ∷ []))

named_grows : (side : Side) (name : Name) (t : Symbol) (next : State) → step (Named side name) t ≡ Some next
    → Grows (Named side name) t next
named_grows side name (Lexeme (MarkToken Open)) next e =
    leads (Named side name) (Lexeme (MarkToken Open)) (WantsVariable side name []) next e (named_opens side name)
named_grows Left name t next e = left_grows (scalar name) t next e
named_grows (Right place) name t next e = scalar_grows place name t next e

variable_closes : (side : Side) (name : Name) (vars : List Name) (var : Name)
    → Grows (BehindVariable side name vars var) (Lexeme (MarkToken Close))
    (behind_access side (record { name = name; vars = vars ++ (var ∷ []) }))
variable_closes Left name vars var = access_behind [] NamesLeft name vars var
variable_closes (Right place) name vars var = factor_behind place (Read (record { name = name; vars = vars ++ (var ∷ []) }))
    ∙ access_behind (before_factor place) NamesRight name vars var

variable_goes_on : (side : Side) (name : Name) (vars : List Name) (var : Name)
    → Grows (BehindVariable side name vars var) (Lexeme (MarkToken Comma)) (WantsVariable side name (vars ++ (var ∷ [])))
variable_goes_on side name vars var =
    let front = named side name ++ (plain Open ∷ []) in
    let v = written (NameToken var) (IsVariable (count_on 1 vars)) in
    ap (λ (ms : List Written). front ++ ms) (commas 1 vars var)
    ∙ sym (append_assoc (front ++ with_commas 1 vars) (v ∷ []) (plain Comma ∷ [])
    ∙ append_assoc front (with_commas 1 vars) (v ∷ plain Comma ∷ []))

variable_grows : (side : Side) (name : Name) (vars : List Name) (var : Name) (t : Symbol) (next : State)
    → step (BehindVariable side name vars var) t ≡ Some next → Grows (BehindVariable side name vars var) t next
variable_grows side name vars var (Lexeme (MarkToken Comma)) next e =
    leads (BehindVariable side name vars var) (Lexeme (MarkToken Comma)) (WantsVariable side name (vars ++ (var ∷ []))) next e
    (variable_goes_on side name vars var)
variable_grows side name vars var (Lexeme (MarkToken Close)) next e =
    leads (BehindVariable side name vars var) (Lexeme (MarkToken Close))
    (behind_access side (record { name = name; vars = vars ++ (var ∷ []) })) next e (variable_closes side name vars var)
variable_grows side name vars var _ next e = nothing_leads next e

wants_variable_grows : (side : Side) (name : Name) (vars : List Name) (t : Symbol) (next : State)
    → step (WantsVariable side name vars) t ≡ Some next → Grows (WantsVariable side name vars) t next
wants_variable_grows side name vars (Lexeme (NameToken var)) next e =
    leads (WantsVariable side name vars) (Lexeme (NameToken var)) (BehindVariable side name vars var) next e refl
wants_variable_grows side name vars _ next e = nothing_leads next e

left_named_grows : (name : Name) (b : Bool) (next : State) → left_named name b ≡ Some next → Grows Start (Lexeme (NameToken name)) next
left_named_grows name true next e = nothing_leads next e
left_named_grows name false next e = leads Start (Lexeme (NameToken name)) (Named Left name) next e refl

start_grows : (t : Symbol) (next : State) → step Start t ≡ Some next → Grows Start t next
start_grows (Lexeme (NameToken name)) next e = left_named_grows name (is_sum name) next e
start_grows _ next e = nothing_leads next e

factor_named_grows : (place : FactorPlace) (name : Name) (b : Bool) → is_sum name ≡ b
    → before (factor_named place name b) ≡ before_factor place ++ (written (NameToken name) (role_of_named b) ∷ [])
factor_named_grows place name true e =
    ap (λ (n : Name). before_factor place ++ (written (NameToken n) Plain ∷ [])) (sym (same_names name sum_name e))
factor_named_grows place name false e = refl

factor_grows : (place : FactorPlace) (t : Symbol) (next : State) → step (WantsFactor place) t ≡ Some next → Grows (WantsFactor place) t next
factor_grows place (Lexeme (NumberToken digits)) next e =
    leads (WantsFactor place) (Lexeme (NumberToken digits)) (behind_factor place (Digits digits)) next e
    (factor_behind place (Digits digits))
factor_grows place (Lexeme (NameToken name)) next e =
    leads (WantsFactor place) (Lexeme (NameToken name)) (factor_named place name (is_sum name)) next e
    (factor_named_grows place name (is_sum name) refl)
factor_grows place (Lexeme (MarkToken Open)) next e =
    leads (WantsFactor place) (Lexeme (MarkToken Open)) (WantsFactor (FirstFactor (First (InBrackets place)))) next e refl
factor_grows place (Lexeme (MarkToken Minus)) next e =
    leads (WantsFactor place) (Lexeme (MarkToken Minus)) (WantsFactor (BehindSign place)) next e refl
factor_grows place _ next e = nothing_leads next e

named_sum_grows : (place : FactorPlace) (t : Symbol) (next : State) → step (NamedSum place) t ≡ Some next → Grows (NamedSum place) t next
named_sum_grows place (Lexeme (MarkToken Open)) next e =
    leads (NamedSum place) (Lexeme (MarkToken Open)) (WantsBound place) next e refl
named_sum_grows place _ next e = nothing_leads next e

wants_bound_grows : (place : FactorPlace) (t : Symbol) (next : State) → step (WantsBound place) t ≡ Some next
    → Grows (WantsBound place) t next
wants_bound_grows place (Lexeme (NameToken var)) next e =
    leads (WantsBound place) (Lexeme (NameToken var)) (BehindBound place var) next e refl
wants_bound_grows place _ next e = nothing_leads next e

bound_grows : (place : FactorPlace) (var : Name) (t : Symbol) (next : State) → step (BehindBound place var) t ≡ Some next
    → Grows (BehindBound place var) t next
bound_grows place var (Lexeme (MarkToken Comma)) next e =
    leads (BehindBound place var) (Lexeme (MarkToken Comma)) (WantsFactor (FirstFactor (First (InSum place var)))) next e refl
bound_grows place var _ next e = nothing_leads next e

-- what has been read grows by each symbol that leads on
pub grows : (s : State) (t : Symbol) (next : State) → step s t ≡ Some next → Grows s t next
grows Start t next e = start_grows t next e
grows (Named side name) t next e = named_grows side name t next e
grows (WantsVariable side name vars) t next e = wants_variable_grows side name vars t next e
grows (BehindVariable side name vars var) t next e = variable_grows side name vars var t next e
grows (BehindLeft access) t next e = left_grows access t next e
grows (WantsFactor place) t next e = factor_grows place t next e
grows (NamedSum place) t next e = named_sum_grows place t next e
grows (WantsBound place) t next e = wants_bound_grows place t next e
grows (BehindBound place var) t next e = bound_grows place var t next e
grows (Behind place p) t next e = behind_grows place p t next e
grows (Ended tree) t next e = nothing_leads next e
